-- `reading::behind` meets its contract.
use mathlib.Core.Path.{sym, ◌∙◌}
use borrow.Author.Tests.{lt-ltb, le-ltb}
use lib.ListN.{length}
use Rattle.form.specs.Places.{behind_or_beyond}
use Rattle.form.proofs.reading.behind.Goals as goal

pub returns-then-bytes-at : goal.returns-then-bytes-at
unfolding behind_or_beyond
returns-then-bytes-at c = λ ws wide. rw (lt-ltb (length c.args.bytes.now) c.args.at c.if-bytes-at.true)

pub returns-then-table_fits : goal.returns-then-table_fits
unfolding behind_or_beyond
returns-then-table_fits c = λ ws wide. rw (le-ltb (length c.args.bytes.now) c.args.at c.if-bytes-at.false, sym (c.table_fits.ensures ws wide) ∙ c.if-table_fits.true) (c.table_end.ensures ws wide)

pub returns : goal.returns
unfolding behind_or_beyond
returns c = λ ws wide. rw (le-ltb (length c.args.bytes.now) c.args.at c.if-bytes-at.false, sym (c.table_fits.ensures ws wide) ∙ c.if-table_fits.false)
