-- `reading::sizes_in` meets its contract.
use borrow.Author.Rules.{rules}
use Rattle.form.specs.Form.{sizes_from}
use Rattle.form.specs.Rows.{width}
use Rattle.form.proofs.Found.{head_at}
use Rattle.form.proofs.reading.sizes_in.Goals as goal

pub number_at-p-requires : goal.number_at-p-requires
unfolding width
number_at-p-requires c = search rules

pub number_at-c-requires : goal.number_at-c-requires
unfolding width
number_at-c-requires c = search rules

pub number_at-b-requires : goal.number_at-b-requires
unfolding width
number_at-b-requires c = search rules

pub number_at-r-requires : goal.number_at-r-requires
unfolding width
number_at-r-requires c = search rules

pub number_at-w-requires : goal.number_at-w-requires
unfolding width
number_at-w-requires c = search rules

pub returns : goal.returns
unfolding sizes_from
returns c = let l = c.args.bytes.now in
    rw (head_at l, c.number_at-w.ensures.0, c.number_at-r.ensures.0, c.number_at-b.ensures.0, c.number_at-c.ensures.0, c.number_at-p.ensures.0, c.number_at-s.ensures.0)
