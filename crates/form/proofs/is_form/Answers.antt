-- `is_form` meets its contract.
use Prim.Native.Nat.{ℕ, ◌≤◌}
use mathlib.Core.Bool.{true, false, and-true}
use mathlib.Core.List.{List}
use mathlib.Core.Path.{◌≡◌, sym, ◌∙◌}
use borrow.Author.Tests.{lt-leb, eq-eqb, ne_eqb}
use lib.Dec.{leb, eqb}
use lib.ListN.{length}
use Rattle.lists.specs.Lists.{every}
use Rattle.lists.proofs.Tests.{and_false}
use Rattle.form.specs.Form.{entry_widths, bucket_widths, is_form}
use Rattle.form.specs.Rows.{width}
use Rattle.form.specs.Places.{behind_or_beyond}
use Rattle.form.proofs.Places.{read_wide, write_wide, bucket_wide, form_tables, standing, tables_stand, form_stands, writes_behind}
use Rattle.form.proofs.is_form.Goals as goal

-- whether the tables stand is told by the last of the places that are found one behind the other
told : (l : List ℕ) → 19 ≤ length l → {w g f end : ℕ} → w ≡ behind_or_beyond l 1 (entry_widths false) 64 19 → g ≡ behind_or_beyond l 1 (entry_widths true) 64 w
    → f ≡ behind_or_beyond l 2 bucket_widths 256 g → end ≡ behind_or_beyond l 2 bucket_widths 256 f → eqb end (length l) ≡ standing l form_tables 19
told l long w g f end = rw (end, f, g, w) (tables_stand l form_tables 19 long)

pub returns-then-bytes-lt-HEAD : goal.returns-then-bytes-lt-HEAD
unfolding is_form every width
returns-then-bytes-lt-HEAD c = let l = c.args.bytes.now in
    let short : leb 19 (length l) ≡ false = lt-leb 19 (length l) c.if-bytes-lt-HEAD.true in
    rw short

pub returns-then-end-bytes : goal.returns-then-end-bytes
returns-then-end-bytes c = let l = c.args.bytes.now in
    let long = c.if-bytes-lt-HEAD.false in
    let stand : standing l form_tables 19 ≡ false = sym (told l long (c.behind-writes.ensures (entry_widths false) read_wide) (c.behind-gc.ensures (entry_widths true) write_wide) (c.behind-free.ensures bucket_widths bucket_wide) (c.behind-end.ensures bucket_widths bucket_wide)) ∙ ne_eqb _ _ c.if-end-bytes.true in
    sym (form_stands l long ∙ rw (stand, and_false, and_false))

pub marks_fit-requires : goal.marks_fit-requires
marks_fit-requires c = let l = c.args.bytes.now in
    let long = c.if-bytes-lt-HEAD.false in
    let stand : standing l form_tables 19 ≡ true = sym (told l long (c.behind-writes.ensures (entry_widths false) read_wide) (c.behind-gc.ensures (entry_widths true) write_wide) (c.behind-free.ensures bucket_widths bucket_wide) (c.behind-end.ensures bucket_widths bucket_wide)) ∙ eq-eqb _ _ c.if-end-bytes.false in
    let writes = writes_behind l long stand in
    rw (c.behind-writes.ensures (entry_widths false) read_wide, writes.0) writes.1

pub returns : goal.returns
returns c = let l = c.args.bytes.now in
    let long = c.if-bytes-lt-HEAD.false in
    let stand : standing l form_tables 19 ≡ true = sym (told l long (c.behind-writes.ensures (entry_widths false) read_wide) (c.behind-gc.ensures (entry_widths true) write_wide) (c.behind-free.ensures bucket_widths bucket_wide) (c.behind-end.ensures bucket_widths bucket_wide)) ∙ eq-eqb _ _ c.if-end-bytes.false in
    rw (c.marks_fit.ensures, c.behind-writes.ensures (entry_widths false) read_wide, (writes_behind l long stand).0, c.number_at-running.ensures.0)
    (sym (form_stands l long ∙ rw (stand, and-true)))
