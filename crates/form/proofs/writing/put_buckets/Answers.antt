-- `writing::put_buckets` meets its contract.
use Prim.Native.Nat.{ℕ, ◌+◌}
use mathlib.Core.List.{List}
use mathlib.Core.Path.{◌≡◌, refl, sym, ap, ◌∙◌}
use native.Mathlib.Omega.{arith}
use lib.ListN.{length, get_or}
use mir.Val.{Fits}
use mir.Syntax.{w8}
use Rattle.lists.specs.Lists.{splice}
use Rattle.form.specs.Numbers.{number_bytes}
use Rattle.form.specs.Form.{bucket_widths, bucket_numbers, buckets_form}
use Rattle.form.proofs.Written.{buckets_laid, rows_of, table_long, table_put}
use Rattle.form.proofs.writing.put_buckets.Goals as goal

pub put_number-requires : goal.put_number-requires
unfolding buckets_form
put_number-requires c = omega (arith, table_long 2 bucket_widths bucket_numbers c.args.buckets.now, c.requires)

-- the buckets' bytes are the buckets
laid : (buckets : List ℕ) → ((i : ℕ) → Fits w8 (get_or buckets i 0)) → rows_of bucket_widths bucket_numbers buckets ≡ buckets
laid buckets fit = buckets_laid buckets (λ i. omega (arith, fit i))

pub write_at-requires : goal.write_at-requires
unfolding buckets_form
write_at-requires c = let buckets = c.args.buckets.now in
    omega (arith, table_long 2 bucket_widths bucket_numbers buckets, ap length (laid buckets c.type_inv.buckets), c.requires)

pub overflow_add-result-2 : goal.overflow_add-result-2
unfolding buckets_form
overflow_add-result-2 c = let buckets = c.args.buckets.now in
    omega (arith, table_long 2 bucket_widths bucket_numbers buckets, ap length (laid buckets c.type_inv.buckets), c.requires)

pub returns : goal.returns
unfolding buckets_form
returns c = let out = c.args.out.now in let at = c.args.at in let buckets = c.args.buckets.now in
    let n = length buckets in
    let long = table_long 2 bucket_widths bucket_numbers buckets in (
      omega (arith, long, ap length (laid buckets c.type_inv.buckets)),
      c.write_at.ensures
          ∙ rw c.put_number.ensures
          (ap (λ (l : List ℕ). splice (splice out at (number_bytes 2 n)) (at + 2) l) (sym (laid buckets c.type_inv.buckets))
          ∙ table_put 2 bucket_widths bucket_numbers buckets n refl out at (omega (arith, long, c.requires))),
    )
