use mathlib.Core.Bool.{Bool, ◌&&◌, and_assoc}
use mathlib.Core.Path.{◌≡◌, refl, sym, ap, ◌∙◌}
use Prim.Native.Nat.{ℕ, ◌+◌, ◌-◌, ◌≤◌}
use native.Mathlib.Omega.{arith}
use lib.ListN.{length, take, drop, length-drop}
use Rattle.lists.specs.Lists.{all, part, same, ff}
use Rattle.lists.proofs.Members.{lent_rest}
use Rattle.spare.proofs.Runs.{is_erased, all_erased, erased_more, erased_ends}
use Rattle.spare.proofs.eights_erased.Goals as goal

pub loop-i-init : goal.loop-i-init
loop-i-init c = (omega arith, refl)

pub loop-i-preserved : goal.loop-i-preserved
unfolding part
loop-i-preserved c = let l = c.loop-i in
    let bytes = c.args.bytes.now in
    let inside : l.i + 128 ≤ length bytes = omega arith in
    let eight : l.i + 128 - l.i ≡ 128 = omega arith in
    let told : c.equal-eight.result ≡ same (part bytes l.i 128) (ff 128) = c.equal-eight.ensures ∙ ap (λ (n : ℕ). same (take n (drop l.i bytes)) (ff 128)) eight in (
      omega arith,
      and_assoc l.alike c.equal-eight.result (all is_erased (drop (l.i + 128) bytes))
          ∙ (ap (λ (t : Bool). l.alike && (t && all is_erased (drop (l.i + 128) bytes))) told ∙ (ap (λ (t : Bool). l.alike && t) (sym (erased_more bytes l.i 128 inside)) ∙ l.invariant.1)),
    )

pub returns : goal.returns
unfolding part
returns c = let start = c in
    let l = c.loop-i in
    let bytes = start.args.bytes.now in
    let last = length bytes - 128 in
    let ends = drop last bytes in
    let size : length ends ≡ 128 = length-drop last bytes ∙ omega (arith, start.requires) in
    let told : c.equal.result ≡ same ends (ff (length ends)) = c.equal.ensures ∙ rw (lent_rest bytes last, size) in
    ap (λ (t : Bool). l.alike && t) (told ∙ sym (all_erased ends)) ∙ (erased_ends bytes l.i last l.alike (omega arith) l.invariant.0 l.invariant.1 ∙ all_erased bytes)
