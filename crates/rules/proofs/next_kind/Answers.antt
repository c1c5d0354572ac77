use Rattle.model.specs.declared.Sizes.{Sizes}
use Rattle.model.specs.Sizes.{Device}
use Rattle.image.proofs.First.{first_inside, first_tag_lem}
use Rattle.image.specs.Chip.{spare_only}
use Rattle.model.specs.Stores.{tag_of}
use Rattle.model.specs.Spare.{kind}
use Rattle.model.proofs.Limits.{on_chip}
use mathlib.Core.Path.{◌≡◌, sym, ap, ◌∙◌}
use Prim.Native.Nat.{ℕ, ◌+◌, ◌<◌}
use native.Mathlib.Decide.{ℕ_discrete}
use native.Mathlib.Omega.{arith}
use Rattle.rules.proofs.next_kind.Goals as goal

-- one more bucket
more : (z : Sizes) (d : Device) (e j : ℕ) → (j < e → kind (tag_of z d j 0) ≡ 255) → kind (tag_of z d e 0) ≡ 255 → Dec (j ≡ e) → j < e + 1
    → kind (tag_of z d j 0) ≡ 255
more z d e j all last (yes q) h = rw q last
more z d e j all last (no n) h = all (omega arith)

pub loop-e-init : goal.loop-e-init
loop-e-init c = record { start = omega arith; within = omega (arith, c.requires.c_bound); erased = λ j h g. absurd (omega arith) }

pub overflow_mul-e : goal.overflow_mul-e
overflow_mul-e c = let o = c in omega (arith, first_inside o.requires.chip (on_chip o.args.z c.loop-e.e (omega arith)))

pub kind_at-requires : goal.kind_at-requires
kind_at-requires c = let o = c in first_inside o.requires.chip (on_chip o.args.z c.loop-e.e (omega arith))

pub loop-e-preserved : goal.loop-e-preserved
loop-e-preserved c = let a = c.args in let l = c.loop-e in let d = spare_only a.spare.now in
    let none : kind (tag_of a.z d l.e 0) ≡ 255 = ap kind (sym (first_tag_lem a.z d l.e)) ∙ (sym c.kind_at.ensures ∙ c.if-kind_at.false) in
    record {
      start = omega (arith, l.invariant.start);
      within = omega arith;
      erased = λ j h g. more a.z d l.e j (λ q. l.invariant.erased j h q) none (ℕ_discrete j l.e) g;
    }

pub returns : goal.returns
returns c = let e : c.loop-e.e ≡ c.body-end.result = omega arith in rw e at c.loop-e.invariant
