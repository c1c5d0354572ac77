use Rattle.rules.specs.Pages.{log_fits, kind_fits}
use Rattle.rules.proofs.Page.{fields_tested}
use Rattle.spare.specs.Fields.{fields}
use Rattle.model.specs.Image.{fields_fit}
use Rattle.model.specs.Spare.{epoch, back, zeros}
use lib.Dec.{leb, ltb}
use Prim.Native.Nat.{ℕ}
use mathlib.Core.Bool.{Bool, true, false, ◌&&◌}
use mathlib.Core.List.{List}
use mathlib.Core.Path.{◌≡◌, ◌∙◌}
use Rattle.rules.proofs.fields_fit.Goals as goal

pub returns-then-not-within-zeroed : goal.returns-then-not-within-zeroed
unfolding fields epoch back
returns-then-not-within-zeroed c = let told : (tag : List ℕ) → fields tag ≡ c.args.f → zeros tag ≡ c.args.zeroed → (t : Bool)
    → (leb 1 c.args.f.epoch && ltb c.args.f.back c.args.z.b && c.args.zeroed) ≡ t
    → (t && (log_fits c.args.z tag && kind_fits c.args.z tag)) ≡ fields_fit c.args.z tag = λ tag e h t p. rw (← p, ← h, ← e) (fields_tested c.args.z tag) in
    λ tag e h. told tag e h false (c.if-not-within-zeroed.true)

pub returns : goal.returns
unfolding fields epoch back
returns c = let told : (tag : List ℕ) → fields tag ≡ c.args.f → zeros tag ≡ c.args.zeroed → (t : Bool)
    → (leb 1 c.args.f.epoch && ltb c.args.f.back c.args.z.b && c.args.zeroed) ≡ t
    → (t && (log_fits c.args.z tag && kind_fits c.args.z tag)) ≡ fields_fit c.args.z tag = λ tag e h t p. rw (← p, ← h, ← e) (fields_tested c.args.z tag) in
    λ tag e h. c.starts.ensures tag e ∙ told tag e h true (c.if-not-within-zeroed.false)
