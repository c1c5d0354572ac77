-- What is lent stays lent, step by step.
use mathlib.Core.Path.{refl, ◌∙◌}
use Rattle.model.specs.declared.Sizes.{Sizes}
use Rattle.meter.specs.Lent.{LentTo, Stays}
use Rattle.meter.specs.declared.Run.{Run}

pub stays_here : (z : Sizes) (r : Run) → LentTo z r → Stays z r r
stays_here z r lent = record { lent = lent; flash = refl; spare = refl; disk = refl }

pub stays_on : (z : Sizes) (a b c : Run) → Stays z a b → Stays z b c → Stays z a c
stays_on z a b c s t = record { lent = t.lent; flash = t.flash ∙ s.flash; spare = t.spare ∙ s.spare; disk = t.disk ∙ s.disk }
