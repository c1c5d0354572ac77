use lib.Dec.{leb, ltb}
use Rattle.lists.proofs.Tests.{every-four}
use Rattle.model.specs.State.{top_epoch}
use Rattle.image.specs.Chip.{spare_only}
use Rattle.image.proofs.First.{formed_headed}
use Rattle.ledger.proofs.Pages.{formed_body, formed_entries}
use Rattle.fits.specs.Fits.{numbers_fit}
use Rattle.fits.proofs.numbers_fit.Goals as goal

pub top_epoch-top-requires : goal.top_epoch-top-requires
top_epoch-top-requires c = let o = c in let z = o.args.s.sizes in let d = spare_only o.args.spare.now in
    record { chip = o.requires.chip; headed = formed_headed z d o.requires.chip.limits.p_low (formed_body z d o.requires.spare_value); spare_value = formed_entries z d o.requires.spare_value }

pub returns : goal.returns
unfolding numbers_fit
returns c = let s = c.args.s in
    rw c.top_epoch-top.ensures (every-four (leb s.accepted 15) (leb 1 s.next) (ltb (top_epoch s.sizes (spare_only c.args.spare.now)) s.next) (leb s.next 4294967296))
