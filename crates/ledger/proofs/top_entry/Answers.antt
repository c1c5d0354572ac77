use Rattle.image.specs.Chip.{spare_only}
use Rattle.model.specs.Ledger.{entry_fits, entries_fit}
use Rattle.lists.proofs.Rows.{all-below}
use Rattle.lists.specs.Lists.{max_below}
use native.Mathlib.Omega.{arith}
use native.Mathlib.Numerals.{add-one}
use mathlib.Core.Path.{refl, ◌∙◌}
use Prim.Native.Nat.{◌*◌}
use Rattle.ledger.proofs.top_entry.Goals as goal

pub loop-i-init : goal.loop-i-init
unfolding max_below
loop-i-init c = refl

pub entry_epoch-requires : goal.entry_epoch-requires
unfolding entries_fit
entry_epoch-requires c = record {
  chip = c.requires.chip;
  i_bound = omega arith;
  i_value = all-below (2 * c.args.z.p) (entry_fits c.args.z (spare_only c.args.spare.now)) c.requires.spare_value c.loop-i.i (omega arith);
}

pub loop-i-preserved : goal.loop-i-preserved
unfolding max_below
loop-i-preserved c = c.max-top.ensures ∙ rw (add-one c.loop-i.i, c.loop-i.invariant, c.entry_epoch.ensures)
