-- Number 5 is that of every device with the same spare area.
use mathlib.Core.Path.{◌≡◌, fun_ext}
use Rattle.model.specs.declared.Sizes.{Sizes}
use Rattle.model.specs.declared.Entry.{Entry}
use Rattle.model.specs.Sizes.{Device}
use Rattle.model.specs.Stores.{tag_of}
use Rattle.model.specs.Image.{used, back_of, is_write, is_copy, page_programmed, complete, page_blank, blanks}
use Rattle.model.specs.Ledger.{ledger_tag, one_in_use}
use Rattle.model.specs.State.{State, read_agrees, count_agrees, write_agrees, all_blank, entry_epoch, top_epoch, state_fits}
use Rattle.image.specs.Chip.{spare_only}
use Rattle.image.proofs.SameSpare.{same_head, same-epoch}

module _ (z : Sizes) (d : Device) where
  same_read : (e : Entry) → read_agrees z (spare_only d.spare) e ≡ read_agrees z d e
  unfolding read_agrees complete is_copy used back_of page_programmed tag_of
  same_read e = rw (same_head z d e.cache)

  same_write : (e : Entry) → write_agrees z (spare_only d.spare) e ≡ write_agrees z d e
  unfolding write_agrees count_agrees is_write used back_of blanks page_blank tag_of
  same_write e = rw (same_head z d e.cache)

  same_top : top_epoch z (spare_only d.spare) ≡ top_epoch z d
  unfolding top_epoch entry_epoch ledger_tag tag_of
  same_top = rw (fun_ext (same-epoch z d))

pub same-fits : (s : State) (d : Device) → state_fits s (spare_only d.spare) ≡ state_fits s d
unfolding state_fits all_blank blanks page_blank one_in_use tag_of
same-fits s d = rw (fun_ext (same_read s.sizes d), fun_ext (same_write s.sizes d), same_top s.sizes d)
