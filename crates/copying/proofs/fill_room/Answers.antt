use Prim.Native.Nat.{◌*◌, ◌≤◌}
use mathlib.Core.Path.{◌≡◌, sym, ap, ◌∙◌}
use native.Mathlib.Nat.{mul-le-mul, mul-le-mul_right}
use native.Mathlib.Omega.{arith}
use Rattle.model.specs.Sizes.{bucket_size, pages_for}
use Rattle.model.specs.Stores.{bucket_bytes}
use Rattle.model.proofs.Limits.{pages_whole}
use Rattle.geometry.specs.Geometry.{device}
use Rattle.meter.specs.declared.Meter.{Meter}
use Rattle.copying.specs.Laid.{listed_bytes}
use Rattle.copying.proofs.Filled.{copy_spliced, copy_whole}
use Rattle.copying.proofs.Sourced.{listed_size}
use Rattle.copying.proofs.fill_room.Goals as goal

pub lay_bytes-requires : goal.lay_bytes-requires
unfolding bucket_size
lay_bytes-requires c =
    let within : c.allowed-pages.result * c.args.z.s ≤ c.args.z.p * c.args.z.s = mul-le-mul_right c.args.z.s (omega (arith, c.allowed-pages.ensures)) in
    record { laid = c.requires.laid; n_bound = within }

pub write_tags-requires : goal.write_tags-requires
unfolding bucket_size
write_tags-requires c =
    let laid = c.requires.laid in
    let z = c.args.z in
    let pages : pages_for z (z.p * z.s) ≡ z.p = pages_whole z (omega (arith, laid.limits.s_low)) in (
      record { limits = laid.limits; bucket = laid.bucket; some = omega (arith, mul-le-mul laid.limits.p_low laid.limits.s_low); room = omega (arith, pages, c.requires.first_value) },
      omega (arith, pages, c.allowed-pages.ensures),
      laid.lent.spare_length,
    )

pub returns : goal.returns
unfolding bucket_size bucket_bytes
returns c =
    let a = c.args in
    let laid = c.requires.laid in
    let bytes = listed_bytes a.z (device a.flash.now a.spare.now a.disk.now) a.list.now a.base a.target.back in
    let spliced = copy_spliced a.z laid.limits a.target c.requires.first_value laid.bucket bytes (listed_size laid) a.flash.now a.spare.now a.disk.now laid.lent a.meter in record {
      after = rw (c.spent.ensures, c.write_tags.ensures, c.lay_bytes.ensures, c.allowed-pages.ensures) (sym spliced);
      lent_after = record { flash_length = omega (arith, laid.lent.flash_length); spare_length = omega (arith, laid.lent.spare_length); disk_length = laid.lent.disk_length };
      bucket_after = λ uncut. rw (c.lay_bytes.ensures, c.allowed-pages.ensures)
          (copy_whole a.z laid.limits a.target c.requires.first_value laid.bucket bytes (listed_size laid) a.flash.now a.spare.now a.disk.now laid.lent a.meter (sym (ap (λ (m : Meter). m.cut) c.spent.ensures) ∙ uncut));
    }
