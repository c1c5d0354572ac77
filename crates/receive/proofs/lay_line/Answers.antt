-- `receive::lay_line` meets its contract.
use Prim.Native.Nat.{ℕ, ◌+◌, ◌*◌, ◌≤◌}
use mathlib.Core.Path.{◌≡◌, ap, ap₂, ◌∙◌}
use mathlib.Core.Bool.{true}
use mathlib.Core.List.{List, []}
use native.Mathlib.Omega.{arith}
use lib.ListN.{length}
use Rattle.lists.specs.Lists.{splice, part}
use Rattle.lists.proofs.Lent.{put_back, lent_length}
use Rattle.model.specs.declared.Sizes.{Sizes}
use Rattle.model.specs.Sizes.{flash_size, spare_size}
use Rattle.model.specs.Stores.{apply}
use Rattle.model.specs.Driving.{bytes_of}
use Rattle.model.specs.Mail.{frame_tag, frame_data, line_reads, place_of, line_store}
use Rattle.geometry.specs.Geometry.{device}
use Rattle.model.proofs.MailLines.{line_digits, tag_size, data_size}
use Rattle.receive.proofs.Places.{data_inside, tag_inside, tag_said, data_said, data_whole}
use Rattle.receive.proofs.lay_line.Goals as goal

-- the parts of the page that a line gives lie within the chip
inside : (z : Sizes) (line flash spare : List ℕ) (page : ℕ) → line_reads z line ≡ true → (length flash ≡ flash_size z) × (length spare ≡ spare_size z) → page ≡ place_of z line
    → (page * z.s + z.s ≤ length flash) × (page * 16 + 16 ≤ length spare)
inside z line flash spare page reads lengths e = (rw (e, lengths.0) (data_inside z line reads), rw (e, lengths.1) (tag_inside z line reads))

pub overflow_mul-spare_at : goal.overflow_mul-spare_at
overflow_mul-spare_at c =
    let a = c.args in
    omega (arith, inside a.z a.line.now a.flash.now a.spare.now c.place_of-page.result c.requires.limits.1 c.requires.flash_len c.place_of-page.ensures.0)

pub overflow_add-spare_end : goal.overflow_add-spare_end
overflow_add-spare_end c =
    let a = c.args in
    omega (arith, inside a.z a.line.now a.flash.now a.spare.now c.place_of-page.result c.requires.limits.1 c.requires.flash_len c.place_of-page.ensures.0)

pub overflow_mul-data_at : goal.overflow_mul-data_at
overflow_mul-data_at c =
    let a = c.args in
    omega (arith, inside a.z a.line.now a.flash.now a.spare.now c.place_of-page.result c.requires.limits.1 c.requires.flash_len c.place_of-page.ensures.0)

pub overflow_add-data_end : goal.overflow_add-data_end
overflow_add-data_end c =
    let a = c.args in
    omega (arith, inside a.z a.line.now a.flash.now a.spare.now c.place_of-page.result c.requires.limits.1 c.requires.flash_len c.place_of-page.ensures.0)

pub slice_bounds-decode-end : goal.slice_bounds-decode-end
slice_bounds-decode-end c =
    let a = c.args in
    omega (arith, inside a.z a.line.now a.flash.now a.spare.now c.place_of-page.result c.requires.limits.1 c.requires.flash_len c.place_of-page.ensures.0)

pub slice_bounds-decode-end-2 : goal.slice_bounds-decode-end-2
slice_bounds-decode-end-2 c =
    let a = c.args in
    omega (arith, inside a.z a.line.now a.flash.now a.spare.now c.place_of-page.result c.requires.limits.1 c.requires.flash_len c.place_of-page.ensures.0)

pub decode-requires : goal.decode-requires
decode-requires c =
    let a = c.args in
    let reads = c.requires.limits.1 in
    let lent = lent_length a.spare.now (c.place_of-page.result * 16) 16 (inside a.z a.line.now a.flash.now a.spare.now c.place_of-page.result c.requires.limits.1 c.requires.flash_len c.place_of-page.ensures.0).1 in
    record { line_value = line_digits a.z a.line.now reads; out_in_bounds = rw lent (tag_said a.z a.line.now reads) }

pub decode-requires-2 : goal.decode-requires-2
decode-requires-2 c =
    let a = c.args in
    let reads = c.requires.limits.1 in
    let lent = lent_length a.flash.now (c.place_of-page.result * a.z.s) a.z.s (inside a.z a.line.now a.flash.now a.spare.now c.place_of-page.result c.requires.limits.1 c.requires.flash_len c.place_of-page.ensures.0).0 in
    record { line_value = line_digits a.z a.line.now reads; out_in_bounds = rw lent (data_said a.z a.line.now reads) }

pub returns : goal.returns
unfolding apply line_store place_of frame_tag
returns c =
    let a = c.args in
    let z = a.z in
    let flash = a.flash.now in
    let spare = a.spare.now in
    let f = bytes_of a.line.now in
    let reads = c.requires.limits.1 in
    let page = c.place_of-page.result in
    let within = inside a.z a.line.now a.flash.now a.spare.now c.place_of-page.result c.requires.limits.1 c.requires.flash_len c.place_of-page.ensures.0 in
    let data-lent = lent_length flash (page * z.s) z.s within.0 in
    let tag-lent = lent_length spare (page * 16) 16 within.1 in
    let bytes = c.decode-2.ensures ∙ ap (part f 19) data-lent ∙ data_whole z a.line.now reads in
    let tag = c.decode.ensures ∙ ap (part f 3) tag-lent in record {
      spare_after = ap₂
          (λ (b t : List ℕ). device b t [])
          (put_back flash (page * z.s) z.s bytes (data_size z a.line.now reads)
          ∙ ap (λ (p : ℕ). splice flash (p * z.s) (frame_data f)) c.place_of-page.ensures.0)
          (put_back spare (page * 16) 16 tag (tag_size z a.line.now reads)
          ∙ ap (λ (p : ℕ). splice spare (p * 16) (frame_tag f)) c.place_of-page.ensures.0);
      flash_len_2 = (omega (arith, c.decode-2.auto.out, c.requires.flash_len.0), omega (arith, c.decode.auto.out, c.requires.flash_len.1));
    }
