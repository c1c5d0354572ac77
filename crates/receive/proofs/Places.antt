-- The page of a line that reads lies within the chip, and the line says each of its bytes.
use Prim.Native.Nat.{ℕ, ◌+◌, ◌*◌, ◌≤◌}
use mathlib.Core.Path.{◌≡◌}
use mathlib.Core.Bool.{true}
use mathlib.Core.List.{List}
use native.Mathlib.Omega.{arith}
use lib.ListN.{length, drop, length-drop}
use lib.Seq.{take_all}
use Rattle.lists.specs.Lists.{part}
use Rattle.model.specs.declared.Sizes.{Sizes}
use Rattle.model.specs.Sizes.{flash_size, spare_size, page_index}
use Rattle.model.specs.Driving.{bytes_of}
use Rattle.model.specs.Mail.{frame_bucket, frame_page, frame_data, line_reads, place_of}
use Rattle.geometry.proofs.Places.{page_data_lem, page_spare}
use Rattle.model.proofs.MailLines.{frame_length, bucket_below, page_below, data_size}

module _ (z : Sizes) (line : List ℕ) (h : line_reads z line ≡ true) where
  pub data_inside : place_of z line * z.s + z.s ≤ flash_size z
  unfolding place_of page_index
  data_inside = page_data_lem z (frame_bucket (bytes_of line)) (frame_page (bytes_of line)) (bucket_below z line h) (page_below z line h)

  pub tag_inside : place_of z line * 16 + 16 ≤ spare_size z
  unfolding place_of page_index
  tag_inside = page_spare z (frame_bucket (bytes_of line)) (frame_page (bytes_of line)) (bucket_below z line h) (page_below z line h)

  pub tag_said : 16 ≤ length (drop 3 (bytes_of line))
  tag_said = omega (arith, length-drop 3 (bytes_of line), frame_length z line h)

  pub data_said : z.s ≤ length (drop 19 (bytes_of line))
  unfolding frame_data
  data_said = omega (arith, data_size z line h)

  pub data_whole : part (bytes_of line) 19 z.s ≡ frame_data (bytes_of line)
  unfolding part frame_data
  data_whole = take_all z.s (drop 19 (bytes_of line)) (omega (arith, data_size z line h))
