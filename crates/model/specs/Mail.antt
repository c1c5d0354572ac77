-- Chip images by mail: the text of an image, one frame of hexadecimal a line, and the image that a text says.
use Rattle.std.specs.Prelude.{ℕ, ◌+◌, ◌*◌, ◌/◌, ◌%◌, ◌≡◌, Bool, true, not, ◌&&◌, List, [], ◌∷◌, ◌++◌, map, length, drop, get_or, leb, ltb, eqb, if◌then◌else◌}
use Rattle.lists.specs.Lists.{every, all, keep, below, concat_map, member, part, ff}
use Rattle.model.specs.declared.Sizes.{Sizes}
use Rattle.model.specs.declared.Answer.{Answer}
use Rattle.model.specs.declared.Answer.TheVariants.{Done, Refused}
use Rattle.model.specs.Tests.{Test, first_failed}
use Rattle.model.specs.Sizes.{Device, limits, flash_size, spare_size, page_index}
use Rattle.model.specs.Stores.{Store, program, apply_all, page_tag, page_data}
use Rattle.model.specs.Spare.{two, blank}
use Rattle.model.specs.Driving.{is_digit, bytes_of, digits_of, lines_of}

-- ---- frames: "bucket (2 bytes), page (1), 16 spare bytes, S data bytes"

unfoldable pub frame_bucket : List ℕ → ℕ
frame_bucket f = two f 0

unfoldable pub frame_page : List ℕ → ℕ
frame_page f = get_or f 2 0

unfoldable pub frame_tag : List ℕ → List ℕ
frame_tag f = part f 3 16

unfoldable pub frame_data : List ℕ → List ℕ
frame_data f = drop 19 f

-- what the reader hands back, and what the writer does; neither is lent the disk
pub record TextRead : Type 0 where
  pub answer : Answer
  pub device : Device

pub record TextWritten : Type 0 where
  pub answer : Answer
  pub length : ℕ
  pub buffer : List ℕ

module _ (z : Sizes) where
  -- "a lent length is its own of C × P × S, C × P × 16"
  unfoldable pub chip_lengths : Device → Bool
  chip_lengths d = eqb (length d.flash) (flash_size z) && eqb (length d.spare) (spare_size z)

  -- "every entry: sizes", "buffers"
  unfoldable pub chip_tests : Device → List Test
  chip_tests d = (1, limits z) ∷ (2, chip_lengths d) ∷ []

  -- ---- the reader: "lines in any order and either letter case"

  -- no "malformed line", no "bucket or page out of range", no "erased spare area"
  unfoldable pub line_reads : List ℕ → Bool
  line_reads line = every
      (all is_digit line
      ∷ eqb (length line) ((19 + z.s) * 2)
      ∷ ltb (frame_bucket (bytes_of line)) z.c
      ∷ ltb (frame_page (bytes_of line)) z.p
      ∷ not (blank (frame_tag (bytes_of line))) ∷ [])

  -- the page that a line gives, counted over the whole chip
  unfoldable pub place_of : List ℕ → ℕ
  place_of line = page_index z (frame_bucket (bytes_of line)) (frame_page (bytes_of line))

  -- "9 is checked before 10": "10 a page given twice", in an earlier line
  unfoldable pub line_tests : (given : List ℕ) → List ℕ → List Test
  line_tests given line = (9, line_reads line) ∷ (10, not (member (place_of line) given)) ∷ []

  -- "the first faulty line decides": its number, or 0 where none is faulty
  unfoldable pub fault_in : (given : List ℕ) → List (List ℕ) → ℕ
  fault_in given [] = 0
  fault_in given (l ∷ ls) =
      let n = first_failed (line_tests given l) in
      if eqb n 0 then fault_in (place_of l ∷ given) ls else n

  unfoldable pub text_fault : List ℕ → ℕ
  text_fault text = fault_in [] (lines_of text)

  unfoldable pub read_tests : Device → List ℕ → List Test
  read_tests d text = chip_tests d ++ ((text_fault text, eqb (text_fault text) 0) ∷ [])

  -- a line's page is programmed
  unfoldable pub line_store : List ℕ → Store
  line_store line = program (frame_bucket (bytes_of line)) (frame_page (bytes_of line)) (frame_data (bytes_of line)) (frame_tag (bytes_of line))

  -- "Pages not listed become FF throughout."
  unfoldable pub erased_chip : Device → Device
  erased_chip d = record { flash = ff (flash_size z); spare = ff (spare_size z); disk = d.disk }

  abbrev pub laid_out : Device → List (List ℕ) → Device
  laid_out d lines = apply_all z (erased_chip d) (map line_store lines)

  unfoldable pub image_of : Device → List ℕ → Device
  image_of d text = laid_out d (lines_of text)

  -- "On refusal the lent image is untouched."
  unfoldable pub read_text : Device → List ℕ → TextRead
  read_text d text =
      let n = first_failed (read_tests d text) in
      if eqb n 0 then record { answer = Done; device = image_of d text } else record { answer = Refused n; device = d }

  -- ---- the writer: "capitals, rising bucket then page"

  -- "non-blank pages only"
  unfoldable pub is_listed : Device → (page : ℕ) → Bool
  is_listed d g = not (blank (page_tag d g))

  unfoldable pub page_frame : Device → (page : ℕ) → List ℕ
  page_frame d g = (g / z.p / 256) ∷ (g / z.p % 256) ∷ (g % z.p) ∷ (page_tag d g ++ page_data z d g)

  -- "One frame of hexadecimal a line", "the writer ends all"
  unfoldable pub page_line : Device → (page : ℕ) → List ℕ
  page_line d g = digits_of (page_frame d g) ++ (10 ∷ [])

  unfoldable pub text_of : Device → List ℕ
  text_of d = concat_map (page_line d) (keep (is_listed d) (below (z.c * z.p)))

  -- "A text buffer too short is number 2"
  unfoldable pub write_tests : Device → (room : ℕ) → List Test
  write_tests d room = chip_tests d ++ ((2, leb (length (text_of d)) room) ∷ [])

  -- "bytes past the text stay"
  unfoldable pub write_text : Device → List ℕ → TextWritten
  write_text d buffer =
      let n = first_failed (write_tests d (length buffer)) in
      if eqb n 0
      then record { answer = Done; length = length (text_of d); buffer = text_of d ++ drop (length (text_of d)) buffer }
      else record { answer = Refused n; length = 0; buffer = buffer }

  -- ---- what is claimed of both

  -- a text that is accepted
  unfoldable pub Reads : Device → List ℕ → Type 0
  Reads d text = first_failed (read_tests d text) ≡ 0

  -- the image with its pages not listed FF throughout
  unfoldable pub cleaned : Device → Device
  cleaned d = record {
    flash = concat_map (λ g. if is_listed d g then page_data z d g else ff z.s) (below (z.c * z.p));
    spare = d.spare;
    disk = d.disk;
  }

unfoldable pub is_byte : ℕ → Bool
is_byte v = ltb v 256

-- a chip of bytes
unfoldable pub chip_bytes : Device → Bool
chip_bytes d = all is_byte d.flash && all is_byte d.spare

pub record ImagesByMail : Type 0 where
  -- what the writer wrote is accepted, and read as the image
  pub back : (z : Sizes) (d : Device) → limits z ≡ true → chip_lengths z d ≡ true → chip_bytes d ≡ true
      → Reads z d (text_of z d) × (image_of z d (text_of z d) ≡ cleaned z d)
  -- "The reader takes lines in any order": two neighbours may change places
  pub ordered : (z : Sizes) (d : Device) (before : List (List ℕ)) (k l : List ℕ) (behind : List (List ℕ)) → fault_in z [] (before ++ (k ∷ l ∷ behind)) ≡ 0
      → (fault_in z [] (before ++ (l ∷ k ∷ behind)) ≡ 0) × (laid_out z d (before ++ (l ∷ k ∷ behind)) ≡ laid_out z d (before ++ (k ∷ l ∷ behind)))
  -- "Two accepted texts read as the same image exactly when rewriting gives equal texts"
  pub alike : (z : Sizes) (d : Device) (t u : List ℕ) → Reads z d t → Reads z d u
      → (image_of z d t ≡ image_of z d u → text_of z (image_of z d t) ≡ text_of z (image_of z d u))
      × (text_of z (image_of z d t) ≡ text_of z (image_of z d u) → image_of z d t ≡ image_of z d u)
  -- "rewriting twice changes nothing"
  pub settled : (z : Sizes) (d : Device) (t : List ℕ) → Reads z d t
      → Reads z d (text_of z (image_of z d t)) × (text_of z (image_of z d (text_of z (image_of z d t))) ≡ text_of z (image_of z d t))
