-- Forms laid into bytes, piece by piece.
use Prim.Native.Nat.{ℕ, suc, ◌+◌, ◌*◌, ◌/◌, ◌%◌, ◌<◌, ◌≤◌}
use mathlib.Core.Path.{◌≡◌, refl, sym, ap, ap₂, ◌∙◌}
use mathlib.Core.Bool.{Bool, true, false}
use mathlib.Core.List.{List, [], ◌∷◌, ◌++◌, map}
use mathlib.Core.Logic.{inl}
use native.Mathlib.Omega.{arith}
use borrow.Author.Tests.{leb-true}
use lib.ListN.{length, drop, get_or, set, length-append, length-map, drop_of_length-le}
use lib.Seq.{drop-cons}
use native.Mathlib.Numerals.{add-one}
use Rattle.lists.specs.Lists.{splice, concat_map}
use Rattle.lists.proofs.Tests.{every_at}
use Rattle.lists.proofs.Splices.{splice-none, splice_one, splice_next}
use Rattle.lists.proofs.Parts.{length-splice, splice_comm}
use Rattle.model.specs.declared.Entry.{Entry}
use Rattle.model.specs.State.{State}
use Rattle.form.specs.Numbers.{number_bytes}
use Rattle.form.specs.Rows.{width, row_bytes, table_bytes}
use Rattle.form.specs.Form.{head_widths, head_numbers, size_numbers, entry_widths, entry_numbers, bucket_widths, bucket_numbers, entries_form, buckets_form, form_of, has_form}
use Rattle.form.specs.Claims.{NeverLonger}
use Rattle.form.proofs.Numbers.{number_length}
use Rattle.form.proofs.Tables.{row_wide}

-- a number's last byte first, then the bytes before it
pub put_last : (l : List ℕ) (at w n : ℕ) → at + suc w ≤ length l → splice (set l (at + w) (n % 256)) at (number_bytes w (n / 256)) ≡ splice l at (number_bytes (suc w) n)
unfolding number_bytes
put_last l at w n h =
    let bs = number_bytes w (n / 256) in
    let wide : length bs ≡ w = number_length w (n / 256) in
    rw (splice_one l (at + w) (n % 256) (omega arith))
    (splice_comm l (at + w) (n % 256 ∷ []) at bs (omega arith) (omega arith) (inl (omega arith))
    ∙ ap (λ (k : ℕ). splice (splice l at bs) (at + k) (n % 256 ∷ [])) (sym wide)
    ∙ splice_next l at bs (n % 256 ∷ []) (omega arith))

-- numbers laid one behind the other
abbrev pub laid : List ℕ → (at : ℕ) (widths numbers : List ℕ) → List ℕ
laid l at [] ns = l
laid l at (w ∷ ws) [] = l
laid l at (w ∷ ws) (n ∷ ns) = laid (splice l at (number_bytes w n)) (at + w) ws ns

-- what is laid behind a piece goes on with it
pub goes_on_lem : (l : List ℕ) (at : ℕ) (bs cs : List ℕ) {l' : List ℕ} {at' : ℕ} → l' ≡ splice l at bs → at' ≡ at + length bs → at + length bs ≤ length l → splice l' at' cs ≡ splice l at (bs ++ cs)
goes_on_lem l at bs cs put behind h = rw (put, behind) (splice_next l at bs cs h)

splice-behind : (l : List ℕ) (at k : ℕ) (bs cs : List ℕ) → length bs ≡ k → at + k ≤ length l → splice (splice l at bs) (at + k) cs ≡ splice l at (bs ++ cs)
splice-behind l at k bs cs wide h = goes_on_lem l at bs cs {at' = at + k} refl (omega arith) (omega arith)

pub row_laid : (ws ns : List ℕ) (l : List ℕ) (at : ℕ) → at + width ws ≤ length l → laid l at ws ns ≡ splice l at (row_bytes ws ns)
unfolding width row_bytes
row_laid [] ns l at h = sym (splice-none l at)
row_laid (w ∷ ws) [] l at h = sym (splice-none l at)
row_laid (w ∷ ws) (n ∷ ns) l at h =
    let bs = number_bytes w n in
    let wide : length bs ≡ w = number_length w n in
    let kept : length (splice l at bs) ≡ length l = length-splice l at bs (omega arith) in
    row_laid ws ns (splice l at bs) (at + w) (omega arith) ∙ splice-behind l at w bs (row_bytes ws ns) wide (omega arith)

-- ---- rows, each made of a value

module _ {A : Type 0} (ws : List ℕ) (numbers : A → List ℕ) where
  abbrev pub rows_of : List A → List ℕ
  rows_of l = concat_map (row_bytes ws) (map numbers l)

  -- the rows of the items from the i-th on are left to be laid, which leads to the whole
  pub record Left (items : List A) (out₀ : List ℕ) (end₀ : ℕ) (out : List ℕ) (end i : ℕ) : Type 0 where
    pub whole : splice out end (rows_of (drop i items)) ≡ splice out₀ end₀ (rows_of items)
    pub ends : end + length (rows_of (drop i items)) ≡ end₀ + length (rows_of items)

  -- none is left
  pub all_put : (items : List A) (i : ℕ) → length items ≤ i → {out₀ out : List ℕ} {end₀ end : ℕ} → Left items out₀ end₀ out end i
      → (end ≡ end₀ + length (rows_of items)) × (out ≡ splice out₀ end₀ (rows_of items))
  unfolding concat_map
  all_put items i h {out = out} {end = end} left =
      let none : drop i items ≡ [] = drop_of_length-le items {i = i} h in
      let e = rw none at left.ends in
      (omega (arith, e), sym (splice-none out end) ∙ rw none at left.whole)

  module _ (shaped : (x : A) → length (numbers x) ≡ length ws) where
    rows_wide : (l : List A) → length (rows_of l) ≡ length l * width ws
    unfolding concat_map
    rows_wide [] = omega arith
    rows_wide (x ∷ l) =
        length-append (row_bytes ws (numbers x)) (rows_of l)
        ∙ rw (row_wide ws (numbers x) (shaped x), rows_wide l) (omega arith)

    next_row : (d : A) (items : List A) (i : ℕ) → i < length items → rows_of (drop i items) ≡ row_bytes ws (numbers (get_or items i d)) ++ rows_of (drop (i + 1) items)
    unfolding concat_map
    next_row d items i h = rw (add-one i) (ap rows_of (drop-cons items i d h))

    pub rows_left : (d : A) (items : List A) (i : ℕ) → i < length items → length (rows_of (drop i items)) ≡ width ws + length (rows_of (drop (i + 1) items))
    rows_left d items i h =
        ap length (next_row d items i h)
        ∙ length-append (row_bytes ws (numbers (get_or items i d))) (rows_of (drop (i + 1) items))
        ∙ rw (row_wide ws (numbers (get_or items i d)) (shaped (get_or items i d)))

    -- with the next row laid, the rows behind it are left
    pub row_put : (d : A) (items : List A) (i : ℕ) → i < length items → {out₀ out : List ℕ} {end₀ end : ℕ} → Left items out₀ end₀ out end i
        → end₀ + length (rows_of items) ≤ length out → Left items out₀ end₀ (splice out end (row_bytes ws (numbers (get_or items i d)))) (end + width ws) (i + 1)
    row_put d items i h {out = out} {end = end} left room =
        let x = row_bytes ws (numbers (get_or items i d)) in
        let rest = rows_of (drop (i + 1) items) in
        let wide : length x ≡ width ws = row_wide ws (numbers (get_or items i d)) (shaped (get_or items i d)) in
        let long = rows_left d items i h in
        record {
          whole = splice-behind out end (width ws) x rest wide (omega (arith, left.ends, long)) ∙ ap (splice out end) (sym (next_row d items i h)) ∙ left.whole;
          ends = omega (arith, left.ends, long);
        }

-- ---- entries and buckets

pub entry_shaped : (write : Bool) (e : Entry) → length (entry_numbers write e) ≡ length (entry_widths write)
unfolding entry_widths entry_numbers
entry_shaped true e = refl
entry_shaped false e = refl

pub bucket_shaped : (c : ℕ) → length (bucket_numbers c) ≡ length bucket_widths
unfolding bucket_numbers
bucket_shaped c = refl

-- a bucket's row is the bucket itself
pub buckets_laid : (l : List ℕ) → ((i : ℕ) → get_or l i 0 < 256) → rows_of bucket_widths bucket_numbers l ≡ l
unfolding concat_map row_bytes bucket_numbers number_bytes
buckets_laid [] h = refl
buckets_laid (c ∷ l) h =
    let same : c % 256 ≡ c = omega (arith, h 0) in
    ap₂ (λ x r. x ∷ r) same (buckets_laid l (λ i. h (suc i)))

pub entry_wide : (write : Bool) → 3 ≤ width (entry_widths write)
unfolding width entry_widths
entry_wide true = omega arith
entry_wide false = omega arith

-- ---- tables: the count, then the rows

module _ {A : Type 0} (c : ℕ) (ws : List ℕ) (numbers : A → List ℕ) where
  abbrev pub table_of : List A → List ℕ
  table_of l = table_bytes c ws (map numbers l)

  pub table_long : (l : List A) → length (table_of l) ≡ c + length (rows_of ws numbers l)
  unfolding table_bytes
  table_long l = length-append (number_bytes c (length (map numbers l))) (rows_of ws numbers l) ∙ rw (number_length c (length (map numbers l)))

  table_wide : ((x : A) → length (numbers x) ≡ length ws) → (l : List A) → length (table_of l) ≡ c + length l * width ws
  table_wide shaped l = table_long l ∙ rw (rows_wide ws numbers shaped l)

  -- with the count laid, the rows are left
  pub table_put : (l : List A) (n : ℕ) → n ≡ length l → (out : List ℕ) (at : ℕ) → at + c ≤ length out
      → splice (splice out at (number_bytes c n)) (at + c) (rows_of ws numbers l) ≡ splice out at (table_of l)
  unfolding table_bytes
  table_put l n e out at h = splice-behind out at c (number_bytes c n) (rows_of ws numbers l) (number_length c n) h ∙ rw (length-map l numbers, ← e)

-- ---- the whole form

entries_wide : (write : Bool) (l : List Entry) → length (entries_form write l) ≡ 1 + length l * width (entry_widths write)
unfolding entries_form
entries_wide write l = table_wide 1 (entry_widths write) (entry_numbers write) (entry_shaped write) l

buckets_wide : (l : List ℕ) → length (buckets_form l) ≡ 2 + length l
unfolding buckets_form width
buckets_wide l = table_wide 2 bucket_widths bucket_numbers bucket_shaped l ∙ omega arith

pub head_wide : (s : State) → length (row_bytes head_widths (head_numbers s)) ≡ 19
unfolding width head_numbers size_numbers
head_wide s = row_wide head_widths (head_numbers s) refl

-- its parts, one behind the other
pub form_long : (s : State) → length (form_of s)
    ≡ 19 + (length (entries_form false s.reads) + (length (entries_form true s.writes) + (length (buckets_form s.gc) + length (buckets_form s.free))))
unfolding form_of
form_long s =
    rw (
      length-append (row_bytes head_widths (head_numbers s)) (entries_form false s.reads ++ (entries_form true s.writes ++ (buckets_form s.gc ++ buckets_form s.free))),
      head_wide s,
      length-append (entries_form false s.reads) (entries_form true s.writes ++ (buckets_form s.gc ++ buckets_form s.free)),
      length-append (entries_form true s.writes) (buckets_form s.gc ++ buckets_form s.free),
      length-append (buckets_form s.gc) (buckets_form s.free),
    )

pub form_wide : (s : State) → length (form_of s) ≡ 25 + length s.reads * 3 + length s.writes * 6 + length s.gc + length s.free
unfolding width entry_widths
form_wide s = omega (arith, form_long s, entries_wide false s.reads, entries_wide true s.writes, buckets_wide s.gc, buckets_wide s.free)

pub never_longer : NeverLonger
unfolding has_form
never_longer s has =
    let reads = leb-true (length s.reads) 64 (every_at _ has 1) in
    let writes = leb-true (length s.writes) 64 (every_at _ has 2) in
    let gc = leb-true (length s.gc) 256 (every_at _ has 3) in
    let free = leb-true (length s.free) 256 (every_at _ has 4) in
    omega (arith, form_wide s)
