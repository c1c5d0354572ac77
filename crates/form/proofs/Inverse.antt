-- The form of a state and its bytes are each other's inverse.
use Prim.Native.Nat.{ℕ, zero, suc, ◌≤◌}
use mathlib.Core.Path.{◌≡◌, refl, sym, ap, ◌∙◌}
use mathlib.Core.Bool.{Bool, true, false, not, ◌&&◌}
use mathlib.Core.List.{List, [], ◌∷◌, ◌++◌, map, append-nil}
use native.Mathlib.Omega.{arith}
use borrow.Author.Tests.{leb-true, le-leb, eqb-true, eq-eqb, not-true}
use lib.ListN.{length, drop, get_or, length-append, drop_of_length-le}
use lib.Dec.{leb, eqb}
use Rattle.lists.specs.Lists.{all}
use Rattle.lists.proofs.Tests.{and_left, and_right, and-true, every_at, every_more, every-none}
use Rattle.lists.proofs.Arrays.{all_drop}
use Rattle.model.specs.declared.Entry.{Entry}
use Rattle.model.specs.State.{State}
use Rattle.form.specs.Numbers.{number_in, in_bytes}
use Rattle.form.specs.Rows.{width, row_bytes, row_in, row_fits, table_in, table_fits, behind}
use Rattle.form.specs.Form.{size_widths, head_widths, size_numbers, mark, head_numbers, entry_widths, entry_numbers, entry_from, is_entry, is_plain, bucket_widths, bucket_numbers, bucket_from, entries_form, buckets_form, form_of, has_form, entry_typed, typed, from_reads, from_writes, from_gc, from_free, is_form, sizes_from, entries_in, buckets_in, state_in}
use Rattle.form.specs.Claims.{ReadsBack, WritesBack}
use Rattle.form.proofs.Tables.{all_mapped, map_back, row_at, row_join, row_back, row-behind, row_small, row_whole, row-length, rows_pass, rows_made, Read, Written, values_read, values_written}

-- ---- a mark

mark-read : (b : Bool) → eqb (mark b) 1 ≡ b
unfolding mark
mark-read true = refl
mark-read false = refl

mark-fits : (b : Bool) → in_bytes 1 (mark b) ≡ true
unfolding mark in_bytes
mark-fits true = refl
mark-fits false = refl

mark-below : (b : Bool) → leb (mark b) 1 ≡ true
unfolding mark
mark-below true = refl
mark-below false = refl

mark_kept : (n : ℕ) → n ≤ 1 → mark (eqb n 1) ≡ n
unfolding mark
mark_kept zero h = refl
mark_kept (suc zero) h = refl
mark_kept (suc (suc n)) h = absurd (omega arith)

-- ---- one entry

entry-fits : (write : Bool) (e : Entry) → entry_typed e ≡ true → row_fits (entry_widths write) (entry_numbers write e) ≡ true
unfolding entry_typed entry_widths entry_numbers row_fits
entry-fits true e h = h
entry-fits false e h = let room = row_at (entry_widths true) (entry_numbers true e) h in and-true (room 0) (and-true (room 1) refl)

entry-back : (e : Entry) → entry_typed e ≡ true → entry_from (entry_numbers true e) ≡ e
unfolding entry_from entry_numbers
entry-back e h = λ i. record { back = e.back; cache = e.cache; priority = e.priority; blank = e.blank; marked = mark-read e.marked i }

plain_back : (e : Entry) → is_plain e ≡ true → entry_from (entry_numbers false e) ≡ e
unfolding entry_from entry_numbers is_plain
plain_back e h =
    let numbers = and_left (eqb e.priority 0 && eqb e.blank 0) (not e.marked) h in
    let unranked = eqb-true e.priority 0 (and_left (eqb e.priority 0) (eqb e.blank 0) numbers) in
    let uncounted = eqb-true e.blank 0 (and_right (eqb e.priority 0) (eqb e.blank 0) numbers) in
    let unmarked = not-true e.marked (and_right (eqb e.priority 0 && eqb e.blank 0) (not e.marked) h) in
    λ i. record { back = e.back; cache = e.cache; priority = sym unranked i; blank = sym uncounted i; marked = sym unmarked i }

entry_is : (e : Entry) → entry_typed e ≡ true → is_entry (entry_numbers true e) ≡ true
unfolding is_entry entry_numbers
entry_is e h = mark-below e.marked

entry_kept : (write : Bool) (l : List ℕ) → is_entry (row_in (entry_widths write) l) ≡ true → entry_numbers write (entry_from (row_in (entry_widths write) l)) ≡ row_in (entry_widths write) l
unfolding is_entry entry_from entry_numbers entry_widths row_in
entry_kept true l h = rw (mark_kept (get_or (row_in (entry_widths true) l) 3 0) (leb-true _ 1 h))
entry_kept false l h = refl

entry-typed : (write : Bool) (l : List ℕ) → all (in_bytes 1) l ≡ true → entry_typed (entry_from (row_in (entry_widths write) l)) ≡ true
unfolding entry_typed entry_from entry_numbers entry_widths row_in
entry-typed true l h =
    let room = row_at (entry_widths true) (row_in (entry_widths true) l) (row_small (entry_widths true) l h) in
    unfold row_fits in and-true (room 0) (and-true (room 1) (and-true (room 2) (and-true (mark-fits (eqb (get_or (row_in (entry_widths true) l) 3 0) 1)) (and-true (room 4) refl))))
entry-typed false l h = row_join (entry_widths false) (row_in (entry_widths false) l) (1 ∷ 1 ∷ 1 ∷ []) (0 ∷ mark false ∷ 0 ∷ []) (row_small (entry_widths false) l h) (unfold row_fits in_bytes mark in refl)

-- a row of the read queue has no priority, no mark and no blank pages
entry-plain : (l : List ℕ) → all (in_bytes 1) l ≡ true → is_plain (entry_from (row_in (entry_widths false) l)) ≡ true
unfolding is_plain entry_from entry_widths row_in
entry-plain l h = refl

plain_is : (l : List ℕ) → all (in_bytes 1) l ≡ true → is_entry (row_in (entry_widths false) l) ≡ true
unfolding is_entry entry_widths row_in
plain_is l h = refl

-- ---- one bucket

bucket_fits_lem : (c : ℕ) → in_bytes 1 c ≡ true → row_fits bucket_widths (bucket_numbers c) ≡ true
unfolding bucket_numbers row_fits
bucket_fits_lem c h = and-true h refl

bucket_back : (c : ℕ) → in_bytes 1 c ≡ true → bucket_from (bucket_numbers c) ≡ c
unfolding bucket_numbers bucket_from
bucket_back c h = refl

bucket_kept : (l : List ℕ) → bucket_numbers (bucket_from (row_in bucket_widths l)) ≡ row_in bucket_widths l
unfolding bucket_numbers bucket_from row_in
bucket_kept l = refl

bucket_typed : (l : List ℕ) → all (in_bytes 1) l ≡ true → in_bytes 1 (bucket_from (row_in bucket_widths l)) ≡ true
unfolding bucket_from row_in
bucket_typed l h = row_at bucket_widths (row_in bucket_widths l) (row_small bucket_widths l h) 0

-- ---- a queue, then the rest

entries_read : (write : Bool) (xs : List Entry) (l rest : List ℕ) → leb (length xs) 64 ≡ true → all entry_typed xs ≡ true → map entry_from (map (entry_numbers write) xs) ≡ xs
    → l ≡ entries_form write xs ++ rest → Read 1 (entry_widths write) 64 (entry_numbers write) entry_from xs l rest
unfolding entries_form
entries_read write xs l rest short small same e =
    values_read 1 (entry_widths write) 64 (entry_numbers write) entry_from xs l rest (omega arith) short
    (all_mapped entry_typed (entry_numbers write) (row_fits (entry_widths write)) (entry-fits write) xs small) same e

buckets-read : (xs l rest : List ℕ) → leb (length xs) 256 ≡ true → all (in_bytes 1) xs ≡ true → l ≡ buckets_form xs ++ rest → Read 2 bucket_widths 256 bucket_numbers bucket_from xs l rest
unfolding buckets_form
buckets-read xs l rest short small e =
    values_read 2 bucket_widths 256 bucket_numbers bucket_from xs l rest (omega arith) short
    (all_mapped (in_bytes 1) bucket_numbers (row_fits bucket_widths) bucket_fits_lem xs small) (map_back (in_bytes 1) bucket_numbers bucket_from bucket_back xs small) e

entries_written : (write : Bool) (l : List ℕ) → table_fits 1 (entry_widths write) 64 l ≡ true → all is_entry (table_in 1 (entry_widths write) l) ≡ true → all (in_bytes 1) l ≡ true
    → Written 1 (entry_widths write) 64 (entry_numbers write) entry_typed (entries_in write l) l
unfolding entries_in
entries_written write l fits marks h = values_written 1 (entry_widths write) 64 (entry_numbers write) entry_from entry_typed is_entry (entry-typed write) (entry_kept write) l fits marks h

-- the read queue has none of the three
entries_plain : (l : List ℕ) → all (in_bytes 1) l ≡ true → all is_plain (entries_in false l) ≡ true
unfolding entries_in table_in
entries_plain l h = rows_made (entry_widths false) entry_from is_plain entry-plain (number_in 1 l) (drop 1 l) (all_drop (in_bytes 1) 1 l h)

plain_rows : (l : List ℕ) → all (in_bytes 1) l ≡ true → all is_entry (table_in 1 (entry_widths false) l) ≡ true
unfolding table_in
plain_rows l h = rows_pass (entry_widths false) is_entry plain_is (number_in 1 l) (drop 1 l) (all_drop (in_bytes 1) 1 l h)

buckets_written : (l : List ℕ) → table_fits 2 bucket_widths 256 l ≡ true → all (in_bytes 1) l ≡ true → Written 2 bucket_widths 256 bucket_numbers (in_bytes 1) (buckets_in l) l
unfolding buckets_in
buckets_written l fits h =
    values_written 2 bucket_widths 256 bucket_numbers bucket_from (in_bytes 1) (λ r. true) bucket_typed (λ r k. bucket_kept r) l fits
    (unfold table_in in rows_pass bucket_widths (λ r. true) (λ r k. refl) (number_in 2 l) (drop 2 l) (all_drop (in_bytes 1) 2 l h)) h

-- ---- state to bytes to state

module _ (s : State) (has : has_form s ≡ true) (small : typed s ≡ true) where
  -- the form from each queue on
  abbrev free_on : List ℕ
  free_on = buckets_form s.free

  abbrev gc_on : List ℕ
  gc_on = buckets_form s.gc ++ free_on

  abbrev writes_on : List ℕ
  writes_on = entries_form true s.writes ++ gc_on

  abbrev reads_on : List ℕ
  reads_on = entries_form false s.reads ++ writes_on

  head-fits : row_fits head_widths (head_numbers s) ≡ true
  unfolding head_numbers has_form typed
  head-fits =
      row_join size_widths (size_numbers s.sizes) (1 ∷ 1 ∷ 8 ∷ []) (mark s.running ∷ s.accepted ∷ s.next ∷ []) (every_at _ has 0)
      (unfold row_fits in and-true (mark-fits s.running) (and-true (every_at _ small 0) (and-true (every_at _ small 1) refl)))

  head-back : row_in head_widths (form_of s) ≡ head_numbers s
  unfolding form_of
  head-back = row_back head_widths (head_numbers s) reads_on head-fits

  reads_there : Read 1 (entry_widths false) 64 (entry_numbers false) entry_from s.reads (from_reads (form_of s)) writes_on
  unfolding form_of from_reads has_form typed
  reads_there =
      entries_read false s.reads (from_reads (form_of s)) writes_on (every_at _ has 1) (every_at _ small 2)
      (map_back is_plain (entry_numbers false) entry_from plain_back s.reads (every_at _ has 5)) (row-behind head_widths (head_numbers s) reads_on head-fits)

  writes_there : Read 1 (entry_widths true) 64 (entry_numbers true) entry_from s.writes (from_writes (form_of s)) gc_on
  unfolding from_writes has_form typed
  writes_there =
      entries_read true s.writes (from_writes (form_of s)) gc_on (every_at _ has 2) (every_at _ small 3)
      (map_back entry_typed (entry_numbers true) entry_from entry-back s.writes (every_at _ small 3)) reads_there.behind_is

  gc_there : Read 2 bucket_widths 256 bucket_numbers bucket_from s.gc (from_gc (form_of s)) free_on
  unfolding from_gc has_form typed
  gc_there = buckets-read s.gc (from_gc (form_of s)) free_on (every_at _ has 3) (every_at _ small 4) writes_there.behind_is

  free_there : Read 2 bucket_widths 256 bucket_numbers bucket_from s.free (from_free (form_of s)) []
  unfolding from_free has_form typed
  free_there = buckets-read s.free (from_free (form_of s)) [] (every_at _ has 4) (every_at _ small 5) (gc_there.behind_is ∙ sym (append-nil free_on))

  is_form_lem : is_form (form_of s) ≡ true
  unfolding is_form
  is_form_lem =
      every_more _ _ (le-leb _ _ head_there)
      (every_more _ _ (rw head-back mark_there)
      (every_more _ _ (rw writes_there.rows marks_there)
      (every_more _ _ reads_there.fits
      (every_more _ _ writes_there.fits
      (every_more _ _ gc_there.fits
      (every_more _ _ free_there.fits
      (every_more _ _ (eq-eqb _ _ (ap length free_there.behind_is)) every-none)))))))
    where
      head_there : width head_widths ≤ length (form_of s)
      head_there = unfold form_of in omega (arith, length-append (row_bytes head_widths (head_numbers s)) reads_on, row-length head_widths (head_numbers s) head-fits)

      mark_there : leb (get_or (head_numbers s) 6 0) 1 ≡ true
      mark_there = unfold head_numbers size_numbers in mark-below s.running

      marks_there : all is_entry (map (entry_numbers true) s.writes) ≡ true
      marks_there = unfold typed in all_mapped entry_typed (entry_numbers true) is_entry entry_is s.writes (every_at _ small 3)

  state_back : state_in (form_of s) ≡ s
  unfolding state_in sizes_from head_numbers size_numbers entries_in buckets_in
  state_back = λ i. record {
    sizes = sizes_from (head-back i);
    running = (ap (λ (h : List ℕ). eqb (get_or h 6 0) 1) head-back ∙ mark-read s.running) i;
    reads = reads_there.values i;
    writes = writes_there.values i;
    gc = gc_there.values i;
    free = free_there.values i;
    accepted = get_or (head-back i) 7 0;
    next = get_or (head-back i) 8 0;
  }

pub reads_back : ReadsBack
reads_back s has small = (is_form_lem s has small, state_back s has small)

-- ---- bytes to state to bytes

no_bytes : (l : List ℕ) → eqb (length l) 0 ≡ true → l ≡ []
no_bytes l h = let none = eqb-true (length l) 0 h in drop_of_length-le l {i = 0} (omega arith)

module _ (l : List ℕ) (bytes : all (in_bytes 1) l ≡ true) (form : is_form l ≡ true) where
  bytes_behind_head : all (in_bytes 1) (from_reads l) ≡ true
  unfolding from_reads
  bytes_behind_head = all_drop (in_bytes 1) (width head_widths) l bytes

  reads_kept : Written 1 (entry_widths false) 64 (entry_numbers false) entry_typed (entries_in false (from_reads l)) (from_reads l)
  unfolding is_form
  reads_kept = entries_written false (from_reads l) (every_at _ form 3) (plain_rows (from_reads l) bytes_behind_head) bytes_behind_head

  writes_kept : Written 1 (entry_widths true) 64 (entry_numbers true) entry_typed (entries_in true (from_writes l)) (from_writes l)
  unfolding is_form from_writes
  writes_kept = entries_written true (from_writes l) (every_at _ form 4) (every_at _ form 2) reads_kept.behind_bytes

  gc_kept : Written 2 bucket_widths 256 bucket_numbers (in_bytes 1) (buckets_in (from_gc l)) (from_gc l)
  unfolding is_form from_gc
  gc_kept = buckets_written (from_gc l) (every_at _ form 5) writes_kept.behind_bytes

  free_kept : Written 2 bucket_widths 256 bucket_numbers (in_bytes 1) (buckets_in (from_free l)) (from_free l)
  unfolding is_form from_free
  free_kept = buckets_written (from_free l) (every_at _ form 6) gc_kept.behind_bytes

  -- nothing stands behind the free queue
  free_last : buckets_form (buckets_in (from_free l)) ≡ from_free l
  unfolding is_form buckets_form
  free_last = rw (no_bytes (behind 2 bucket_widths (from_free l)) (every_at _ form 7), append-nil) at free_kept.whole

  head_kept : head_numbers (state_in l) ≡ row_in head_widths l
  unfolding head_numbers size_numbers state_in sizes_from row_in is_form
  head_kept = rw (mark_kept (get_or (row_in head_widths l) 6 0) (leb-true _ 1 (every_at _ form 1)))

  head_whole : row_bytes head_widths (head_numbers (state_in l)) ++ from_reads l ≡ l
  unfolding is_form from_reads
  head_whole = rw head_kept (row_whole head_widths l (leb-true _ _ (every_at _ form 0)) bytes)

  form_kept : form_of (state_in l) ≡ l
  unfolding form_of state_in entries_form buckets_form from_writes from_gc from_free
  form_kept = rw (free_last, gc_kept.whole, writes_kept.whole, reads_kept.whole) head_whole

  has_form_lem : has_form (state_in l) ≡ true
  unfolding has_form state_in
  has_form_lem =
      every_more _ _ (unfold sizes_from size_numbers row_in in row_small size_widths l bytes)
      (every_more _ _ reads_kept.few
      (every_more _ _ writes_kept.few
      (every_more _ _ gc_kept.few
      (every_more _ _ free_kept.few
      (every_more _ _ (entries_plain (from_reads l) bytes_behind_head) every-none)))))

  is_typed : typed (state_in l) ≡ true
  unfolding typed state_in
  is_typed =
      let head = row_at head_widths (row_in head_widths l) (row_small head_widths l bytes) in
      every_more _ _ (head 7)
      (every_more _ _ (head 8)
      (every_more _ _ reads_kept.passed
      (every_more _ _ writes_kept.passed
      (every_more _ _ gc_kept.passed
      (every_more _ _ free_kept.passed every-none)))))

pub writes_back : WritesBack
writes_back l bytes form = (has_form_lem l bytes form, is_typed l bytes form, form_kept l bytes form)
