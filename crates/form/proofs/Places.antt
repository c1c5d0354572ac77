-- Where the queues of a form begin, and what a form is by these places.
use Prim.Native.Nat.{ℕ, ◌+◌, ◌<◌, ◌≤◌}
use mathlib.Core.Path.{◌≡◌, refl, sym, ◌∙◌}
use mathlib.Core.Bool.{Bool, true, false, ◌&&◌}
use mathlib.Core.List.{List, [], ◌∷◌}
use native.Mathlib.Omega.{arith}
use borrow.Author.Tests.{leb-true, le-leb, lt-ltb, le-ltb, eqb-true, eq-eqb, ne_eqb}
use lib.ListN.{length, drop, length-drop}
use lib.Seq.{drop-drop}
use lib.Dec.{leb, eqb}
use Rattle.lists.specs.Lists.{every, all}
use Rattle.lists.proofs.Tests.{and_left, and_right, same_truth, every_at}
use Rattle.form.specs.Numbers.{number_in}
use Rattle.form.specs.Rows.{width, table_in, table_size, table_fits, behind}
use Rattle.form.specs.Places.{behind_or_beyond}
use Rattle.form.specs.Form.{entry_widths, is_entry, bucket_widths, from_reads, from_writes, from_gc, from_free, is_form}
use Rattle.form.proofs.Found.{head_at}

-- how wide the rows are
pub read_wide : width (entry_widths false) ≡ 3
unfolding width entry_widths
read_wide = refl

pub write_wide : width (entry_widths true) ≡ 6
unfolding width entry_widths
write_wide = refl

pub bucket_wide : width bucket_widths ≡ 1
unfolding width
bucket_wide = refl

-- a table of a form: the bytes of its count, its rows' widths, the most rows
pub record Table : Type 0 where
  pub count : ℕ
  pub widths : List ℕ
  pub most : ℕ

-- the queues
abbrev pub form_tables : List Table
form_tables =
    record { count = 1; widths = entry_widths false; most = 64 }
    ∷ record { count = 1; widths = entry_widths true; most = 64 }
    ∷ record { count = 2; widths = bucket_widths; most = 256 }
    ∷ record { count = 2; widths = bucket_widths; most = 256 } ∷ []

module _ (l : List ℕ) where
  abbrev pub writes_at : ℕ
  writes_at = 19 + table_size 1 (entry_widths false) (drop 19 l)

  abbrev pub gc_at : ℕ
  gc_at = writes_at + table_size 1 (entry_widths true) (drop writes_at l)

  abbrev pub free_at : ℕ
  free_at = gc_at + table_size 2 bucket_widths (drop gc_at l)

  abbrev end_at : ℕ
  end_at = free_at + table_size 2 bucket_widths (drop free_at l)

  -- behind the table at a place
  behind_at : (c : ℕ) (ws : List ℕ) (at : ℕ) → behind c ws (drop at l) ≡ drop (at + table_size c ws (drop at l)) l
  unfolding behind
  behind_at c ws at = drop-drop (table_size c ws (drop at l)) at l

  pub from_reads_lem : from_reads l ≡ drop 19 l
  unfolding from_reads width
  from_reads_lem = refl

  pub from_writes_lem : from_writes l ≡ drop writes_at l
  unfolding from_writes
  from_writes_lem = rw from_reads_lem (behind_at 1 (entry_widths false) 19)

  pub from_gc_lem : from_gc l ≡ drop gc_at l
  unfolding from_gc
  from_gc_lem = rw from_writes_lem (behind_at 1 (entry_widths true) writes_at)

  pub from_free_lem : from_free l ≡ drop free_at l
  unfolding from_free
  from_free_lem = rw from_gc_lem (behind_at 2 bucket_widths gc_at)

  form_at : is_form l ≡ every
      (leb 19 (length l)
      ∷ leb (number_in 1 (drop 9 l)) 1
      ∷ all is_entry (table_in 1 (entry_widths true) (drop writes_at l))
      ∷ table_fits 1 (entry_widths false) 64 (drop 19 l)
      ∷ table_fits 1 (entry_widths true) 64 (drop writes_at l)
      ∷ table_fits 2 bucket_widths 256 (drop gc_at l)
      ∷ table_fits 2 bucket_widths 256 (drop free_at l)
      ∷ eqb (length (drop end_at l)) 0 ∷ [])
  unfolding is_form width
  form_at = rw (head_at l, from_reads_lem, from_writes_lem, from_gc_lem, from_free_lem, behind_at 2 bucket_widths free_at)

  -- a table that fits lies within the bytes
  table_inside : (c : ℕ) (ws : List ℕ) (most at : ℕ) → at ≤ length l → table_fits c ws most (drop at l) ≡ true → at + table_size c ws (drop at l) ≤ length l
  unfolding table_fits
  table_inside c ws most at inside fits =
      let size = table_size c ws (drop at l) in
      omega (arith, leb-true size (length (drop at l)) (and_right (leb (number_in c (drop at l)) most) (leb size (length (drop at l))) fits), length-drop at l)

  -- ---- tables one behind the other

  -- the place behind them all, or beyond
  abbrev pub ended : List Table → (at : ℕ) → ℕ
  ended [] at = at
  ended (t ∷ ts) at = ended ts (behind_or_beyond l t.count t.widths t.most at)

  -- each stands whole behind the one before, and nothing behind the last
  abbrev pub standing : List Table → (at : ℕ) → Bool
  standing [] at = every (eqb (length (drop at l)) 0 ∷ [])
  standing (t ∷ ts) at = table_fits t.count t.widths t.most (drop at l) && standing ts (at + table_size t.count t.widths (drop at l))

  beyond_stays : (ts : List Table) (at : ℕ) → length l < at → ended ts at ≡ at
  unfolding behind_or_beyond
  beyond_stays [] at h = refl
  beyond_stays (t ∷ ts) at h = rw (lt-ltb (length l) at h) (beyond_stays ts at h)

  last_at : (end : ℕ) → end ≤ length l → eqb end (length l) ≡ every (eqb (length (drop end l)) 0 ∷ [])
  unfolding every
  last_at end inside = same_truth (eqb end (length l)) (eqb (length (drop end l)) 0 && true) ends left
    where
      ends : eqb end (length l) ≡ true → eqb (length (drop end l)) 0 && true ≡ true
      ends e = rw (eq-eqb (length (drop end l)) 0 (omega (arith, eqb-true end (length l) e, length-drop end l)))

      left : eqb (length (drop end l)) 0 && true ≡ true → eqb end (length l) ≡ true
      left e = eq-eqb end (length l) (omega (arith, eqb-true (length (drop end l)) 0 (and_left (eqb (length (drop end l)) 0) true e), length-drop end l))

  pub tables_stand : (ts : List Table) (at : ℕ) → at ≤ length l → eqb (ended ts at) (length l) ≡ standing ts at
  unfolding behind_or_beyond
  tables_stand [] at inside = last_at at inside
  tables_stand (t ∷ ts) at inside = go (table_fits t.count t.widths t.most (drop at l)) refl (tables_stand ts (at + table_size t.count t.widths (drop at l)))
    where
      go : (fits : Bool) → table_fits t.count t.widths t.most (drop at l) ≡ fits
          → (at + table_size t.count t.widths (drop at l) ≤ length l → eqb (ended ts (at + table_size t.count t.widths (drop at l))) (length l) ≡ standing ts (at + table_size t.count t.widths (drop at l)))
          → eqb (ended ts (behind_or_beyond l t.count t.widths t.most at)) (length l) ≡ (fits && standing ts (at + table_size t.count t.widths (drop at l)))
      go true e more = rw (le-ltb (length l) at inside, e) (more (table_inside t.count t.widths t.most at inside e))
      go false e more = rw (le-ltb (length l) at inside, e, beyond_stays ts (length l + 1) (omega arith)) (ne_eqb (length l + 1) (length l) (λ same. omega arith))

  pub form_stands : 19 ≤ length l → is_form l ≡ (leb (number_in 1 (drop 9 l)) 1 && (all is_entry (table_in 1 (entry_widths true) (drop writes_at l)) && standing form_tables 19))
  unfolding every
  form_stands long = form_at ∙ rw (le-leb 19 (length l) long)

  -- if each stands whole, the write queue's place is behind the read queue
  pub writes_behind : 19 ≤ length l → standing form_tables 19 ≡ true → (behind_or_beyond l 1 (entry_widths false) 64 19 ≡ writes_at) × (writes_at ≤ length l)
  unfolding behind_or_beyond
  writes_behind long stand =
      let fits : table_fits 1 (entry_widths false) 64 (drop 19 l) ≡ true = and_left _ _ stand in
      (rw (le-ltb (length l) 19 long, fits), table_inside 1 (entry_widths false) 64 19 long fits)

  -- the places of a form lie within it, and each table is there
  pub record Placed : Type 0 where
    pub long : 19 ≤ length l
    pub reads_fit : table_fits 1 (entry_widths false) 64 (drop 19 l) ≡ true
    pub writes_in : writes_at ≤ length l
    pub writes_fit : table_fits 1 (entry_widths true) 64 (drop writes_at l) ≡ true
    pub gc_in : gc_at ≤ length l
    pub gc_fit : table_fits 2 bucket_widths 256 (drop gc_at l) ≡ true
    pub free_in : free_at ≤ length l
    pub free_fit : table_fits 2 bucket_widths 256 (drop free_at l) ≡ true

  pub placed : is_form l ≡ true → Placed
  placed form =
      let tests = sym form_at ∙ form in
      let long = leb-true 19 (length l) (every_at _ tests 0) in
      let writes_in = table_inside 1 (entry_widths false) 64 19 long (every_at _ tests 3) in
      let gc_in = table_inside 1 (entry_widths true) 64 writes_at writes_in (every_at _ tests 4) in
      record {
        long = long;
        reads_fit = every_at _ tests 3;
        writes_in = writes_in;
        writes_fit = every_at _ tests 4;
        gc_in = gc_in;
        gc_fit = every_at _ tests 5;
        free_in = table_inside 2 bucket_widths 256 gc_at gc_in (every_at _ tests 5);
        free_fit = every_at _ tests 6;
      }
