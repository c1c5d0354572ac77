-- Runs of stores whose programs rise: no programs at all, one run after another, the pages of a log.
use Prim.Native.Nat.{ℕ, zero, suc, ◌+◌, ◌-◌, ◌≤◌, ◌<◌}
use mathlib.Core.Path.{◌≡◌, refl, sym, ap, ◌∙◌}
use mathlib.Core.Logic.{◌≢◌}
use mathlib.Core.Bool.{Bool, true, false, true≢false}
use mathlib.Core.List.{List, [], ◌∷◌, ◌++◌, map}
use native.Mathlib.Omega.{arith}
use native.Mathlib.Decide.{ℕ_discrete}
use lib.ListN.{length}
use Rattle.lists.specs.Lists.{row, all, concat_map}
use Rattle.lists.proofs.Tests.{and-true}
use Rattle.lists.proofs.Rows.{count_from}
use Rattle.lists.proofs.Arrays.{all_append}
use Rattle.model.specs.declared.Sizes.{Sizes}
use Rattle.model.specs.Sizes.{Device, pages_for}
use Rattle.model.specs.Stores.{Store, program, erase, unit, apply, apply_all, tag_of, page_bytes, unit_store, unit_stores}
use Rattle.model.specs.Spare.{blank, tag_bytes}
use Rattle.model.specs.Image.{page_blank, blanks}
use Rattle.model.specs.Steps.{log_store, log_stores}
use Rattle.model.specs.StoresMade.{Rising}
use Rattle.model.proofs.Tags.{length-tag, kind-tag, kind-programmed}
use Rattle.model.proofs.Frames.{Lengths, Fits, lengths_kept, tag-programmed, tag_other_page, tag_other_bucket}
use Rattle.model.proofs.Prefix.{row_end}
use Rattle.model.proofs.Pages.{length_page}

-- ---- no programs

unfoldable pub is_no_program : Store → Bool
is_no_program (program c k bytes tag) = false
is_no_program (erase c) = true
is_no_program (unit u bytes) = true

module _ (z : Sizes) where
  pub none_rise : (ss : List Store) → all is_no_program ss ≡ true → (d : Device) → Rising z d ss
  unfolding all is_no_program Rising
  none_rise [] h d = tt
  none_rise (program c k bytes tag ∷ ss) h d = absurd (true≢false (sym h))
  none_rise (erase c ∷ ss) h d = none_rise ss h (apply z d (erase c))
  none_rise (unit u bytes ∷ ss) h d = none_rise ss h (apply z d (unit u bytes))

  pub rising_append : (ss ts : List Store) (d : Device) → Rising z d ss → Rising z (apply_all z d ss) ts → Rising z d (ss ++ ts)
  unfolding Rising apply_all
  rising_append [] ts d r q = q
  rising_append (program c k bytes tag ∷ ss) ts d r q = (r.0, r.1, rising_append ss ts (apply z d (program c k bytes tag)) r.2 q)
  rising_append (erase c ∷ ss) ts d r q = rising_append ss ts (apply z d (erase c)) r q
  rising_append (unit u bytes ∷ ss) ts d r q = rising_append ss ts (apply z d (unit u bytes)) r q

-- a test of every store: of two runs, and of a row
pub all-joined : (t : Store → Bool) (ss ts : List Store) → all t ss ≡ true → all t ts ≡ true → all t (ss ++ ts) ≡ true
all-joined t ss ts h k = all_append t ss ts ∙ and-true h k

pub all_row : (t : Store → Bool) (n : ℕ) (f : ℕ → Store) → ((o : ℕ) → t (f o) ≡ true) → all t (row n f) ≡ true
unfolding row all
all_row t zero f h = refl
all_row t (suc n) f h = all-joined t (row n f) (f n ∷ []) (all_row t n f h) (and-true (h n) refl)

pub all_concat : (t : Store → Bool) (f : ℕ → List Store) → ((b : ℕ) → all t (f b) ≡ true) → (l : List ℕ) → all t (concat_map f l) ≡ true
unfolding concat_map all
all_concat t f h [] = refl
all_concat t f h (b ∷ l) = all-joined t (f b) (concat_map f l) (h b) (all_concat t f h l)

pub none_units : (z : Sizes) (b : ℕ) (bytes : List ℕ) → all is_no_program (unit_stores z b bytes) ≡ true
unfolding unit_stores unit_store is_no_program
none_units z b bytes = all_row is_no_program z.p (unit_store z b bytes) (λ u. refl)

pub none_erase : (l : List ℕ) → all is_no_program (map erase l) ≡ true
unfolding all is_no_program
none_erase [] = refl
none_erase (c ∷ l) = none_erase l

-- ---- the pages of a log

module _ (z : Sizes) (c first : ℕ) (d₀ : Device) where
  -- after o of its pages in the bucket c, the first of them page `first` there
  pub record Stage (o : ℕ) (d : Device) : Type 0 where
    pub lens : Lengths z d
    pub used : (i : ℕ) → i < first + o → blank (tag_of z d c i) ≡ false
    pub rest : (i : ℕ) → first + o ≤ i → i < z.p → blank (tag_of z d c i) ≡ true
    pub others : (x i : ℕ) → x ≢ c → i < z.p → tag_of z d x i ≡ tag_of z d₀ x i

  pub stage_blanks : (o : ℕ) (d : Device) → first + o ≤ z.p → Stage o d → blanks z d c ≡ z.p - (first + o)
  unfolding blanks page_blank
  stage_blanks o d h s = count_from (first + o) z.p (page_blank z d c) h s.used s.rest

module _ (z : Sizes) (c first k t b off : ℕ) (bytes : List ℕ) (hc : c < z.c) (hk : k < 4) (fit : first + pages_for z (length bytes) ≤ z.p) (d₀ : Device) where
  abbrev page : ℕ → Store
  page o = program c (first + o) (page_bytes z bytes o) (tag_bytes k o (pages_for z (length bytes)) t b off (length bytes))

  abbrev At : ℕ → Device → Type 0
  At o d = Stage z c first d₀ o d

  page_fits_lem : (o : ℕ) → o < pages_for z (length bytes) → Fits z (page o)
  page_fits_lem o h = (hc, omega arith, length_page z bytes o, length-tag k o (pages_for z (length bytes)) t b off (length bytes))

  next : (o : ℕ) (d : Device) → o < pages_for z (length bytes) → At o d → At (suc o) (apply z d (page o))
  next o d h s = record {
    lens = lengths_kept z d s.lens (page o) (page_fits_lem o h);
    used = λ i hi. now i hi (ℕ_discrete i (first + o));
    rest = λ i lo hi. ap blank (tag_other_page z d s.lens c (first + o) _ _ (page_fits_lem o h) i (λ q. omega arith)) ∙ s.rest i (omega arith) hi;
    others = λ x i ne hi. tag_other_bucket z d s.lens c (first + o) _ _ (page_fits_lem o h) x i ne hi ∙ s.others x i ne hi;
  }
    where
      now : (i : ℕ) → i < first + suc o → Dec (i ≡ first + o) → blank (tag_of z (apply z d (page o)) c i) ≡ false
      now i hi (yes q) = rw q (ap blank (tag-programmed z d s.lens c (first + o) _ _ (page_fits_lem o h)) ∙ kind-programmed (tag_bytes k o (pages_for z (length bytes)) t b off (length bytes)) (rw (kind-tag k o (pages_for z (length bytes)) t b off (length bytes)) (omega arith)))
      now i hi (no ne) = ap blank (tag_other_page z d s.lens c (first + o) _ _ (page_fits_lem o h) i ne) ∙ s.used i (omega arith)

  module _ (start : Stage z c first d₀ 0 d₀) where
    rises : (n : ℕ) → n ≤ pages_for z (length bytes) → Rising z d₀ (row n page)
    unfolding row Rising
    rises zero h = tt
    rises (suc n) h =
        let s = row_end z At page n (λ o d q. next o d (omega arith)) d₀ start in
        rising_append z (row n page) (page n ∷ []) d₀ (rises n (omega arith)) (s.rest (first + n) (omega arith) (omega arith), s.used, tt)

    pub log_rises : Rising z d₀ (log_stores z c first k t b off bytes)
    unfolding log_stores log_store
    log_rises = rises (pages_for z (length bytes)) (omega arith)

    pub log_stage : Stage z c first d₀ (pages_for z (length bytes)) (apply_all z d₀ (log_stores z c first k t b off bytes))
    unfolding log_stores log_store
    log_stage = row_end z At page (pages_for z (length bytes)) next d₀ start
