-- Programming a log page by page: what stands in its bucket on the way. Each page keeps the chip well formed.
use Prim.Native.Nat.{ℕ, zero, suc, ◌+◌, ◌-◌, ◌*◌, ◌≤◌, ◌<◌}
use mathlib.Core.Path.{◌≡◌, refl, sym, ap, ◌∙◌, subst}
use mathlib.Core.Logic.{◌⊎◌, inl, inr, ◌≢◌}
use mathlib.Core.Bool.{true, false}
use mathlib.Core.List.{List, ◌++◌}
use native.Mathlib.Omega.{arith}
use native.Mathlib.Decide.{ℕ_discrete, dec_lt}
use lib.ListN.{length, drop, get_or, length-append, length-take, length-drop, get_or-append}
use lib.Seq.{get_or-take, get_or-drop}
use borrow.Author.Tests.{eqb-true}
use Rattle.lists.specs.Lists.{ff, splice}
use Rattle.lists.proofs.Tests.{and_left, and_right}
use Rattle.lists.proofs.Parts.{At, at, outside, inside, length-ff}
use Rattle.model.specs.declared.Sizes.{Sizes}
use Rattle.model.specs.Sizes.{Device, bucket_size, pages_for, body}
use Rattle.model.specs.Stores.{Store, program, erase, apply, tag_of, bucket_bytes, disk_bytes, page_bytes}
use Rattle.model.specs.Spare.{blank, spoiled, programmed, write_kind, kind, ordinal, pages, epoch, back, offset, extent, tag_bytes}
use Rattle.model.specs.Image.{used, epoch_of, back_of, is_write, head_tag}
use Rattle.model.proofs.Safe.{Chip}
use Rattle.model.proofs.Limits.{Limits, on_chip}
use Rattle.model.proofs.Tags.{length-tag, kind-tag, ordinal-tag, pages-tag, epoch-tag, back-tag, offset-tag, extent-tag, zeros-tag, blank-ff, kind_real, programmed_real}
use Rattle.model.proofs.Frames.{Lengths, Fits, page_in_bucket, tag-programmed, tag_other_page, bytes_programmed, disk_programmed}
use Rattle.model.proofs.Rules.{Fields}
use Rattle.model.proofs.Formed.{epoch-used, epoch_unused}
use Rattle.model.proofs.FormedKept.{chip-lengths, chip_erase, chip_program, head_kept, Follows, starts, carries_on, Next, first_page, later_page, erased_unused}
use Rattle.model.proofs.Show.{Same, epoch_of-same, same_program, same_erase}
use Rattle.model.proofs.Heads.{head-same, head_first}

module _ (z : Sizes) (bytes : List ℕ) (o : ℕ) where
  pub length_page : length (page_bytes z bytes o) ≡ z.s
  unfolding page_bytes
  length_page = simp (length-take, length-append, length-ff z.s) (omega arith)

  -- byte j of page o of a log
  pub get_d_page : (j : ℕ) → j < z.s → o * z.s + j < length bytes → get_or (page_bytes z bytes o) j 0 ≡ get_or bytes (o * z.s + j) 0
  unfolding page_bytes
  get_d_page j hj hl =
      get_or-take z.s (drop (o * z.s) bytes ++ ff z.s) j 0 hj
      ∙ get_or-append (drop (o * z.s) bytes) (ff z.s) 0 j (rw (length-drop (o * z.s) bytes) (omega arith))
      ∙ get_or-drop (o * z.s) bytes j 0

-- a log of b that finds its place in the cache bucket c, from page `first` on
pub record Log (z : Sizes) (c first k e b off : ℕ) (bytes : List ℕ) : Type 0 where
  pub bucket_in : c < body z
  pub kind_low : 1 ≤ k
  pub kind_high : k ≤ 3
  pub epoch_low : 1 ≤ e
  pub epoch_high : e < 4294967296
  pub back_in : b < z.b
  pub some_bytes : 1 ≤ length bytes
  pub bytes_in : off + length bytes ≤ bucket_size z
  pub pages_in : first + pages_for z (length bytes) ≤ z.p
  pub whole : (k ≡ write_kind) ⊎ ((off ≡ 0) × (length bytes ≡ bucket_size z))

module _ {z : Sizes} (bounds : Limits z) {c first k e b off : ℕ} {bytes : List ℕ} (log : Log z c first k e b off bytes) where
  -- ---- the tags

  abbrev pub tag_at : ℕ → List ℕ
  tag_at o = tag_bytes k o (pages_for z (length bytes)) e b off (length bytes)

  pub kind_at : (o : ℕ) → kind (tag_at o) ≡ k
  kind_at o = kind-tag k o (pages_for z (length bytes)) e b off (length bytes)

  pub ordinal_at : (o : ℕ) → ordinal (tag_at o) ≡ o
  ordinal_at o = ordinal-tag k o (pages_for z (length bytes)) e b off (length bytes)

  pub pages_at : (o : ℕ) → pages (tag_at o) ≡ pages_for z (length bytes)
  pages_at o = pages-tag k o (pages_for z (length bytes)) e b off (length bytes)

  pub epoch_at : (o : ℕ) → epoch (tag_at o) ≡ e
  epoch_at o = epoch-tag k o (pages_for z (length bytes)) e b off (length bytes) log.epoch_high

  pub back_at : (o : ℕ) → back (tag_at o) ≡ b
  back_at o = back-tag k o (pages_for z (length bytes)) e b off (length bytes) (omega (arith, log.back_in, bounds.b_high))

  pub offset_at : (o : ℕ) → offset (tag_at o) ≡ off
  offset_at o = offset-tag k o (pages_for z (length bytes)) e b off (length bytes) (omega (arith, log.bytes_in, log.some_bytes, bounds.size_high))

  pub extent_at : (o : ℕ) → extent (tag_at o) ≡ length bytes
  extent_at o = extent-tag k o (pages_for z (length bytes)) e b off (length bytes) log.some_bytes (omega (arith, log.bytes_in, bounds.size_high))

  pub programmed_at : (o : ℕ) → programmed (tag_at o) ≡ true
  programmed_at o = kind_real (tag_at o) (rw (kind_at o) log.kind_low) (rw (kind_at o) (omega (arith, log.kind_high)))

  pub blank_at_lem : (o : ℕ) → blank (tag_at o) ≡ false
  blank_at_lem o = (programmed_real (tag_at o) (programmed_at o)).0

  -- the first page of a log that begins its bucket is the head
  pub written_head : (d : Device) → tag_of z d c 0 ≡ tag_at 0 → head_tag z d c ≡ tag_at 0
  written_head d q = head_first z d c (ap spoiled q ∙ (programmed_real (tag_at 0) (programmed_at 0)).1) ∙ q

  fields_at : (o : ℕ) → o < pages_for z (length bytes) → Fields z (tag_at o)
  fields_at o ho = record {
    kind_low = rw (kind_at o) log.kind_low;
    kind_high = rw (kind_at o) log.kind_high;
    epoch_low = rw (epoch_at o) log.epoch_low;
    back_below = rw (back_at o) log.back_in;
    zeros_are = zeros-tag k o (pages_for z (length bytes)) e b off (length bytes);
    pages_are = pages_at o ∙ ap (pages_for z) (sym (extent_at o));
    bytes_inside = rw (offset_at o, extent_at o) log.bytes_in;
    whole = go log.whole;
  }
    where
      go : (k ≡ write_kind) ⊎ ((off ≡ 0) × (length bytes ≡ bucket_size z))
          → (kind (tag_at o) ≡ write_kind) ⊎ ((offset (tag_at o) ≡ 0) × (extent (tag_at o) ≡ bucket_size z))
      go (inl q) = inl (kind_at o ∙ q)
      go (inr q) = inr (offset_at o ∙ q.0, extent_at o ∙ q.1)

  follows_at : (o : ℕ) → suc o < pages_for z (length bytes) → Follows z (tag_at o) (tag_at (suc o))
  follows_at o ho = carries_on (programmed_at o) (ordinal_at (suc o) ∙ omega (arith, ordinal_at o)) (rw (ordinal_at (suc o), pages_at (suc o)) ho) (pages_at (suc o) ∙ sym (pages_at o))
      (offset_at (suc o) ∙ sym (offset_at o)) (extent_at (suc o) ∙ sym (extent_at o))

  -- ---- the pages

  abbrev pub page_at : ℕ → Store
  page_at o = program c (first + o) (page_bytes z bytes o) (tag_at o)

  pub fits_at_lem : (o : ℕ) → o < pages_for z (length bytes) → Fits z (page_at o)
  fits_at_lem o h = (on_chip z c log.bucket_in, omega (arith, log.pages_in), length_page z bytes o, length-tag k o (pages_for z (length bytes)) e b off (length bytes))

  pub alike_at : (o : ℕ) → o < pages_for z (length bytes) → (d : Device) → Chip z d → (c' : ℕ) → c' ≢ c → Same z d (apply z d (page_at o)) c'
  alike_at o h d chip c' ne = same_program z d (chip-lengths z chip) c (first + o) (page_bytes z bytes o) (tag_at o) (fits_at_lem o h) c' ne

  pub disk_at : (o : ℕ) → o < pages_for z (length bytes) → (d : Device) → Chip z d → (b' i : ℕ)
      → get_or (disk_bytes z (apply z d (page_at o)) b') i 0 ≡ get_or (disk_bytes z d b') i 0
  disk_at o h d chip b' i = ap (λ (l : List ℕ). get_or l i 0)
      (disk_programmed z d (chip-lengths z chip) c (first + o) (page_bytes z bytes o) (tag_at o) (fits_at_lem o h) b')

  -- the bucket into which a later log goes: b's Write bucket of that epoch, whose last page is the one before
  pub record Started (d : Device) : Type 0 where
    pub is_write_lem : is_write z d c ≡ true
    pub back_is : back_of z d c ≡ b
    pub epoch_is : epoch_of z d c ≡ e
    pub last_used : blank (tag_of z d c (first - 1)) ≡ false
    pub kind_is : k ≡ write_kind

  module _ {d₀ : Device} (chip₀ : Chip z d₀) (started : 0 < first → Started d₀) where
    -- the first o pages are programmed
    pub record Stage (o : ℕ) (d : Device) : Type 0 where
      pub chip : Chip z d
      pub before : (p : ℕ) → p < first → tag_of z d c p ≡ tag_of z d₀ c p
      pub written : (q : ℕ) → q < o → tag_of z d c (first + q) ≡ tag_at q
      pub rest : (p : ℕ) → first + o ≤ p → p < z.p → tag_of z d c p ≡ ff 16
      pub old_bytes : (j : ℕ) → j < first * z.s → get_or (bucket_bytes z d c) j 0 ≡ get_or (bucket_bytes z d₀ c) j 0
      pub content : (j : ℕ) → j < o * z.s → j < length bytes → get_or (bucket_bytes z d c) (first * z.s + j) 0 ≡ get_or bytes j 0
      pub others : (c' : ℕ) → c' < body z → c' ≢ c → epoch_of z d c' ≢ e
      pub headed : 0 < first → head_tag z d c ≡ head_tag z d₀ c

    -- another bucket's erase
    pub stage_erase : (o : ℕ) (d : Device) (x : ℕ) → x < z.c → c ≢ x → o ≤ pages_for z (length bytes) → Stage o d → Stage o (apply z d (erase x))
    stage_erase o d x hx ne ho s =
        let lens = chip-lengths z s.chip in
        let sm = same_erase z d lens x hx c ne in
        record {
          chip = chip_erase z bounds.p_low d x hx s.chip;
          before = λ p hp. sm.tags-same p (omega (arith, log.pages_in)) ∙ s.before p hp;
          written = λ q hq. sm.tags-same (first + q) (omega (arith, log.pages_in)) ∙ s.written q hq;
          rest = λ p hp hp'. sm.tags-same p hp' ∙ s.rest p hp hp';
          old_bytes = λ j hj. rw sm.bytes_same (s.old_bytes j hj);
          content = λ j hj hl. rw sm.bytes_same (s.content j hj hl);
          others = λ c' hc' ne'. apart c' hc' ne' (ℕ_discrete c' x);
          headed = λ h. head-same z bounds.p_low d (apply z d (erase x)) c sm.tags-same ∙ s.headed h;
        }
      where
        apart : (c' : ℕ) → c' < body z → c' ≢ c → Dec (c' ≡ x) → epoch_of z (apply z d (erase x)) c' ≢ e
        apart c' hc' ne' (yes q) r =
            omega (
              arith,
              log.epoch_low,
              sym r ∙ ap (epoch_of z (apply z d (erase x))) q
                  ∙ epoch_unused z (apply z d (erase x)) x (erased_unused z bounds.p_low d (chip-lengths z s.chip) x hx),
            )
        apart c' hc' ne' (no q) r = s.others c' hc' ne'
            (sym (epoch_of-same z bounds.p_low d (apply z d (erase x)) c' (same_erase z d (chip-lengths z s.chip) x hx c' q)) ∙ r)

    -- what the head says of the bucket once it has a page
    record Heading (d : Device) : Type 0 where
      is_used : used z d c ≡ true
      kind_is : kind (head_tag z d c) ≡ k
      epoch_is : epoch (head_tag z d c) ≡ e
      back_is : back (head_tag z d c) ≡ b

    heading : (o : ℕ) (d : Device) → Stage o d → 0 < first + o → Heading d
    unfolding used is_write back_of
    heading o d s h = go (dec_lt 0 first)
      where
        go : Dec (0 < first) → Heading d
        go (yes q) =
            let t = started q in
            let u : used z d₀ c ≡ true = and_left (used z d₀ c) _ t.is_write_lem in
            record {
              is_used = ap programmed (s.headed q) ∙ u;
              kind_is = ap kind (s.headed q) ∙ (eqb-true _ _ (and_right (used z d₀ c) _ t.is_write_lem) ∙ sym t.kind_is);
              epoch_is = ap epoch (s.headed q) ∙ (sym (epoch-used z d₀ c u) ∙ t.epoch_is);
              back_is = ap back (s.headed q) ∙ t.back_is;
            }
        go (no q) =
            let f : first + 0 ≡ 0 = omega arith in
            let w = written_head d (subst (λ (i : ℕ). tag_of z d c i ≡ tag_at 0) f (s.written 0 (omega arith))) in
            record {
              is_used = ap programmed w ∙ programmed_at 0;
              kind_is = ap kind w ∙ kind_at 0;
              epoch_is = ap epoch w ∙ epoch_at 0;
              back_is = ap back w ∙ back_at 0;
            }

    next_fits : (o : ℕ) (d : Device) → o < pages_for z (length bytes) → Stage o d → (m : ℕ) → first + o ≡ m → Next z d c m (tag_at o)
    next_fits zero d ho s zero q = first_page refl (ordinal_at 0) (rw (epoch_at 0) log.epoch_high) (λ c' hc ne r. s.others c' hc ne (r ∙ epoch_at 0))
    next_fits (suc o) d ho s zero q = absurd (omega arith)
    next_fits (suc o) d ho s (suc m) q =
        let w : tag_of z d c m ≡ tag_at o = ap (tag_of z d c) (omega arith) ∙ s.written o (omega arith) in
        let h = heading (suc o) d s (omega arith) in
        later_page m refl (ap blank w ∙ blank_at_lem o) h.is_used (kind_at (suc o) ∙ sym h.kind_is) (epoch_at (suc o) ∙ sym h.epoch_is) (back_at (suc o) ∙ sym h.back_is) (rw w (follows_at o ho))
    next_fits zero d ho s (suc m) q =
        let started-at : 0 < first = omega arith in
        let w : tag_of z d c m ≡ tag_of z d₀ c (first - 1) = s.before m (omega arith) ∙ ap (tag_of z d₀ c) (omega arith) in
        let h = heading 0 d s (omega arith) in
        later_page m refl (ap blank w ∙ (started started-at).last_used) h.is_used (kind_at 0 ∙ sym h.kind_is) (epoch_at 0 ∙ sym h.epoch_is) (back_at 0 ∙ sym h.back_is)
        (starts (ordinal_at 0) (kind_at 0 ∙ (started started-at).kind_is))

    -- the next page
    pub stage_next : (o : ℕ) (d : Device) → o < pages_for z (length bytes) → Stage o d → Stage (suc o) (apply z d (page_at o))
    stage_next o d ho s = record {
      chip = chip_program z bounds.p_low d c (first + o) (page_bytes z bytes o) (tag_at o) (fits_at_lem o ho) log.bucket_in s.chip
          free (fields_at o ho) (next_fits o d ho s (first + o) refl);
      before = λ p hp. other p (λ q. omega arith) ∙ s.before p hp;
      written = λ q hq. put q hq (ℕ_discrete q o);
      rest = λ p hp hp'. other p (λ q. omega arith) ∙ s.rest p (omega arith) hp';
      old_bytes = λ j hj. ap (λ (l : List ℕ). get_or l j 0) programmed ∙ old j hj (spliced j);
      content = λ j hj hl. ap (λ (l : List ℕ). get_or l (first * z.s + j) 0) programmed ∙ new j hj hl (spliced (first * z.s + j));
      others = λ c' hc ne r. s.others c' hc ne (sym (epoch_of-same z bounds.p_low d (apply z d (page_at o)) c' (alike_at o ho d s.chip c' ne)) ∙ r);
      headed = λ h. head_kept z bounds.p_low d c (first + o) (page_bytes z bytes o) (tag_at o) (fits_at_lem o ho) log.bucket_in s.chip free (heading o d s (omega arith)).is_used ∙ s.headed h;
    }
      where
        free : blank (tag_of z d c (first + o)) ≡ true
        free = ap blank (s.rest (first + o) (omega arith) (omega (arith, log.pages_in))) ∙ blank-ff

        lens : Lengths z d
        lens = chip-lengths z s.chip

        other : (p : ℕ) → p ≢ first + o → tag_of z (apply z d (page_at o)) c p ≡ tag_of z d c p
        other p ne = tag_other_page z d lens c (first + o) (page_bytes z bytes o) (tag_at o) (fits_at_lem o ho) p ne

        put : (q : ℕ) → q < suc o → Dec (q ≡ o) → tag_of z (apply z d (page_at o)) c (first + q) ≡ tag_at q
        put q hq (yes r) = rw r (tag-programmed z d lens c (first + o) (page_bytes z bytes o) (tag_at o) (fits_at_lem o ho))
        put q hq (no r) = other (first + q) (λ t. r (omega arith)) ∙ s.written q (omega arith)

        programmed : bucket_bytes z (apply z d (page_at o)) c ≡ splice (bucket_bytes z d c) ((first + o) * z.s) (page_bytes z bytes o)
        programmed = bytes_programmed z d lens c (first + o) (page_bytes z bytes o) (tag_at o) (fits_at_lem o ho)

        spliced : (j : ℕ) → At (bucket_bytes z d c) ((first + o) * z.s) (page_bytes z bytes o) j
        spliced j = at (bucket_bytes z d c) ((first + o) * z.s) (page_bytes z bytes o)
            (page_in_bucket z d lens c (first + o) (page_bytes z bytes o) (on_chip z c log.bucket_in) (omega (arith, log.pages_in)) (length_page z bytes o)) j

        old : (j : ℕ) → j < first * z.s → At (bucket_bytes z d c) ((first + o) * z.s) (page_bytes z bytes o) j
            → get_or (splice (bucket_bytes z d c) ((first + o) * z.s) (page_bytes z bytes o)) j 0 ≡ get_or (bucket_bytes z d₀ c) j 0
        old j hj (outside u q) = q ∙ s.old_bytes j hj
        old j hj (inside m hm em q) = absurd (omega arith)

        new : (j : ℕ) → j < suc o * z.s → j < length bytes → At (bucket_bytes z d c) ((first + o) * z.s) (page_bytes z bytes o) (first * z.s + j)
            → get_or (splice (bucket_bytes z d c) ((first + o) * z.s) (page_bytes z bytes o)) (first * z.s + j) 0 ≡ get_or bytes j 0
        new j hj hl (outside (inl u) q) = q ∙ s.content j (omega arith) hl
        new j hj hl (outside (inr u) q) = absurd (omega (arith, length_page z bytes o))
        new j hj hl (inside m hm em q) =
            let ej : o * z.s + m ≡ j = omega arith in
            q ∙ get_d_page z bytes o m (omega (arith, length_page z bytes o)) (omega arith) ∙ ap (λ (x : ℕ). get_or bytes x 0) ej
