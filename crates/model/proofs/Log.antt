-- Programming a log in b's newest Write bucket, first or later in it: the old plain disk up to its last page, then the new one.
use Prim.Native.Nat.{ℕ, suc, ◌+◌, ◌-◌, ◌≤◌, ◌<◌}
use mathlib.Core.Path.{◌≡◌, refl, sym, ap, ◌∙◌, subst}
use mathlib.Core.Logic.{◌⊎◌, inl, inr, ◌≢◌}
use mathlib.Core.Bool.{Bool, true, false}
use mathlib.Core.Option.{none, some}
use mathlib.Core.List.{List, map}
use native.Mathlib.Omega.{arith}
use native.Mathlib.Decide.{ℕ_discrete, dec_lt, dec_le}
use lib.ListN.{length, take, get_or}
use borrow.Author.Tests.{leb-false}
use Rattle.lists.specs.Lists.{times, ff, splice}
use Rattle.lists.proofs.Tests.{and_left}
use Rattle.lists.proofs.Rows.{length-row}
use Rattle.model.specs.declared.Sizes.{Sizes}
use Rattle.model.specs.Sizes.{Device, pages_for, body}
use Rattle.model.specs.Stores.{Store, erase, apply, apply_all, tag_of, disk_bytes}
use Rattle.model.specs.Spare.{blank, write_kind}
use Rattle.model.specs.Image.{head_tag, bucket_fits, used, epoch_of, back_of, is_write, blanks}
use Rattle.model.specs.Steps.{log_store, log_stores}
use Rattle.model.specs.Promise.{disk_place}
use Rattle.model.proofs.Views.{SafeAt, Quiet, same, silent, Kept, apart, safe_still, safe_move, safe_log, lay_quiet}
use Rattle.model.proofs.Safe.{found, gives_of, holds_of, view, plain_at, Safe, Chip, Sound, Ready}
use Rattle.model.proofs.Limits.{Limits}
use Rattle.model.proofs.Frames.{Lengths, tag_erased}
use Rattle.model.proofs.Prefix.{along_start}
use Rattle.model.proofs.Runs.{Stepwise, Run, run_end, run_cut}
use Rattle.model.proofs.Show.{back_by, epoch_by, write_by, Same, same_refl, same_trans, epoch_of-same, gives_same, quiet_same, kept_same, same_erase}
use Rattle.model.proofs.Buckets.{gives_none, holds-none, blank-epoch, blank_no_write, blank_no_copy, gives_found, gives_other, copy_or_write}
use Rattle.model.proofs.Formed.{blank_from_lem, used_start, epoch_unused}
use Rattle.model.proofs.FormedKept.{chip-lengths, chip_formed}
use Rattle.model.proofs.Plain.{plain_others, plain_out, plain_in}
use Rattle.model.proofs.Pages.{Log, tag_at, kind_at, epoch_at, back_at, programmed_at, page_at, fits_at_lem, alike_at, disk_at, Started, Stage, stage_erase, stage_next, written_head}
use Rattle.model.proofs.LogFound.{count_pos, found_before, found_in, found_out}
use Rattle.model.proofs.Heads.{Blank, head_page, head-programmed}
use Rattle.model.proofs.Tags.{programmed_real}

-- where the log goes: into a blank bucket with an epoch above all, or behind the last page of b's Write bucket
pub data Place (z : Sizes) (d : Device) (c first e b : ℕ) : Type 0 where
  fresh : first ≡ 0 → ((c' : ℕ) → c' < body z → epoch_of z d c' < e) → Place z d c first e b
  behind : is_write z d c ≡ true → back_of z d c ≡ b → epoch_of z d c ≡ e → blank (tag_of z d c (first - 1)) ≡ false → Place z d c first e b

-- f, where the log has been programmed in d's bucket c
pub record Logged (z : Sizes) (plain gs : List ℕ) (c b e : ℕ) (d f : Device) : Type 0 where
  pub chip : Chip z f
  pub ready : Ready z plain gs f
  pub still : (c' : ℕ) → c' ≢ c → Same z d f c'
  pub is_write_lem : is_write z f c ≡ true
  pub back_is : back_of z f c ≡ b
  pub age : epoch_of z f c ≡ e
  pub no_copy : (b' : ℕ) → holds_of z f c b' ≡ false
  pub alone : (b' i : ℕ) → b' ≢ b → gives_of z f c b' i ≡ none

module _ (z : Sizes) (bounds : Limits z) (c first e b off : ℕ) (bytes : List ℕ) (log : Log z c first write_kind e b off bytes) (d₀ : Device) (chip₀ : Chip z d₀)
    (place : Place z d₀ c first e b) where
  abbrev count : ℕ
  count = pages_for z (length bytes)

  started : 0 < first → Started bounds log d₀
  started h = go place
    where
      go : Place z d₀ c first e b → Started bounds log d₀
      go (fresh q r) = absurd (omega arith)
      go (behind w q a u) = record { is_write_lem = w; back_is = q; epoch_is = a; last_used = u; kind_is = refl }

  others_differ : (c' : ℕ) → c' < body z → c' ≢ c → epoch_of z d₀ c' ≢ e
  unfolding is_write
  others_differ c' h ne q = go place
    where
      go : Place z d₀ c first e b → ⊥
      go (fresh r below) = omega (arith, below c' h)
      go (behind w r a u) = pick (used z d₀ c') refl
        where
          pick : (t : Bool) → used z d₀ c' ≡ t → ⊥
          pick true v = ne ((chip_formed z chip₀).epochs_differ c' c h log.bucket_in v (and_left (used z d₀ c) _ w) (q ∙ sym a))
          pick false v = omega (arith, log.epoch_low, epoch_unused z d₀ c' v)

  -- the plain disk with the log's bytes
  abbrev moved : List ℕ → List ℕ
  moved plain = splice plain (disk_place z b off) bytes

  abbrev page : ℕ → Store
  page o = page_at bounds log o

  abbrev On : ℕ → Device → Type 0
  On o d = Stage bounds log chip₀ started o d

  -- ---- on the way

  record Way (o : ℕ) (d : Device) : Type 0 where
    stage : On o d
    newest : (c' i : ℕ) → c' ≢ c → (gives_of z d c' b i ≡ none) ⊎ (epoch_of z d c' ≤ e)

  newest-same : (d f : Device) (c' i : ℕ) → Same z d f c' → (gives_of z d c' b i ≡ none) ⊎ (epoch_of z d c' ≤ e) → (gives_of z f c' b i ≡ none) ⊎ (epoch_of z f c' ≤ e)
  newest-same d f c' i s (inl q) = inl (gives_same z bounds.p_low d f c' s b i ∙ q)
  newest-same d f c' i s (inr q) = let u = epoch_of-same z bounds.p_low d f c' s in inr (rw u q)

  way_erase : (o : ℕ) (d : Device) (x : ℕ) → x < z.c → c ≢ x → o ≤ count → Way o d → Way o (apply z d (erase x))
  way_erase o d x hx ne ho w = record {
    stage = stage_erase bounds log chip₀ started o d x hx ne ho w.stage;
    newest = λ c' i ne'. go c' i ne' (ℕ_discrete c' x);
  }
    where
      lens : Lengths z d
      lens = chip-lengths z w.stage.chip

      go : (c' i : ℕ) → c' ≢ c → Dec (c' ≡ x) → (gives_of z (apply z d (erase x)) c' b i ≡ none) ⊎ (epoch_of z (apply z d (erase x)) c' ≤ e)
      go c' i ne' (yes q) = inr (rw (q, blank-epoch z (apply z d (erase x)) x bounds.p_low (tag_erased z d lens x hx)) (omega arith))
      go c' i ne' (no q) = newest-same d (apply z d (erase x)) c' i (same_erase z d lens x hx c' q) (w.newest c' i ne')

  alike : (o : ℕ) (d : Device) → o < count → Way o d → (c' : ℕ) → c' ≢ c → Same z d (apply z d (page o)) c'
  alike o d ho w c' ne = alike_at bounds log o ho d w.stage.chip c' ne

  way_next : (o : ℕ) (d : Device) → o < count → Way o d → Way (suc o) (apply z d (page o))
  way_next o d ho w = record {
    stage = stage_next bounds log chip₀ started o d ho w.stage;
    newest = λ c' i ne. newest-same d (apply z d (page o)) c' i (alike o d ho w c' ne) (w.newest c' i ne);
  }

  -- ---- what the bucket shows: b's Write bucket of that epoch, but before its first page

  data Head (o : ℕ) (d : Device) : Type 0 where
    begun : is_write z d c ≡ true → back_of z d c ≡ b → epoch_of z d c ≡ e → Head o d
    unbegun : first ≡ 0 → o ≡ 0 → Blank z d c → Head o d

  by_first : (o : ℕ) (d : Device) → tag_of z d c 0 ≡ tag_at bounds log 0 → Head o d
  unfolding is_write back_of epoch_of used
  by_first o d q =
      let h = written_head bounds log d q in
      begun
      (rw (h, programmed_at bounds log 0, kind_at bounds log 0))
      (rw (h, back_at bounds log 0))
      (rw (h, programmed_at bounds log 0, epoch_at bounds log 0))

  head : (o : ℕ) (d : Device) → On o d → Head o d
  head o d s = go (dec_lt 0 first) (dec_lt 0 o)
    where
      go : Dec (0 < first) → Dec (0 < o) → Head o d
      go (yes u) v =
          let t = started u in
          let q = s.headed u in
          begun (write_by z d₀ d c q ∙ t.is_write_lem) (back_by z d₀ d c q ∙ t.back_is) (epoch_by z d₀ d c q ∙ t.epoch_is)
      go (no u) (yes v) = by_first o d (ap (tag_of z d c) (omega arith) ∙ s.written 0 v)
      go (no u) (no v) = unbegun (omega arith) (omega arith) (λ p hp. s.rest p (omega arith) hp)

  no_copy_on : (o : ℕ) (d : Device) → On o d → (b' : ℕ) → holds_of z d c b' ≡ false
  no_copy_on o d s b' = go (head o d s)
    where
      go : Head o d → holds_of z d c b' ≡ false
      go (begun w k a) = holds-none z d c (copy_or_write z d c w) b'
      go (unbegun f q t) = holds-none z d c (blank_no_copy z d c bounds.p_low t) b'

  none_found : first ≡ 0 → (i : ℕ) → found z d₀ c first i ≡ none
  unfolding found
  none_found q i = rw q

  -- ---- one page

  module _ (o : ℕ) (d : Device) (ho : o < count) (w : Way o d) where
    abbrev after : Device
    after = apply z d (page o)

    w' : Way (suc o) after
    w' = way_next o d ho w

    disks : (b' i : ℕ) → get_or (disk_bytes z after b') i 0 ≡ get_or (disk_bytes z d b') i 0
    disks b' i = disk_at bounds log o ho d w.stage.chip b' i

    kepts : (b' c' : ℕ) → Kept (view z d) (view z after) b' c'
    kepts b' c' = go (ℕ_discrete c' c)
      where
        go : Dec (c' ≡ c) → Kept (view z d) (view z after) b' c'
        go (yes q) = rw q (apart (no_copy_on o d w.stage b') (no_copy_on (suc o) after w'.stage b'))
        go (no q) = kept_same z bounds.p_low d after c' (alike o d ho w c' q) b'

    -- the bucket itself, as long as what its logs give stays
    quiet_own : (b' i : ℕ) → (b' ≡ b → found z after c z.p i ≡ found z d₀ c first i) → Quiet (view z d) (view z after) b' i c
    quiet_own b' i h = go (head o d w.stage) (head (suc o) after w'.stage) (ℕ_discrete b' b)
      where
        gave : is_write z d c ≡ true → back_of z d c ≡ b → gives_of z d c b i ≡ found z d₀ c first i
        gave x k = gives_found z d c b i log.bucket_in x k ∙ found_before bounds log chip₀ started o d ho w.stage i

        go : Head o d → Head (suc o) after → Dec (b' ≡ b) → Quiet (view z d) (view z after) b' i c
        go hd (unbegun f q t) r = absurd (omega arith)
        go (begun x k a) (begun x' k' a') (yes r) = rw r (same (gives_found z after c b i log.bucket_in x' k' ∙ h r ∙ sym (gave x k)) (a' ∙ sym a))
        go (begun x k a) (begun x' k' a') (no r) = silent (gives_other z d c b' i (λ q. r (sym q ∙ k))) (gives_other z after c b' i (λ q. r (sym q ∙ k')))
        go (unbegun f q t) (begun x' k' a') (yes r) =
            rw r (silent (gives_none z d c (blank_no_write z d c bounds.p_low t) b i) (gives_found z after c b i log.bucket_in x' k' ∙ h r ∙ none_found f i))
        go (unbegun f q t) (begun x' k' a') (no r) = silent (gives_none z d c (blank_no_write z d c bounds.p_low t) b' i) (gives_other z after c b' i (λ q. r (sym q ∙ k')))

    quiets : (b' c' i : ℕ) → (b' ≡ b → c' ≡ c → found z after c z.p i ≡ found z d₀ c first i) → Quiet (view z d) (view z after) b' i c'
    quiets b' c' i h = go (ℕ_discrete c' c)
      where
        go : Dec (c' ≡ c) → Quiet (view z d) (view z after) b' i c'
        go (yes q) = subst (λ (x : ℕ). Quiet (view z d) (view z after) b' i x) (sym q) (quiet_own b' i (λ r. h r q))
        go (no q) = quiet_same z bounds.p_low d after c' (alike o d ho w c' q) b' i

    -- a page that does not end the log changes nothing that counts
    early : (plain : List ℕ) → suc o < count → Safe z plain d → Safe z plain (apply z d (page o))
    unfolding Safe
    early plain h q b' = safe_still (view z d) (view z after) b' (plain_at z plain b')
        (λ c' i. quiets b' c' i (λ r r'. found_before bounds log chip₀ started (suc o) after h w'.stage i)) (kepts b') (λ i. inl (disks b' i)) (q b')

    -- the page that ends it: the plain disk takes the log's bytes
    module _ (plain : List ℕ) (room : disk_place z b off + length bytes ≤ length plain) where
      -- byte i is the new log's, or all stays
      abbrev Moves : ℕ → Type 0
      Moves i = (gives_of z after c b i ≡ some (plain_at z (moved plain) b i)) ⊎ (Quiet (view z d) (view z after) b i c × (plain_at z (moved plain) b i ≡ plain_at z plain b i))

      final : suc o ≡ count → Safe z plain d → Safe z (moved plain) (apply z d (page o))
      unfolding Safe
      final h q b' = go (ℕ_discrete b' b)
        where
          t : On count after
          t = subst (λ (m : ℕ). On m after) h w'.stage

          age_is : Head (suc o) after → epoch_of z after c ≡ e
          age_is (unbegun f r x) = absurd (omega arith)
          age_is (begun x k a) = a

          around : (i : ℕ) → (i < off) ⊎ (off + length bytes ≤ i) → Moves i
          around i out = inr (quiet_own b i (λ r. found_out bounds log chip₀ started after t i out), plain_out z plain b off bytes log.bytes_in room i out)

          here : Head (suc o) after → (i : ℕ) → Dec (off ≤ i) → Dec (i < off + length bytes) → Moves i
          here (unbegun f r x) i u v = absurd (omega arith)
          here (begun x k a) i (yes u) (yes v) = inl (gives_found z after c b i log.bucket_in x k
              ∙ found_in bounds log chip₀ started after t i u v ∙ ap some (sym (plain_in z plain b off bytes log.bytes_in room i u v)))
          here (begun x k a) i (yes u) (no v) = around i (inr (omega arith))
          here (begun x k a) i (no u) v = around i (inl (omega arith))

          go : Dec (b' ≡ b) → SafeAt (view z after) b' (plain_at z (moved plain) b')
          go (yes r) = rw r (safe_log (view z d) (view z after) b (plain_at z plain b) (plain_at z (moved plain) b) c
              (λ c' i ne. quiets b c' i (λ x x'. absurd (ne x')))
              (λ i. here (head (suc o) after w'.stage) i (dec_le off i) (dec_lt i (off + length bytes)))
              (λ c' i ne. rw (age_is (head (suc o) after w'.stage)) (w'.newest c' i ne)) (kepts b) (disks b) (q b))
          go (no r) = safe_move (view z d) (view z after) b' (plain_at z plain b') (plain_at z (moved plain) b')
              (λ i f l. rw (plain_others z plain b off bytes log.bytes_in room b' i r) (lay_quiet (λ c'. quiets b' c' i (λ x x'. absurd (r x))) l))
              (kepts b') (λ i. inl (disks b' i)) (q b')

  -- ---- the whole run, under the erases that the GC queue may still bring

  module _ (plain : List ℕ) (room : disk_place z b off + length bytes ≤ length plain) (gs : List ℕ) (gs_in : (x : ℕ) → 1 ≤ times x gs → (x < z.c) × (c ≢ x))
      (free : (p : ℕ) → first ≤ p → p < z.p → tag_of z d₀ c p ≡ ff 16) (newest : (c' i : ℕ) → c' ≢ c → (gives_of z d₀ c' b i ≡ none) ⊎ (epoch_of z d₀ c' ≤ e))
      (ready : Ready z plain gs d₀) where
    abbrev Far : ℕ → Device → Type 0
    Far o d = (c' : ℕ) → c' ≢ c → Same z d₀ d c'

    steps : Stepwise z gs page count Way Far (Safe z plain) (Safe z (moved plain))
    steps = record {
      some = count_pos bounds log chip₀ started;
      fits = fits_at_lem bounds log;
      lens = λ o d w. chip-lengths z w.stage.chip;
      next = way_next;
      far = λ o d ho w r c' ne. same_trans z (r c' ne) (alike o d ho w c' ne);
      erased = λ o ho x hx. let i = gs_in x hx in (i.0, i.1, λ d w. way_erase o d x i.0 i.1 (omega arith) w);
      early = λ o d h w q. early o d (omega arith) w plain h q;
      last = λ o d h w q. final o d (omega arith) w plain room h q;
    }

    start : Way 0 d₀
    start = record {
      stage = record {
        chip = chip₀;
        before = λ p h. refl;
        written = λ q h. absurd (omega arith);
        rest = λ p h hp. free p (omega arith) hp;
        old_bytes = λ j h. refl;
        content = λ j h hl. absurd (omega arith);
        others = others_differ;
        headed = λ h. refl;
      };
      newest = newest;
    }

    length_stores : length (log_stores z c first write_kind e b off bytes) ≡ count
    unfolding log_stores
    length_stores = length-row count (log_store z c first write_kind e b off bytes)

    cut : (m : ℕ) → m ≤ count → Run z gs page count Way Far (Safe z plain) (Safe z (moved plain)) m
        (apply_all z d₀ (take m (log_stores z c first write_kind e b off bytes)))
    unfolding log_stores log_store
    cut m h = run_cut z gs page count Way Far (Safe z plain) (Safe z (moved plain)) steps d₀ start (λ c' ne. same_refl z d₀ c') ready m h

    -- up to the last page the plain disk is the old one
    pub log_cuts : (m : ℕ) → m < length (log_stores z c first write_kind e b off bytes)
        → Sound z plain (apply_all z d₀ (take m (log_stores z c first write_kind e b off bytes)))
    log_cuts m h =
        let f : Device = apply_all z d₀ (take m (log_stores z c first write_kind e b off bytes)) in
        let r = cut m (omega (arith, length_stores)) in
        record { chip = r.on.stage.chip; safe = along_start z (Safe z plain) f (map erase gs) (r.before (omega (arith, length_stores))) }

    end : Run z gs page count Way Far (Safe z plain) (Safe z (moved plain)) count (apply_all z d₀ (log_stores z c first write_kind e b off bytes))
    unfolding log_stores log_store
    end = run_end z gs page count Way Far (Safe z plain) (Safe z (moved plain)) steps d₀ start (λ c' ne. same_refl z d₀ c') ready

    -- after it the new one
    pub log_done : Logged z (splice plain (disk_place z b off) bytes) gs c b e d₀
        (apply_all z d₀ (log_stores z c first write_kind e b off bytes))
    log_done = go (head count f end.on.stage)
      where
        f : Device
        f = apply_all z d₀ (log_stores z c first write_kind e b off bytes)

        go : Head count f → Logged z (moved plain) gs c b e d₀ f
        go (unbegun q r t) = absurd (omega (arith, count_pos bounds log chip₀ started))
        go (begun w q a) = record {
          chip = end.on.stage.chip;
          ready = end.after refl;
          still = end.afar;
          is_write_lem = w;
          back_is = q;
          age = a;
          no_copy = no_copy_on count f end.on.stage;
          alone = λ b' i ne. gives_other z f c b' i (λ r. ne (sym r ∙ q));
        }

-- the place behind the last page of a Write bucket
pub behind_last : (z : Sizes) → 1 ≤ z.p → (d : Device) → Chip z d → (c : ℕ) → c < body z → is_write z d c ≡ true
    → Place z d c (z.p - blanks z d c) (epoch_of z d c) (back_of z d c)
unfolding is_write
behind_last z p_pos d chip c hc w = behind w refl refl (used_start z d c fit (z.p - blanks z d c - 1) (omega (arith, some)))
  where
    fit : bucket_fits z d c ≡ true
    fit = (chip_formed z chip).buckets_fit c hc

    some : 1 ≤ z.p - blanks z d c
    some =
        let p = head_page z p_pos d c in
        let real = (programmed_real (head_tag z d c) (head-programmed z d c (and_left (used z d c) _ w))).0 in
        omega (arith, leb-false (z.p - blanks z d c) p.page (sym (blank_from_lem z d c fit p.page p.inside) ∙ (sym (ap blank p.is) ∙ real)))
