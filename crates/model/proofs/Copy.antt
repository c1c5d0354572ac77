-- Programming a whole Read or Dirty bucket with plain bytes: before the last page nothing that counts changes, after it the bucket is b's newest copy.
use Prim.Native.Nat.{ℕ, zero, suc, ◌≤◌, ◌<◌}
use mathlib.Core.Path.{◌≡◌, refl, sym, ap, ◌∙◌, subst}
use mathlib.Core.Logic.{◌⊎◌, inl, inr, ◌≢◌}
use mathlib.Core.Bool.{true, false, true≢false}
use mathlib.Core.List.{List, map}
use native.Mathlib.Omega.{arith}
use native.Mathlib.Nat.{mul-le-mul, zero-add}
use native.Mathlib.Decide.{ℕ_discrete, dec_lt}
use lib.ListN.{length, get_or, get_or-eq_default}
use lib.Dec.{eqb}
use borrow.Author.Tests.{ne_eqb, eq-eqb}
use Rattle.lists.specs.Lists.{times, all_below, ff}
use Rattle.lists.proofs.Tests.{and_false}
use Rattle.lists.proofs.Rows.{below_all}
use Rattle.model.specs.declared.Sizes.{Sizes}
use Rattle.model.specs.Sizes.{Device, bucket_size, pages_for, body}
use Rattle.model.specs.Stores.{Store, erase, apply, apply_all, tag_of, bucket_bytes, disk_bytes}
use Rattle.model.specs.Spare.{programmed, read_kind, write_kind, dirty_kind}
use Rattle.model.specs.Image.{used, epoch_of, back_of, is_write, is_copy, is_dirty, page_programmed, complete, head_tag}
use Rattle.model.specs.Steps.{log_store, log_stores}
use Rattle.model.proofs.Views.{Lay, SafeAt, Quiet, silent, Kept, apart, safe_still, safe_copy, lay_quiet, lay_base}
use Rattle.model.proofs.Safe.{holds_of, view, plain_at, Safe, Chip, Sound, Along, Ready}
use Rattle.model.proofs.Limits.{Limits, pages_whole, on_chip}
use Rattle.model.proofs.Tags.{programmed-ff}
use Rattle.model.proofs.Frames.{Lengths, length_bucket, tag_erased}
use Rattle.model.proofs.Runs.{Stepwise, Run, run_end, run_along}
use Rattle.model.proofs.Show.{Same, same_refl, same_trans, epoch_of-same, quiet_same, kept_same, same_erase}
use Rattle.model.proofs.Buckets.{gives_none, holds-none, incomplete, blank-epoch, blank_no_write, holds_parts, holds_from, holds_other}
use Rattle.model.proofs.FormedKept.{chip-lengths}
use Rattle.model.proofs.Plain.{plain_beyond}
use Rattle.model.proofs.Pages.{Log, tag_at, kind_at, epoch_at, back_at, programmed_at, page_at, fits_at_lem, alike_at, disk_at, Stage, stage_erase, stage_next, written_head}

-- what holds where a copy of kind k may be made of b: a Read copy needs the disk's bytes under the logs to be plain
abbrev pub Copyable : Sizes → (k b : ℕ) → List ℕ → Device → Type 0
Copyable z k b plain d = Safe z plain d × (k ≡ read_kind → (i : ℕ) → Lay (view z d) b ((view z d).disk b) i (plain_at z plain b i))

-- f, where d's bucket c has become a copy of b with epoch e and kind k
pub record Copied (z : Sizes) (plain gs : List ℕ) (c b e k : ℕ) (d f : Device) : Type 0 where
  pub chip : Chip z f
  pub ready : Ready z plain gs f
  pub still : (c' : ℕ) → c' ≢ c → Same z d f c'
  pub held : holds_of z f c b ≡ true
  pub alone : (b' : ℕ) → b' ≢ b → holds_of z f c b' ≡ false
  pub age : epoch_of z f c ≡ e
  pub dirty : is_dirty z f c ≡ eqb k dirty_kind
  pub content : (i : ℕ) → get_or (bucket_bytes z f c) i 0 ≡ plain_at z plain b i

module _ (z : Sizes) (bounds : Limits z) (c b e k : ℕ) (bytes : List ℕ) (hc : c < body z) (hb : b < z.b) (e_low : 1 ≤ e) (e_high : e < 4294967296)
    (hk : (k ≡ read_kind) ⊎ (k ≡ dirty_kind)) (len : length bytes ≡ bucket_size z) where
  -- ---- the copy as a log

  kinds : (1 ≤ k) × (k ≤ 3) × (k ≢ write_kind)
  kinds = go hk
    where
      go : (k ≡ read_kind) ⊎ (k ≡ dirty_kind) → (1 ≤ k) × (k ≤ 3) × (k ≢ write_kind)
      go (inl q) = (omega arith, omega arith, λ r. omega arith)
      go (inr q) = (omega arith, omega arith, λ r. omega arith)

  all-pages : pages_for z (length bytes) ≡ z.p
  all-pages = ap (pages_for z) len ∙ pages_whole z (omega (arith, bounds.s_low))

  some_size : 1 ≤ bucket_size z
  unfolding bucket_size
  some_size = omega (arith, mul-le-mul bounds.p_low bounds.s_low)

  pub log : Log z c 0 k e b 0 bytes
  log = record {
    bucket_in = hc;
    kind_low = kinds.0;
    kind_high = kinds.1;
    epoch_low = e_low;
    epoch_high = e_high;
    back_in = hb;
    some_bytes = rw len some_size;
    bytes_in = omega (arith, len);
    pages_in = omega (arith, all-pages);
    whole = inr (refl, len);
  }

  module _ (d₀ : Device) (chip₀ : Chip z d₀) where
    abbrev page : ℕ → Store
    page o = page_at bounds log o

    -- ---- on the way

    record Way (o : ℕ) (d : Device) : Type 0 where
      stage : Stage bounds log chip₀ (λ h. absurd (omega arith)) o d
      older : (c' : ℕ) → c' < body z → c' ≢ c → epoch_of z d c' ≤ e

    in_pages : (o : ℕ) → o < z.p → o < pages_for z (length bytes)
    in_pages o h = rw all-pages h

    way_erase : (o : ℕ) (d : Device) (x : ℕ) → x < z.c → c ≢ x → o ≤ z.p → Way o d → Way o (apply z d (erase x))
    way_erase o d x hx ne ho w = record {
      stage = stage_erase bounds log chip₀ (λ h. absurd (omega arith)) o d x hx ne (omega (arith, all-pages)) w.stage;
      older = λ c' hc' ne'. go c' hc' ne' (ℕ_discrete c' x);
    }
      where
        lens : Lengths z d
        lens = chip-lengths z w.stage.chip

        go : (c' : ℕ) → c' < body z → c' ≢ c → Dec (c' ≡ x) → epoch_of z (apply z d (erase x)) c' ≤ e
        go c' hc' ne' (yes q) = rw (q, blank-epoch z (apply z d (erase x)) x bounds.p_low (tag_erased z d lens x hx)) (omega arith)
        go c' hc' ne' (no q) = let u = epoch_of-same z bounds.p_low d (apply z d (erase x)) c' (same_erase z d lens x hx c' q) in rw u (w.older c' hc' ne')

    alike : (o : ℕ) (d : Device) → o < z.p → Way o d → (c' : ℕ) → c' ≢ c → Same z d (apply z d (page o)) c'
    alike o d ho w c' ne = alike_at bounds log o (in_pages o ho) d w.stage.chip c' ne

    way_next : (o : ℕ) (d : Device) → o < z.p → Way o d → Way (suc o) (apply z d (page o))
    way_next o d ho w = record {
      stage = stage_next bounds log chip₀ (λ h. absurd (omega arith)) o d (in_pages o ho) w.stage;
      older = λ c' hc' ne'. let u = epoch_of-same z bounds.p_low d (apply z d (page o)) c' (alike o d ho w c' ne') in rw u (w.older c' hc' ne');
    }

    head_written : (o : ℕ) (d : Device) → Way (suc o) d → head_tag z d c ≡ tag_at bounds log 0
    head_written o d w = written_head bounds log d (w.stage.written 0 (omega arith))

    no_write : (o : ℕ) (d : Device) → Way o d → is_write z d c ≡ false
    unfolding is_write
    no_write zero d w = blank_no_write z d c bounds.p_low (λ q hq. w.stage.rest q (omega arith) hq)
    no_write (suc o) d w = rw (head_written o d w, kind_at bounds log 0, ne_eqb k write_kind kinds.2) (and_false (used z d c))

    not_yet : (o : ℕ) (d : Device) → o < z.p → Way o d → complete z d c ≡ false
    not_yet o d ho w = incomplete z d c o ho (ap programmed (w.stage.rest o (omega arith) ho) ∙ programmed-ff)

    -- ---- all pages

    module _ (d : Device) (w : Way z.p d) where
      first : head_tag z d c ≡ tag_at bounds log 0
      first = written_head bounds log d (w.stage.written 0 bounds.p_low)

      is_used : used z d c ≡ true
      unfolding used
      is_used = rw first (programmed_at bounds log 0)

      is_complete : complete z d c ≡ true
      unfolding complete is_copy page_programmed
      is_complete =
          let all : all_below z.p (page_programmed z d c) ≡ true =
          below_all z.p (page_programmed z d c) (λ o h. ap programmed (ap (tag_of z d c) (sym (zero-add o)) ∙ w.stage.written o h) ∙ programmed_at bounds log o) in
          rw (is_used, first, kind_at bounds log 0, all, ne_eqb k write_kind kinds.2)

      is_back : back_of z d c ≡ b
      unfolding back_of
      is_back = rw first (back_at bounds log 0)

      is_age : epoch_of z d c ≡ e
      unfolding epoch_of
      is_age = rw (is_used, first) (epoch_at bounds log 0)

      is_dirty_lem : is_dirty z d c ≡ eqb k dirty_kind
      unfolding is_dirty
      is_dirty_lem = rw (first, kind_at bounds log 0)

      is_held : holds_of z d c b ≡ true
      is_held = holds_from z d c b hc is_complete is_back

      not_held : (b' : ℕ) → b' ≢ b → holds_of z d c b' ≡ false
      not_held b' ne = holds_other z d c b' (λ q. ne (sym q ∙ is_back))

      is_content : (i : ℕ) → i < bucket_size z → get_or (bucket_bytes z d c) i 0 ≡ get_or bytes i 0
      unfolding bucket_size
      is_content i h = ap (λ (j : ℕ). get_or (bucket_bytes z d c) j 0) (omega arith) ∙ w.stage.content i (omega arith) (rw len h)

    -- ---- what the pages change

    module _ (plain : List ℕ) (plain_bytes : (i : ℕ) → i < bucket_size z → get_or bytes i 0 ≡ plain_at z plain b i) where
      holds_plain : (d : Device) → Way z.p d → (i : ℕ) → get_or (bucket_bytes z d c) i 0 ≡ plain_at z plain b i
      holds_plain d w i = go (dec_lt i (bucket_size z))
        where
          go : Dec (i < bucket_size z) → get_or (bucket_bytes z d c) i 0 ≡ plain_at z plain b i
          go (yes u) = is_content d w i u ∙ plain_bytes i u
          go (no u) = get_or-eq_default (bucket_bytes z d c) 0 (omega (arith, length_bucket z d (chip-lengths z w.stage.chip) c (on_chip z c hc)))
              ∙ sym (plain_beyond z plain b i (omega arith))

      module _ (o : ℕ) (d : Device) (ho : o < z.p) (w : Way o d) where
        abbrev after : Device
        after = apply z d (page o)

        w' : Way (suc o) after
        w' = way_next o d ho w

        others : (c' : ℕ) → c' ≢ c → Same z d after c'
        others c' ne = alike o d ho w c' ne

        disks : (b' i : ℕ) → get_or (disk_bytes z after b') i 0 ≡ get_or (disk_bytes z d b') i 0
        disks b' i = disk_at bounds log o (in_pages o ho) d w.stage.chip b' i

        quiets : (b' c' i : ℕ) → Quiet (view z d) (view z after) b' i c'
        quiets b' c' i = go (ℕ_discrete c' c)
          where
            go : Dec (c' ≡ c) → Quiet (view z d) (view z after) b' i c'
            go (yes q) = rw q (silent (gives_none z d c (no_write o d w) b' i) (gives_none z after c (no_write (suc o) after w') b' i))
            go (no q) = quiet_same z bounds.p_low d after c' (others c' q) b' i

        kepts : (b' : ℕ) → holds_of z after c b' ≡ false → (c' : ℕ) → Kept (view z d) (view z after) b' c'
        kepts b' h c' = go (ℕ_discrete c' c)
          where
            go : Dec (c' ≡ c) → Kept (view z d) (view z after) b' c'
            go (yes q) = rw q (apart (holds-none z d c (not_yet o d ho w) b') h)
            go (no q) = kept_same z bounds.p_low d after c' (others c' q) b'

        -- a page that is not the last changes nothing that counts
        early : suc o < z.p → Copyable z k b plain d → Copyable z k b plain (apply z d (page o))
        unfolding Safe
        early h q = (
          (λ b'. safe_still (view z d) (view z after) b' (plain_at z plain b') (λ c' i. quiets b' c' i)
              (kepts b' (holds-none z after c (not_yet (suc o) after h w') b'))
              (λ i. inl (disks b' i)) (q.0 b')),
          (λ r i. lay_base (lay_quiet (λ c'. quiets b c' i) (q.1 r i)) (inl (disks b i))),
        )

        -- with the last page c is the newest copy of b
        final : suc o ≡ z.p → Copyable z k b plain d → Safe z plain (apply z d (page o))
        unfolding Safe
        final h q b' = go (ℕ_discrete b' b)
          where
            t : Way z.p after
            t = subst (λ (n : ℕ). Way n after) h w'

            newest : (c' : ℕ) → holds_of z after c' b ≡ true → epoch_of z after c' ≤ epoch_of z after c
            newest c' held = rw (is_age after t) (pick (ℕ_discrete c' c))
              where
                pick : Dec (c' ≡ c) → epoch_of z after c' ≤ e
                pick (yes r) = rw (r, is_age after t) (omega arith)
                pick (no r) = t.older c' (holds_parts z after c' b held).0 r

            read_is : is_dirty z after c ≡ false → k ≡ read_kind
            read_is nd = pick hk
              where
                pick : (k ≡ read_kind) ⊎ (k ≡ dirty_kind) → k ≡ read_kind
                pick (inl r) = r
                pick (inr r) = absurd (true≢false (sym (eq-eqb k dirty_kind r) ∙ sym (is_dirty_lem after t) ∙ nd))

            go : Dec (b' ≡ b) → SafeAt (view z after) b' (plain_at z plain b')
            go (yes r) = rw r (safe_copy (view z d) (view z after) b (plain_at z plain b) c (λ c' i. quiets b c' i) (is_held after t) newest
                (holds_plain after t) (λ i. disks b i) (λ nd i. q.1 (read_is nd) i) (q.0 b))
            go (no r) = safe_still (view z d) (view z after) b' (plain_at z plain b') (λ c' i. quiets b' c' i) (kepts b' (not_held after t b' r))
                (λ i. inl (disks b' i)) (q.0 b')

      -- ---- the whole run, under the erases that the GC queue may still bring

      module _ (gs : List ℕ) (gs_in : (x : ℕ) → 1 ≤ times x gs → (x < z.c) × (c ≢ x)) where
        abbrev Far : ℕ → Device → Type 0
        Far o d = (c' : ℕ) → c' ≢ c → Same z d₀ d c'

        steps : Stepwise z gs page (pages_for z (length bytes)) Way Far (Copyable z k b plain) (Safe z plain)
        steps = record {
          some = omega (arith, all-pages, bounds.p_low);
          fits = fits_at_lem bounds log;
          lens = λ o d w. chip-lengths z w.stage.chip;
          next = λ o d ho w. way_next o d (on_chip o ho) w;
          far = λ o d ho w r c' ne. same_trans z (r c' ne) (alike o d (on_chip o ho) w c' ne);
          erased = λ o ho x hx. let i = gs_in x hx in (i.0, i.1, λ d w. way_erase o d x i.0 i.1 (omega (arith, all-pages)) w);
          early = λ o d h w q. early o d (omega (arith, all-pages)) w (omega (arith, all-pages)) q;
          last = λ o d h w q. final o d (omega (arith, all-pages)) w (h ∙ all-pages) q;
        }
          where
            on_chip : (o : ℕ) → o < pages_for z (length bytes) → o < z.p
            on_chip o h = omega (arith, all-pages)

        module _ (free : (p : ℕ) → p < z.p → tag_of z d₀ c p ≡ ff 16) (older : (c' : ℕ) → c' < body z → epoch_of z d₀ c' < e)
            (good : Along z (Copyable z k b plain) d₀ (map erase gs)) where
          start : Way 0 d₀
          start = record {
            stage = record {
              chip = chip₀;
              before = λ p h. refl;
              written = λ q h. absurd (omega arith);
              rest = λ p h hp. free p hp;
              old_bytes = λ j h. refl;
              content = λ j h hl. absurd (omega arith);
              others = λ c' h ne q. omega (arith, older c' h);
              headed = λ h. absurd (omega arith);
            };
            older = λ c' h ne. omega (arith, older c' h);
          }

          pub copy_along : Along z (Sound z plain) d₀ (log_stores z c 0 k e b 0 bytes)
          unfolding log_stores log_store
          copy_along = run_along z gs page (pages_for z (length bytes)) Way Far (Copyable z k b plain) (Safe z plain) steps d₀ start
              (λ c' ne. same_refl z d₀ c') good (Sound z plain)
              (λ o d w q. record { chip = w.stage.chip; safe = q.0 }) (λ o d w q. record { chip = w.stage.chip; safe = q })

          end : Run z gs page (pages_for z (length bytes)) Way Far (Copyable z k b plain) (Safe z plain) (pages_for z (length bytes))
              (apply_all z d₀ (log_stores z c 0 k e b 0 bytes))
          unfolding log_stores log_store
          end = run_end z gs page (pages_for z (length bytes)) Way Far (Copyable z k b plain) (Safe z plain) steps d₀ start (λ c' ne. same_refl z d₀ c') good

          pub copy_done : Copied z plain gs c b e k d₀ (apply_all z d₀ (log_stores z c 0 k e b 0 bytes))
          copy_done =
              let f : Device = apply_all z d₀ (log_stores z c 0 k e b 0 bytes) in
              let w : Way z.p f = subst (λ (n : ℕ). Way n f) all-pages end.on in
              record {
                chip = w.stage.chip;
                ready = end.after refl;
                still = end.afar;
                held = is_held f w;
                alone = not_held f w;
                age = is_age f w;
                dirty = is_dirty_lem f w;
                content = holds_plain f w;
              }
