-- Buckets that two devices show alike, and the buckets that each store leaves so.
use Prim.Native.Nat.{ℕ, zero, suc, ◌≤◌, ◌<◌}
use mathlib.Core.Path.{◌≡◌, refl, sym, ap, ◌∙◌}
use mathlib.Core.Logic.{◌≢◌}
use mathlib.Core.List.{List}
use native.Mathlib.Omega.{arith}
use Rattle.lists.proofs.Rows.{below_alike}
use Rattle.model.specs.declared.Sizes.{Sizes}
use Rattle.model.specs.Sizes.{Device}
use Rattle.model.specs.Stores.{program, erase, unit, apply, tag_of, bucket_bytes}
use Rattle.model.specs.Spare.{spoiled}
use Rattle.model.specs.Image.{head_tag, page_spoiled, begins_log, continues_log, page_fits, is_packed, packed, bucket_fits, used, epoch_of, back_of, is_write, is_copy, is_dirty, page_programmed, complete, ends_log, log_bytes}
use Rattle.model.proofs.Views.{Quiet, same, Kept, alike}
use Rattle.model.proofs.Safe.{covers, found, gives_of, holds_of, view}
use Rattle.model.proofs.Frames.{Lengths, Fits, tag_other_bucket, bytes_other_bucket, tag_kept, bytes_kept, tag_unit, bytes_unit}
use Rattle.model.proofs.Heads.{head-same}

module _ (z : Sizes) where
  -- ---- what the head says of its bucket

  module _ (d e : Device) (c : ℕ) (heads : head_tag z e c ≡ head_tag z d c) where
    pub used_by : used z e c ≡ used z d c
    unfolding used
    used_by = rw heads

    pub epoch_by : epoch_of z e c ≡ epoch_of z d c
    unfolding epoch_of
    epoch_by = rw (used_by, heads)

    pub back_by : back_of z e c ≡ back_of z d c
    unfolding back_of
    back_by = rw heads

    pub write_by : is_write z e c ≡ is_write z d c
    unfolding is_write
    write_by = rw (used_by, heads)

    pub copy_by : is_copy z e c ≡ is_copy z d c
    unfolding is_copy
    copy_by = rw (used_by, heads)

    pub dirty_by : is_dirty z e c ≡ is_dirty z d c
    unfolding is_dirty
    dirty_by = rw heads

  -- ---- buckets shown alike

  -- the cache bucket c has the same tags and the same bytes in e as in d
  pub record Same (d e : Device) (c : ℕ) : Type 0 where
    pub tags-same : (k : ℕ) → k < z.p → tag_of z e c k ≡ tag_of z d c k
    pub bytes_same : bucket_bytes z e c ≡ bucket_bytes z d c

  pub same_refl : (d : Device) (c : ℕ) → Same d d c
  same_refl d c = record { tags-same = λ k hk. refl; bytes_same = refl }

  pub same-sym : {d e : Device} {c : ℕ} → Same d e c → Same e d c
  same-sym s = record { tags-same = λ k hk. sym (s.tags-same k hk); bytes_same = sym s.bytes_same }

  pub same_trans : {d e f : Device} {c : ℕ} → Same d e c → Same e f c → Same d f c
  same_trans s t = record { tags-same = λ k hk. t.tags-same k hk ∙ s.tags-same k hk; bytes_same = t.bytes_same ∙ s.bytes_same }

  module _ (p_pos : 1 ≤ z.p) (d e : Device) (c : ℕ) (s : Same d e c) where
    heads_same : head_tag z e c ≡ head_tag z d c
    heads_same = head-same z p_pos d e c s.tags-same

    pub used-same : used z e c ≡ used z d c
    used-same = used_by d e c heads_same

    pub epoch_of-same : epoch_of z e c ≡ epoch_of z d c
    epoch_of-same = epoch_by d e c heads_same

    pub back_of-same : back_of z e c ≡ back_of z d c
    back_of-same = back_by d e c heads_same

    pub is_write-same : is_write z e c ≡ is_write z d c
    is_write-same = write_by d e c heads_same

    pub is_copy-same : is_copy z e c ≡ is_copy z d c
    is_copy-same = copy_by d e c heads_same

    pub is_dirty-same : is_dirty z e c ≡ is_dirty z d c
    is_dirty-same = dirty_by d e c heads_same

    pub complete-same : complete z e c ≡ complete z d c
    unfolding complete page_programmed
    complete-same = rw (is_copy-same, below_alike z.p (page_programmed z e c) (page_programmed z d c) (λ k h. let u = s.tags-same k h in rw u))

    begins_same : (k : ℕ) → k < z.p → begins_log z e c k ≡ begins_log z d c k
    unfolding begins_log page_spoiled
    begins_same k h = rw (s.tags-same k h, below_alike k (page_spoiled z e c) (page_spoiled z d c) (λ j q. ap spoiled (s.tags-same j (omega arith))))

    continues-same : (k : ℕ) → k < z.p → continues_log z e c k ≡ continues_log z d c k
    unfolding continues_log
    continues-same zero h = refl
    continues-same (suc k) h = rw (s.tags-same k (omega arith), s.tags-same (suc k) h)

    page_fits-same : (k : ℕ) → k < z.p → page_fits z e c k ≡ page_fits z d c k
    unfolding page_fits
    page_fits-same k h = rw (begins_same k h, continues-same k h, heads_same, s.tags-same k h)

    pub packed-same : packed z e c ≡ packed z d c
    unfolding packed is_packed
    packed-same = below_alike z.p (is_packed z e c) (is_packed z d c) page
      where
        page : (k : ℕ) → k < z.p → is_packed z e c k ≡ is_packed z d c k
        page zero h = refl
        page (suc k) h = rw (s.tags-same k (omega arith), s.tags-same (suc k) h)

    pub fits-same : bucket_fits z e c ≡ bucket_fits z d c
    unfolding bucket_fits
    fits-same = rw (packed-same, below_alike z.p (page_fits z e c) (page_fits z d c) page_fits-same)

    -- ---- logs

    pub ends_log-same : (k : ℕ) → k < z.p → ends_log z e c k ≡ ends_log z d c k
    unfolding ends_log
    ends_log-same k h = let u = s.tags-same k h in rw u

    pub log_bytes-same : (k : ℕ) → k < z.p → log_bytes z e c k ≡ log_bytes z d c k
    unfolding log_bytes
    log_bytes-same k h = let u = s.tags-same k h in let v = s.bytes_same in rw (u, v)

    pub covers_same : (k i : ℕ) → k < z.p → covers z e c k i ≡ covers z d c k i
    unfolding covers
    covers_same k i h = let u = s.tags-same k h in rw (ends_log-same k h, u)

    pub found-same : (n i : ℕ) → n ≤ z.p → found z e c n i ≡ found z d c n i
    unfolding found
    found-same zero i h = refl
    found-same (suc k) i h =
        let u = s.tags-same k h in
        rw (covers_same k i h, log_bytes-same k h, u, found-same k i (omega arith))

    -- ---- what it shows

    pub gives_same : (b i : ℕ) → gives_of z e c b i ≡ gives_of z d c b i
    unfolding gives_of
    gives_same b i = rw (is_write-same, back_of-same, found-same z.p i (omega arith))

    pub holds_same : (b : ℕ) → holds_of z e c b ≡ holds_of z d c b
    unfolding holds_of
    holds_same b = rw (complete-same, back_of-same)

    pub quiet_same : (b i : ℕ) → Quiet (view z d) (view z e) b i c
    quiet_same b i = same (gives_same b i) epoch_of-same

    pub kept_same : (b : ℕ) → Kept (view z d) (view z e) b c
    kept_same b = alike (holds_same b) epoch_of-same is_dirty-same (λ i. rw s.bytes_same)

  -- ---- the stores

  module _ (d : Device) (lens : Lengths z d) where
    pub same_program : (c k : ℕ) (bytes tag : List ℕ) → Fits z (program c k bytes tag) → (c' : ℕ) → c' ≢ c → Same d (apply z d (program c k bytes tag)) c'
    same_program c k bytes tag f c' ne = record {
      tags-same = λ k' hk. tag_other_bucket z d lens c k bytes tag f c' k' ne hk;
      bytes_same = bytes_other_bucket z d lens c k bytes tag f c' ne;
    }

    pub same_erase : (c : ℕ) → c < z.c → (c' : ℕ) → c' ≢ c → Same d (apply z d (erase c)) c'
    same_erase c hc c' ne = record { tags-same = λ k hk. tag_kept z d lens c hc c' k ne hk; bytes_same = bytes_kept z d lens c hc c' ne }

  pub same_unit : (d : Device) (u : ℕ) (bytes : List ℕ) (c : ℕ) → Same d (apply z d (unit u bytes)) c
  same_unit d u bytes c = record { tags-same = λ k hk. tag_unit z d u bytes c k; bytes_same = bytes_unit z d u bytes c }
