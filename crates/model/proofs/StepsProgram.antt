-- The step that programs a copy with the plain disk's bytes keeps the invariant.
use Prim.Native.Nat.{ℕ, ◌+◌, ◌≤◌, ◌<◌}
use mathlib.Core.Path.{◌≡◌, refl, sym, ap, ◌∙◌, subst}
use mathlib.Core.Logic.{◌⊎◌, inl, inr, ◌≢◌}
use mathlib.Core.Bool.{true, false}
use mathlib.Core.List.{List, [], ◌∷◌, map}
use native.Mathlib.Omega.{arith}
use lib.ListN.{length, get_or}
use lib.Dec.{eqb}
use Rattle.lists.specs.Lists.{head, empty, times}
use Rattle.lists.proofs.Counts.{times_self, times-rest}
use Rattle.model.specs.declared.Sizes.{Sizes}
use Rattle.model.specs.declared.Entry.{Entry}
use Rattle.model.specs.Sizes.{Device, bucket_size, body}
use Rattle.model.specs.Stores.{Store, erase, apply, apply_all, bucket_bytes}
use Rattle.model.specs.Spare.{read_kind, dirty_kind}
use Rattle.model.specs.Image.{is_dirty}
use Rattle.model.specs.State.{State, moved, entry, holds, is_marked, without}
use Rattle.model.specs.Steps.{◌then◌, make_room, taken, take_copy, log_stores, fill_copy, copy}
use Rattle.model.proofs.Views.{Lay, SafeAt, copied, uncopied, lay_disk}
use Rattle.model.proofs.Limits.{Limits}
use Rattle.model.proofs.Safe.{view, plain_at, Safe, Sound, Along}
use Rattle.model.proofs.Frames.{Lengths, lengths_kept}
use Rattle.model.proofs.Prefix.{apply_all_append, along_map}
use Rattle.model.proofs.Copy.{Copyable, Copied, log, copy_along, copy_done}
use Rattle.model.proofs.Queues.{Maps, absent, absent_without}
use Rattle.model.proofs.QueuesGrown.{maps_newest}
use Rattle.model.proofs.QueuesErased.{gone, Below, below-head, below_tail, gone_disk, gone_fewer}
use Rattle.model.proofs.FindableRuns.{Each, Harmless, log_harmless, next_new, ledger_runs, along_cuts}
use Rattle.model.proofs.Inside.{Inside, lens, in_chip, one_place, gc_below, swept_safe, who_holds}
use Rattle.model.proofs.Steps.{Good, then_good, room_good, Roomy, room_made}
use Rattle.model.proofs.StepsCopy.{copied_inside}

-- where the logs over the disk give b's plain bytes after the last erase, they do before each
along_disk : (z : Sizes) → 1 ≤ z.p → (plain : List ℕ) (b : ℕ) (gs : List ℕ) → Below z gs → (d : Device) → Lengths z d
    → ((i : ℕ) → Lay (view z (gone z d gs)) b ((view z (gone z d gs)).disk b) i (plain_at z plain b i)) → Along z (Safe z plain) d (map erase gs)
    → Along z (Copyable z read_kind b plain) d (map erase gs)
unfolding apply_all Safe
along_disk z p_pos plain b [] h d L lay a = (a, λ q. lay)
along_disk z p_pos plain b (g ∷ gs) h d L lay a = (
  (
    a.0,
    λ q. lay_disk (view z d) (view z (gone z d (g ∷ gs))) b (plain_at z plain b) (λ c i e. gone_fewer z p_pos (g ∷ gs) h d L c b i e)
        (λ i. ap (λ (x : List ℕ). get_or x i 0) (gone_disk z (g ∷ gs) h d L b)) (a.0 b) lay,
  ),
  along_disk z p_pos plain b gs (below_tail z g gs h) (apply z d (erase g)) (lengths_kept z d L (erase g) (below-head z g gs h)) lay a.1,
)

-- after a copy: b has it as its read bucket
pub record Fresh (z : Sizes) (plain : List ℕ) (k b : ℕ) (s t : State) (e : Device) : Type 0 where
  pub cache : ℕ
  pub maps : Maps t.reads b cache
  pub dirty : is_dirty z e cache ≡ eqb k dirty_kind
  pub content : (i : ℕ) → get_or (bucket_bytes z e cache) i 0 ≡ plain_at z plain b i
  pub writes_same : t.writes ≡ s.writes
  pub next_is : t.next ≡ s.next + 1

module _ (z : Sizes) (B : Limits z) (plain : List ℕ) (b k : ℕ) (hb : b < z.b) (hk : (k ≡ read_kind) ⊎ (k ≡ dirty_kind)) (bytes : List ℕ) (len : length bytes ≡ bucket_size z)
    (plain_bytes : (i : ℕ) → i < bucket_size z → get_or bytes i 0 ≡ plain_at z plain b i) where
  -- ---- with a free head

  module _ (s : State) (d : Device) (j : Inside z plain s d) (has_free : empty s.free ≡ false) (next_room : s.next < 4294967296)
      (read_case : k ≡ read_kind → holds b s.reads ≡ false) (unmarked : is_marked b s.writes ≡ false) where
    c_free : 1 ≤ times (head s.free) s.free
    c_free = omega (arith, times-rest (head s.free) s.free has_free, times_self (head s.free))

    c_in : head s.free < body z
    c_in = in_chip z plain s d j (head s.free) (omega (arith, c_free))

    gs_in : (x : ℕ) → 1 ≤ times x s.gc → (x < z.c) × (head s.free ≢ x)
    gs_in x t = (gc_below z plain s d j x t, λ q. omega (arith, one_place z plain s d j x, ap (λ (y : ℕ). times y s.free) q, c_free))

    copyable : Along z (Copyable z k b plain) d (map erase s.gc)
    unfolding Safe
    copyable = go hk
      where
        swept_disk : holds b s.reads ≡ false → SafeAt (view z (gone z d s.gc)) b (plain_at z plain b)
            → (i : ℕ) → Lay (view z (gone z d s.gc)) b ((view z (gone z d s.gc)).disk b) i (plain_at z plain b i)
        swept_disk n (copied x nw l ld) = absurd (absent n (who_holds z plain s d j B.p_low x b nw.0))
        swept_disk n (uncopied h l) = l

        go : (k ≡ read_kind) ⊎ (k ≡ dirty_kind) → Along z (Copyable z k b plain) d (map erase s.gc)
        go (inr q) = along_map z (Safe z plain) (Copyable z k b plain) (λ e t. (t, λ r. absurd (omega arith))) d (map erase s.gc) j.ready
        go (inl q) = subst (λ (y : ℕ). Along z (Copyable z y b plain) d (map erase s.gc)) (sym q)
            (along_disk z B.p_low plain b s.gc (gc_below z plain s d j) d (lens z plain s d j) (swept_disk (read_case q) (swept_safe z plain s d j b)) j.ready)

    abbrev stores : List Store
    stores = log_stores z (head s.free) 0 k s.next b 0 bytes

    -- its epoch is above those of all entries
    harmless : Each (Harmless z d) (log_stores z (head s.free) 0 k s.next b 0 bytes)
    harmless = log_harmless z B (head s.free) 0 k s.next b 0 bytes (log z B (head s.free) b s.next k bytes c_in hb j.next_low next_room hk len)
        d (next_new z d s.next j.ledger (head s.free))

    pub program_along : Along z (Sound z plain) d (log_stores z (head s.free) 0 k s.next b 0 bytes)
    program_along = copy_along z B (head s.free) b s.next k bytes c_in hb j.next_low next_room hk len d j.chip plain plain_bytes s.gc gs_in
        (j.free_blank (head s.free) c_free) j.next_above copyable

    pub program_done : Copied z plain s.gc (head s.free) b s.next k d (apply_all z d (log_stores z (head s.free) 0 k s.next b 0 bytes))
    program_done = copy_done z B (head s.free) b s.next k bytes c_in hb j.next_low next_room hk len d j.chip plain plain_bytes s.gc gs_in
        (j.free_blank (head s.free) c_free) j.next_above copyable

    pub program_good : (holds b s.reads ≡ true) ⊎ (length s.reads < z.r) → Good z plain (record { stores = log_stores z (head s.free) 0 k s.next b 0 bytes; state = take_copy b s }) d
    program_good fewer = (
      along_cuts z B.p_low plain stores d s.next j.next_high harmless j.ledger program_along,
      copied_inside z B.p_low plain s d _ j b k has_free program_done (ledger_runs z B.p_low stores d s.next (lens z plain s d j) harmless j.ledger) unmarked next_room fewer,
    )

    pub program_fresh : Fresh z plain k b s (take_copy b s) (apply_all z d (log_stores z (head s.free) 0 k s.next b 0 bytes))
    unfolding take_copy taken moved entry
    program_fresh = record {
      cache = head s.free;
      maps = maps_newest (entry b (head s.free) 0) (without b s.reads) (absent_without s.reads b);
      dirty = program_done.dirty;
      content = program_done.content;
      writes_same = refl;
      next_is = refl;
    }

  -- ---- the whole step

  module _ (s : State) (d : Device) (j : Inside z plain s d) (next_room : s.next < 4294967296) (read_case : k ≡ read_kind → holds b s.reads ≡ false)
      (unmarked : is_marked b s.writes ≡ false) where
    abbrev t : State
    t = (make_room z s d).state

    abbrev e : Device
    e = apply_all z d (make_room z s d).stores

    roomy : Roomy s (make_room z s d).state
    roomy = room_made z B plain s d j

    room : Good z plain (make_room z s d) d
    room = room_good z B plain s d j

    next_there : (make_room z s d).state.next < 4294967296
    next_there = rw roomy.next_same next_room

    case_there : k ≡ read_kind → holds b (make_room z s d).state.reads ≡ false
    case_there q = rw roomy.reads_same (read_case q)

    unmarked_there : is_marked b (make_room z s d).state.writes ≡ false
    unmarked_there = rw roomy.writes_same unmarked

    pub copy_good : (holds b s.reads ≡ true) ⊎ (length s.reads < z.r) → Good z plain (copy z k b bytes s d) d
    unfolding copy fill_copy
    copy_good fewer = then_good z plain (make_room z) (fill_copy z k b bytes) s d j.sizes_are room
        (program_good t e room.1 roomy.has_free next_there case_there unmarked_there
        (subst (λ (l : List Entry). (holds b l ≡ true) ⊎ (length l < z.r)) (sym roomy.reads_same) fewer))

    pub copy-fresh : Fresh z plain k b s (copy z k b bytes s d).state (apply_all z d (copy z k b bytes s d).stores)
    unfolding copy fill_copy ◌then◌
    copy-fresh =
        let f = program_fresh t e room.1 roomy.has_free next_there case_there unmarked_there in
        subst (λ (x : Device). Fresh z plain k b s (take_copy b t) x) (sym (apply_all_append z d (make_room z s d).stores (log_stores z (head t.free) 0 k t.next b 0 bytes)))
        (record {
          cache = f.cache;
          maps = f.maps;
          dirty = f.dirty;
          content = f.content;
          writes_same = f.writes_same ∙ roomy.writes_same;
          next_is = f.next_is ∙ ap (λ (n : ℕ). n + 1) roomy.next_same;
        })
