-- Steps that keep the invariant inside a call: how they follow one another, Erase step, and Allocate's free bucket.
use Prim.Native.Nat.{ℕ, ◌+◌, ◌-◌, ◌≤◌, ◌<◌}
use mathlib.Core.Path.{◌≡◌, refl, sym, ap, ◌∙◌, subst}
use mathlib.Core.Logic.{◌⊎◌, inl, inr, ◌≢◌}
use mathlib.Core.Bool.{true, false, true≢false}
use mathlib.Core.Option.{none}
use mathlib.Core.List.{List, [], ◌∷◌, ◌++◌, map}
use native.Mathlib.Omega.{arith}
use native.Mathlib.Decide.{ℕ_discrete, dec_lt}
use lib.ListN.{length, drop, length-append, length-map}
use lib.Dec.{leb, ltb}
use borrow.Author.Tests.{leb-true}
use Rattle.std.specs.Prelude.{if◌then◌else◌}
use Rattle.lists.specs.Lists.{head, empty, times, ff}
use Rattle.lists.proofs.Tests.{true_or_false}
use Rattle.lists.proofs.Counts.{empty-length, grown_some, times_self, times_other, times_append, times-rest, head-rest, length_once}
use Rattle.model.specs.declared.Sizes.{Sizes}
use Rattle.model.specs.Sizes.{Device, body}
use Rattle.model.specs.Stores.{Store, program, erase, apply, apply_all, tag_of, disk_bytes}
use Rattle.model.specs.Spare.{entry_tag}
use Rattle.model.specs.Image.{epoch_of, blanks}
use Rattle.model.specs.Ledger.{in_use, other_of}
use Rattle.model.specs.State.{State, moved, cache_bucket, caches, queued}
use Rattle.model.specs.Steps.{Plan, Step, nothing, ◌then◌, entry_store, entry_stores, noted_erase, erase_step, make_room, freed}
use Rattle.model.specs.Promise.{torn}
use Rattle.model.proofs.Limits.{Limits, on_chip}
use Rattle.model.proofs.Safe.{Along, Cuts, Safe, Sound, gives_of}
use Rattle.model.proofs.Frames.{Lengths, lengths_kept, tag_erased, disk_erased}
use Rattle.model.proofs.Heads.{Blank}
use Rattle.model.proofs.Show.{Same, same-sym, same_trans, same_erase, epoch_of-same}
use Rattle.model.proofs.Prefix.{apply_all_append, along_start, cuts_append}
use Rattle.model.proofs.FormedKept.{chip-lengths, chip_erase}
use Rattle.model.proofs.Buckets.{gives_beyond, holds_parts, blank-epoch, blank_gives, blank-holds}
use Rattle.model.proofs.Queues.{Maps, maps_times}
use Rattle.model.proofs.Marks.{marks_kept}
use Rattle.model.proofs.QueuesShown.{reads_kept, writes_kept}
use Rattle.model.proofs.LedgerKept.{Ledger}
use Rattle.model.proofs.LedgerErase.{Blanked, blanked_erase, blanked_half, InLedger, ledger_above, Slot, slot_at, entry_stays, found-body}
use Rattle.model.proofs.BodyAlike.{blank_vacant, Alike, chip_alike, ready_alike}
use Rattle.model.proofs.LedgerEntry.{ledger_below, in_use_at, other_at, other_differs, Entered, entered_program, entered_blanked, entered-named, found-entered, ledger_erased}
use Rattle.model.proofs.ProgramsLedger.{Shape, shape_of, noted}
use Rattle.model.proofs.Findable.{Findable}
use Rattle.model.proofs.Inside.{places, places_queued, Inside, lens, in_chip, one_place}
use Rattle.model.proofs.InsideFound.{inside_found}

module _ (z : Sizes) (plain : List ℕ) where
  -- a plan keeps the invariant: a cut in any store of it, and its state at the end
  abbrev pub Good : Plan → Device → Type 0
  Good p d = Cuts z (Findable z plain) d p.stores × Inside z plain p.state (apply_all z d p.stores)

  pub nothing_good : (s : State) (d e : Device) → Inside z plain s d → Good (nothing s e) d
  unfolding nothing apply_all
  nothing_good s d e j = (tt, j)

  pub then_good : (f g : Step) (s : State) (d : Device) → s.sizes ≡ z → Good (f s d) d → Good (g (f s d).state (apply_all z d (f s d).stores)) (apply_all z d (f s d).stores) → Good ((f then g) s d) d
  unfolding ◌then◌
  then_good f g s d e a b =
      subst (λ (y : Sizes). Good (record { stores = (f s d).stores ++ (g (f s d).state (apply_all y d (f s d).stores)).stores; state = (g (f s d).state (apply_all y d (f s d).stores)).state }) d) (sym e) (
        cuts_append z (Findable z plain) d (f s d).stores (g (f s d).state (apply_all z d (f s d).stores)).stores a.0 b.0,
        subst (λ (x : Device). Inside z plain (g (f s d).state (apply_all z d (f s d).stores)).state x)
            (sym (apply_all_append z d (f s d).stores (g (f s d).state (apply_all z d (f s d).stores)).stores)) b.1,
      )

-- a state like s with a bucket free
pub record Roomy (s t : State) : Type 0 where
  pub has_free : empty t.free ≡ false
  pub reads_same : t.reads ≡ s.reads
  pub writes_same : t.writes ≡ s.writes
  pub next_same : t.next ≡ s.next

-- each cache bucket stands once in the queues: their lengths add up, and where read and write queue are shorter, another is not empty
pub some_left : (n : ℕ) (s : State) → ((c : ℕ) → places s c ≡ (if ltb c n then 1 else 0)) → length s.reads + length s.writes < n → (empty s.free ≡ false) ⊎ (empty s.gc ≡ false)
unfolding queued caches
some_left n s once few = go (true_or_false (empty s.free)) (true_or_false (empty s.gc))
  where
    total : length s.reads + length s.writes + length s.gc + length s.free ≡ n
    total =
        omega (
          arith,
          length_once n (queued s) (λ c. places_queued s c ∙ once c),
          length-append (caches s.reads) (caches s.writes ++ (s.gc ++ s.free)),
          length-append (caches s.writes) (s.gc ++ s.free),
          length-append s.gc s.free,
          length-map s.reads cache_bucket,
          length-map s.writes cache_bucket,
        )

    go : (empty s.free ≡ true) ⊎ (empty s.free ≡ false) → (empty s.gc ≡ true) ⊎ (empty s.gc ≡ false) → (empty s.free ≡ false) ⊎ (empty s.gc ≡ false)
    go (inr f) q = inl f
    go (inl f) (inr g) = inr g
    go (inl f) (inl g) = absurd (omega (arith, total, empty-length s.free f, empty-length s.gc g))

-- where a bucket is free or may be erased, one is free after the first half of Allocate, and the other queues are as they were
pub room_there : (z : Sizes) (s : State) (d : Device) → (empty s.free ≡ false) ⊎ (empty s.gc ≡ false) → Roomy s (make_room z s d).state
unfolding make_room erase_step freed nothing moved
room_there z s d h = go (true_or_false (empty s.free)) h
  where
    go : (empty s.free ≡ true) ⊎ (empty s.free ≡ false) → (empty s.free ≡ false) ⊎ (empty s.gc ≡ false) → Roomy s (make_room z s d).state
    go (inr f) q = rw f (record { has_free = f; reads_same = refl; writes_same = refl; next_same = refl })
    go (inl f) (inl q) = absurd (true≢false (sym f ∙ q))
    go (inl f) (inr g) = rw (f, g) (record { has_free = grown_some s.free (head s.gc); reads_same = refl; writes_same = refl; next_same = refl })

-- ---- Erase step

module _ (z : Sizes) (B : Limits z) (plain : List ℕ) (s : State) (d : Device) (j : Inside z plain s d) where
  p_pos : 1 ≤ z.p
  p_pos = B.p_low

  module _ (g : ℕ) (gs : List ℕ) (gc_is : s.gc ≡ g ∷ gs) (count : (c : ℕ) → times c s.gc ≡ times c (g ∷ []) + times c gs) where
    g_in : g < body z
    g_in = in_chip z plain s d j g (omega (arith, count g, times_self g))

    -- a bucket of another queue
    not_g : (c : ℕ) → 1 ≤ times c (caches s.reads) + times c (caches s.writes) + times c s.free → c ≢ g
    not_g c h q = omega (arith, one_place z plain s d j c, count c, ap (λ (x : ℕ). times c (x ∷ [])) (sym q), times_self c)

    run : Along z (Safe z plain) d (erase g ∷ map erase gs)
    run = subst (λ (l : List ℕ). Along z (Safe z plain) d (map erase l)) gc_is j.ready

    sound_gone : Sound z plain (apply z d (erase g))
    sound_gone = record { chip = chip_erase z p_pos d g (on_chip z g g_in) j.chip; safe = along_start z (Safe z plain) _ (map erase gs) run.1 }

    -- ---- e is d without the pages of g, and with another ledger

    module _ (e : Device) (L : Lengths z e) (other : (c : ℕ) → c < body z → c ≢ g → Same z d e c) (g_blank : Blank z e g) (disk : (b : ℕ) → disk_bytes z e b ≡ disk_bytes z d b)
        (ledger : Ledger z e s.next) where
      alike : (c : ℕ) → c < body z → Alike z (apply z d (erase g)) e c
      alike c hc = go (ℕ_discrete c g)
        where
          go : Dec (c ≡ g) → Alike z (apply z d (erase g)) e c
          go (yes q) = rw q (inr (blank_vacant z p_pos (apply z d (erase g)) g (tag_erased z d (lens z plain s d j) g (on_chip z g g_in)), blank_vacant z p_pos e g g_blank))
          go (no ne) = inl (same_trans z (same-sym z (same_erase z d (lens z plain s d j) g (on_chip z g g_in) c ne)) (other c hc ne))

      gives : (b c i : ℕ) → Dec (c < body z) → Dec (c ≡ g) → Same z d e c ⊎ (gives_of z e c b i ≡ none)
      gives b c i (no h) q = inr (gives_beyond z e c (omega arith) b i)
      gives b c i (yes h) (yes q) = inr (rw q (blank_gives z e g p_pos g_blank b i))
      gives b c i (yes h) (no ne) = inl (other c h ne)

      free : (c : ℕ) → 1 ≤ times c (s.free ++ (g ∷ [])) → (k : ℕ) → k < z.p → Dec (c ≡ g) → tag_of z e c k ≡ ff 16
      free c t k hk (yes q) = rw q (g_blank k hk)
      free c t k hk (no ne) =
          let t' : 1 ≤ times c s.free = omega (arith, times_append c s.free (g ∷ []), times_other c g ne) in
          (other c (in_chip z plain s d j c (omega arith)) ne).tags-same k hk ∙ j.free_blank c t' k hk

      above : (c : ℕ) → c < body z → Dec (c ≡ g) → epoch_of z e c < s.next
      above c hc (yes q) = rw (q, blank-epoch z e g p_pos g_blank) j.next_low
      above c hc (no ne) = rw (epoch_of-same z p_pos d e c (other c hc ne)) (j.next_above c hc)

      read_same : (b c : ℕ) → Maps s.reads b c → Same z d e c
      read_same b c m = let t = maps_times s.reads b c m in other c (in_chip z plain s d j c (omega arith)) (not_g c (omega arith))

      write_same : (b c : ℕ) → Maps s.writes b c → Same z d e c
      write_same b c m = let t = maps_times s.writes b c m in other c (in_chip z plain s d j c (omega arith)) (not_g c (omega arith))

      erased_inside : Inside z plain (moved s s.reads s.writes gs (s.free ++ (g ∷ []))) e
      unfolding moved
      erased_inside = record {
        sizes_are = j.sizes_are;
        plain-length = j.plain-length;
        chip = chip_alike z p_pos (apply z d (erase g)) e alike L sound_gone.chip;
        ledger = ledger;
        ready = ready_alike z p_pos plain gs (λ x h. on_chip z x (in_chip z plain s d j x (omega (arith, count x)))) (apply z d (erase g)) e
            (chip-lengths z sound_gone.chip) L alike (λ b. disk b ∙ sym (disk_erased z d (lens z plain s d j) g (on_chip z g g_in) b)) run.1;
        once = λ c. omega (arith, count c, times_append c s.free (g ∷ [])) ∙ j.once c;
        reads = reads_kept z p_pos d e s.reads read_same
            (λ b c h q. other c (holds_parts z e c b q).0 (λ r. true≢false (sym q ∙ rw r (blank-holds z e g p_pos g_blank b)))) j.reads;
        writes = writes_kept z p_pos d e s.writes write_same (λ b c i h. gives b c i (dec_lt c (body z)) (ℕ_discrete c g)) j.writes;
        marks = marks_kept z plain p_pos d e s.reads s.reads s.writes (λ b c h m. (m, read_same b c m)) j.marks;
        few_reads = j.few_reads;
        few_writes = j.few_writes;
        free_blank = λ c t k hk. free c t k hk (ℕ_discrete c g);
        accepted_low = j.accepted_low;
        next_above = λ c hc. above c hc (ℕ_discrete c g);
        next_low = j.next_low;
        next_high = j.next_high;
      }

    -- ---- the entry

    abbrev HasEntry : Device → ℕ → Type 0
    HasEntry e i = Entered z B d s.next j.chip j.ledger g g_in (j.next_above g g_in) e i

    entry_found : (e : Device) (i : ℕ) → HasEntry e i → Findable z plain e
    entry_found e i n = found-entered z B d s.next j.chip j.ledger g g_in (j.next_above g g_in) e i n j.next_high plain sound_gone

    -- a cut in these stores, and the chip that they leave
    EntryRun : List Store → Type 0
    EntryRun ss = Cuts z (Findable z plain) d ss × (i : ℕ) × HasEntry (apply_all z d ss) i

    entry_there : (l k : ℕ) → InLedger z l → k < z.p → EntryRun (entry_store z d l k g ∷ [])
    unfolding EntryRun entry_store apply_all torn
    entry_there l k hl hk =
        let slot = slot_at z l k hl hk in
        ((λ t. inside_found z p_pos plain s d j, tt), slot.0, entered_program z B d s.next j.chip j.ledger g g_in (j.next_above g g_in) slot.1)

    -- the entry names g while the full bucket goes
    handed_over : (l o : ℕ) → InLedger z l → InLedger z o → o ≢ l → EntryRun (entry_store z d o 0 g ∷ erase l ∷ [])
    unfolding EntryRun entry_store apply_all torn
    handed_over l o hl ho ne = (
      (λ t. inside_found z p_pos plain s d j, (λ t. entry_found _ i (goes _ (blanked_half z e n.lens l l_in t z.p (omega arith))), tt)),
      i,
      goes _ (blanked_erase z e n.lens l l_in),
    )
      where
        i : ℕ
        i = (slot_at z o 0 ho p_pos).0

        slot : Slot z o 0 i
        slot = (slot_at z o 0 ho p_pos).1

        e : Device
        e = apply z d (program o 0 (ff z.s) (entry_tag (epoch_of z d g) g))

        n : HasEntry e i
        n = entered_program z B d s.next j.chip j.ledger g g_in (j.next_above g g_in) slot

        l_in : l < z.c
        l_in = ledger_below z B l hl

        goes : (f : Device) → Blanked z e f l → HasEntry f i
        goes f b = entered_blanked z B d s.next j.chip j.ledger g g_in (j.next_above g g_in) e f i l n b (ledger_above z l hl) (entry_stays z e f l b slot ne)

    entry_run : EntryRun (entry_stores z d g)
    unfolding entry_stores
    entry_run = go (true_or_false (leb 1 (blanks z d (in_use z d))))
      where
        go : (leb 1 (blanks z d (in_use z d)) ≡ true) ⊎ (leb 1 (blanks z d (in_use z d)) ≡ false) → EntryRun (entry_stores z d g)
        go (inl q) = rw q (entry_there (in_use z d) (z.p - blanks z d (in_use z d)) (in_use_at z d) (omega (arith, leb-true 1 (blanks z d (in_use z d)) q, p_pos)))
        go (inr q) = rw q (handed_over (in_use z d) (other_of z (in_use z d)) (in_use_at z d) (other_at z (in_use z d)) (other_differs z (in_use z d) (in_use_at z d)))

    -- g is named while it goes
    erased_good : Good z plain (record { stores = noted_erase z d g; state = moved s s.reads s.writes gs (s.free ++ (g ∷ [])) }) d
    unfolding noted_erase EntryRun apply_all torn
    erased_good = (
      cuts_append z (Findable z plain) d (entry_stores z d g) (erase g ∷ []) entry_run.0 (
        λ t. found-body z e _ g (blanked_half z e n.lens g hg t z.p (omega arith)) g_in p_pos plain
            (entry_found e i n) (entered-named z B d s.next j.chip j.ledger g g_in (j.next_above g g_in) e i n),
        tt,
      ),
      subst (λ (x : Device). Inside z plain (moved s s.reads s.writes gs (s.free ++ (g ∷ []))) x) (sym (apply_all_append z d (entry_stores z d g) (erase g ∷ [])))
          (erased_inside (apply z e (erase g)) (lengths_kept z e n.lens (erase g) hg)
          (λ c hc ne. same_trans z (n.body_same c hc) (same_erase z e n.lens g hg c ne)) (tag_erased z e n.lens g hg)
          (λ b. disk_erased z e n.lens g hg b ∙ n.disk_same b)
          (ledger_erased z B d s.next j.chip j.ledger g g_in (j.next_above g g_in) e i n (noted z B d (lens z plain s d j) shape g).shape)),
    )
      where
        e : Device
        e = apply_all z d (entry_stores z d g)

        i : ℕ
        i = entry_run.1

        n : HasEntry e i
        n = entry_run.2

        hg : g < z.c
        hg = on_chip z g g_in

        shape : Shape z d
        shape = shape_of z p_pos d j.ledger.lower_packed j.ledger.upper_packed j.ledger.one

  pub erase_good : Good z plain (erase_step z s d) d
  unfolding erase_step freed
  erase_good = go (true_or_false (empty s.gc))
    where
      go : (empty s.gc ≡ true) ⊎ (empty s.gc ≡ false) → Good z plain (erase_step z s d) d
      go (inl e) = rw e (nothing_good z plain s d d j)
      go (inr e) = rw e (erased_good (head s.gc) (drop 1 s.gc) (head-rest s.gc e) (λ c. times-rest c s.gc e))

  pub room_good : Good z plain (make_room z s d) d
  unfolding make_room
  room_good = go (true_or_false (empty s.free))
    where
      go : (empty s.free ≡ true) ⊎ (empty s.free ≡ false) → Good z plain (make_room z s d) d
      go (inl e) = rw e erase_good
      go (inr e) = rw e (nothing_good z plain s d d j)

  pub room_made : Roomy s (make_room z s d).state
  room_made = room_there z s d (some_left (body z) s j.once (omega (arith, j.few_reads, j.few_writes, B.room)))
