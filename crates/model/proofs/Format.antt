-- A Done format starts the list: the invariant holds, with the disk's bytes as the plain disk.
use Prim.Native.Nat.{ℕ, ◌+◌, ◌≤◌, ◌<◌}
use mathlib.Core.Path.{◌≡◌, refl, sym, ap, ◌∙◌}
use mathlib.Core.Bool.{Bool, true, false, true≢false}
use mathlib.Core.Option.{Option, none, some}
use mathlib.Core.List.{List, []}
use native.Mathlib.Omega.{arith}
use native.Mathlib.Decide.{dec_lt}
use lib.ListN.{get_or}
use lib.Dec.{ltb}
use borrow.Author.Tests.{lt-ltb, le-ltb}
use Rattle.std.specs.Prelude.{if◌then◌else◌}
use Rattle.lists.specs.Lists.{below, times, all, distinct, ff}
use Rattle.lists.proofs.Orders.{times_below}
use Rattle.model.specs.declared.Sizes.{Sizes}
use Rattle.model.specs.Sizes.{Device, limits, lengths, body}
use Rattle.model.specs.Stores.{apply_all, tag_of, disk_bytes}
use Rattle.model.specs.Image.{epoch_of}
use Rattle.model.specs.State.{holds, is_marked, caches, backs, record_of, entry}
use Rattle.model.specs.Operations.{format}
use Rattle.model.proofs.Views.{uncopied, bare}
use Rattle.model.proofs.Safe.{gives_of, holds_of, plain_at, Safe, Chip}
use Rattle.model.proofs.Invariant.{Inv}
use Rattle.model.proofs.Limits.{limits_of, on_chip}
use Rattle.model.proofs.Frames.{Lengths, lengths_of}
use Rattle.model.proofs.FormedKept.{chip_of, blank-fits}
use Rattle.model.proofs.Buckets.{blank_unused, blank-epoch, blank_gives, blank-holds, gives_write, holds_parts}
use Rattle.model.proofs.QueuesShown.{Reads, Writes}
use Rattle.model.proofs.QueuesErased.{gone, Below, gone_lengths, gone_blank, gone_disk}
use Rattle.model.proofs.LedgerKept.{Ledger}
use Rattle.model.proofs.BlankLedger.{blank_ledger}
use Rattle.model.proofs.Inside.{Inside}
use Rattle.model.proofs.InsideLive.{outside}

no_reads : (z : Sizes) (d : Device) → Reads z d []
unfolding holds distinct backs
no_reads z d = record { read_once = refl; copies = λ b c m. absurd (true≢false (sym m.held)); newest-copy = λ b c m. absurd (true≢false (sym m.held)) }

pub no_writes : (z : Sizes) (d : Device) → Writes z d []
unfolding holds distinct backs all
no_writes z d = record {
  write_once = refl;
  logs = λ b c m. absurd (true≢false (sym m.held));
  newest_logs = λ b c m. absurd (true≢false (sym m.held));
  priorities = refl;
}

module _ (z : Sizes) (fits : limits z ≡ true) (d : Device) (lent : lengths z d ≡ true) where
  p_pos : 1 ≤ z.p
  p_pos = (limits_of z fits).p_low

  L : Lengths z d
  L = lengths_of z d lent

  abbrev wiped : Device
  wiped = gone z d (below z.c)

  below_in : (n g : ℕ) → 1 ≤ times g (below n) → g < n
  below_in n g h = go (dec_lt g n) (times_below g n)
    where
      go : Dec (g < n) → times g (below n) ≡ (if ltb g n then 1 else 0) → g < n
      go (yes u) e = u
      go (no u) e = let e' : times g (below n) ≡ 0 = e ∙ rw (le-ltb g n (omega arith)) in absurd (omega arith)

  all-below : Below z (below z.c)
  all-below g h = below_in z.c g h

  wiped_blank : (c : ℕ) → c < z.c → (k : ℕ) → k < z.p → tag_of z (gone z d (below z.c)) c k ≡ ff 16
  wiped_blank c hc k hk =
      let e : times c (below z.c) ≡ 1 = times_below c z.c ∙ rw (lt-ltb c z.c hc) in
      gone_blank z (below z.c) all-below d L c (omega arith) k hk

  wiped_epoch : (c : ℕ) → c < body z → epoch_of z (gone z d (below z.c)) c ≡ 0
  wiped_epoch c hc = blank-epoch z wiped c p_pos (wiped_blank c (on_chip z c hc))

  wiped_chip : Chip z (gone z d (below z.c))
  wiped_chip = chip_of z wiped (gone_lengths z (below z.c) all-below d L)
      (record {
        buckets_fit = λ c hc. blank-fits z p_pos wiped c (wiped_blank c (on_chip z c hc));
        epochs_differ = λ c e hc he u. absurd (true≢false (sym u ∙ blank_unused z wiped c p_pos (wiped_blank c (on_chip z c hc))));
      })
      (λ c hc. rw (wiped_epoch c hc) (omega arith))

  wiped_safe : Safe z d.disk (gone z d (below z.c))
  unfolding Safe plain_at disk_bytes
  wiped_safe b = uncopied (λ c. held c (holds_of z wiped c b) refl)
      (λ i. bare (λ c. given c i (gives_of z wiped c b i) refl) (ap (λ (l : List ℕ). get_or l i 0) (gone_disk z (below z.c) all-below d L b)))
    where
      held : (c : ℕ) (t : Bool) → holds_of z (gone z d (below z.c)) c b ≡ t → holds_of z (gone z d (below z.c)) c b ≡ false
      held c false q = q
      held c true q = blank-holds z wiped c p_pos (wiped_blank c (on_chip z c (holds_parts z wiped c b q).0)) b

      given : (c i : ℕ) (o : Option ℕ) → gives_of z (gone z d (below z.c)) c b i ≡ o → gives_of z (gone z d (below z.c)) c b i ≡ none
      given c i none q = q
      given c i (some x) q = blank_gives z wiped c p_pos (wiped_blank c (on_chip z c (gives_write z wiped c b i x q).0)) b i

  wiped_ledger : Ledger z (gone z d (below z.c)) 1
  wiped_ledger =
      let B = limits_of z fits in
      blank_ledger z p_pos wiped (wiped_blank (body z) (omega (arith, B.ledger_in))) (wiped_blank (body z + 1) (omega (arith, B.ledger_in))) 1 (omega arith)

  formatted_inside : Inside z d.disk (format z).state (gone z d (below z.c))
  unfolding format caches times is_marked record_of entry
  formatted_inside = record {
    sizes_are = refl;
    plain-length = L.disk_is;
    chip = wiped_chip;
    ledger = wiped_ledger;
    ready = wiped_safe;
    once = λ c. omega (arith, times_below c (body z));
    reads = no_reads z wiped;
    writes = no_writes z wiped;
    marks = λ b h. absurd (true≢false (sym h));
    few_reads = omega arith;
    few_writes = omega arith;
    free_blank = λ c t k hk. wiped_blank c (on_chip z c (below_in (body z) c t)) k hk;
    accepted_low = omega arith;
    next_above = λ c hc. rw (wiped_epoch c hc) (omega arith);
    next_low = omega arith;
    next_high = omega arith;
  }

  pub formatted_inv : Inv z (format z).state (apply_all z d (format z).stores) d.disk
  unfolding format all
  formatted_inv = outside z p_pos (format z).state wiped d.disk formatted_inside refl
