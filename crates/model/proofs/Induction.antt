-- The induction over the list: from what each call owes to what holds of the list.
use Prim.Native.Nat.{ℕ, ◌<◌}
use mathlib.Core.Path.{◌≡◌, refl, sym, ap, ◌∙◌}
use mathlib.Core.Bool.{Bool, true, false, true≢false}
use mathlib.Core.List.{List, [], ◌∷◌}
use lib.ListN.{length, take, drop}
use lib.Dec.{eqb}
use Rattle.std.specs.Prelude.{if◌then◌else◌}
use Rattle.lists.specs.Lists.{all, empty, part}
use Rattle.model.specs.declared.Sizes.{Sizes}
use Rattle.model.specs.declared.Answer.TheVariants.{Done, Idle, Cut, Refused}
use Rattle.model.specs.Tests.{first_failed}
use Rattle.model.specs.Sizes.{Device, limits, lengths}
use Rattle.model.specs.Stores.{Store, apply_all}
use Rattle.model.specs.State.{State, stopped, count_agrees}
use Rattle.model.specs.Operations.{format}
use Rattle.model.specs.Calls.{Call, format_call, read_call, write_call, erase_call, drain_call, recover_call, Outcome, lent_tests, running_tests, tests, refusal, is_done, is_cut, sizes_of, plan_of, done_answer, read_buffer, turned_down, call}
use Rattle.model.specs.Promise.{Lent, whole, other, Tear, Item, MayStand, MayBeLent, lent_of, left_of, torn, after_call, disk_place, feed, is_refused, Kept, PartKept, Claim, Throughout, Promised}
use Rattle.model.specs.StoresMade.{Rising}
use Rattle.model.proofs.Limits.{limits_of}
use Rattle.model.proofs.Frames.{lengths_test}
use Rattle.model.proofs.Prefix.{cuts_at}
use Rattle.model.proofs.Findable.{Findable, accepted_test}
use Rattle.model.proofs.Spoiled.{torn-found, rising_at}
use Rattle.model.proofs.Invariant.{Inv, Pays}
use Rattle.model.proofs.Calling.{first_passed, feed-not}
use Rattle.model.proofs.Outcomes.{cut_short, carried_out, Ends, refused, cut, done, ends}

-- ---- the plain disk by answers

module _ (z : Sizes) where
  -- an erase step alone may be Idle, and it feeds nothing
  feed_done : (k : Call) (s : State) (plain : List ℕ) → feed z k (done_answer k s) plain ≡ feed z k Done plain
  unfolding feed done_answer
  feed_done (format_call y) s plain = refl
  feed_done (read_call b off buffer) s plain = refl
  feed_done (write_call b off bytes) s plain = refl
  feed_done erase_call s plain = refl
  feed_done drain_call s plain = refl
  feed_done (recover_call y) s plain = refl

  sizes_of_lem : (k : Call) (s : State) → MayStand z k → s.sizes ≡ z → sizes_of k s ≡ z
  unfolding MayStand sizes_of
  sizes_of_lem (format_call y) s m e = absurd m
  sizes_of_lem (read_call b off buffer) s m e = e
  sizes_of_lem (write_call b off bytes) s m e = e
  sizes_of_lem erase_call s m e = e
  sizes_of_lem drain_call s m e = e
  sizes_of_lem (recover_call y) s m e = m

-- a call that is carried out is not Cut
done_uncut : (k : Call) (s : State) → is_cut (done_answer k s) ≡ false
unfolding is_cut done_answer
done_uncut (format_call y) s = refl
done_uncut (read_call b off buffer) s = refl
done_uncut (write_call b off bytes) s = refl
done_uncut erase_call s = go (empty s.gc)
  where
    go : (q : Bool) → is_cut (if q then Idle else Done) ≡ false
    go true = refl
    go false = refl
done_uncut drain_call s = refl
done_uncut (recover_call y) s = refl

-- ---- refusals

-- a call's tests are those of sizes and buffers, and then its own
lent_first : (k : Call) (s : State) (d : Device) → limits (sizes_of k s) ≡ true → lengths (sizes_of k s) d ≡ false → refusal k s d ≡ 2
unfolding sizes_of refusal tests running_tests lent_tests first_failed
lent_first (format_call y) s d l h = rw (l, h)
lent_first (read_call b off buffer) s d l h = rw (l, h)
lent_first (write_call b off bytes) s d l h = rw (l, h)
lent_first erase_call s d l h = rw (l, h)
lent_first drain_call s d l h = rw (l, h)
lent_first (recover_call y) s d l h = rw (l, h)

-- a claim about every call that may stand in the list, wherever the invariant holds
abbrev pub Each : Sizes → Claim → Type 0
Each z claim = (n : ℕ) (k : Call) → MayStand z k → (s : State) (d : Device) (plain : List ℕ) → Inv z s d plain → (l : Lent) → MayBeLent z l
    → claim z plain k l (call n k s (lent_of l d))

module _ (z : Sizes) (fits-limits : limits z ≡ true) where
  pub recover-taken : (s : State) (d : Device) (plain : List ℕ) → Findable z plain d → refusal (recover_call z) s d ≡ 0
  unfolding refusal tests lent_tests first_failed
  recover-taken s d plain f = rw (fits-limits, lengths_test z d f.lens, accepted_test z d f.accepted)

  -- ---- one call

  kept_cut : (plain : List ℕ) (k : Call) (o : Outcome) → o.answer ≡ Cut → Kept z plain k whole o
  unfolding Kept is_done is_refused
  kept_cut plain (format_call y) o e = tt
  kept_cut plain (read_call b off buffer) o e = λ h. absurd (true≢false (sym h ∙ rw e))
  kept_cut plain (write_call b off bytes) o e = tt
  kept_cut plain erase_call o e = tt
  kept_cut plain drain_call o e = tt
  kept_cut plain (recover_call y) o e = rw e

  -- a recover is not turned down
  kept_refused : (plain : List ℕ) (k : Call) (s : State) (d : Device) (o : Outcome) → MayStand z k → Findable z plain d → eqb (refusal k s d) 0 ≡ false
      → o.answer ≡ Refused (refusal k s d) → Kept z plain k whole o
  unfolding MayStand Kept is_done is_refused
  kept_refused plain (format_call y) s d o m f h e = tt
  kept_refused plain (read_call b off buffer) s d o m f h e = λ q. absurd (true≢false (sym q ∙ rw e))
  kept_refused plain (write_call b off bytes) s d o m f h e = tt
  kept_refused plain erase_call s d o m f h e = tt
  kept_refused plain drain_call s d o m f h e = tt
  kept_refused plain (recover_call y) s d o m f h e = absurd (true≢false (sym taken ∙ h))
    where
      taken : eqb (refusal (recover_call y) s d) 0 ≡ true
      taken = rw (m, recover-taken s d plain f)

  kept_part : (plain : List ℕ) (k : Call) (part : Device) (o : Outcome) → o.answer ≡ Refused 2 → Kept z plain k (other part) o
  unfolding Kept is_done
  kept_part plain (format_call y) part o e = tt
  kept_part plain (read_call b off buffer) part o e = λ q. absurd (true≢false (sym q ∙ rw e))
  kept_part plain (write_call b off bytes) part o e = tt
  kept_part plain erase_call part o e = tt
  kept_part plain drain_call part o e = tt
  kept_part plain (recover_call y) part o e = tt

  -- what every call owes, the counts that it keeps, that its programs rise, and what a read's buffer owes
  pub record Owing : Type 0 where
    pub pays : (k : Call) → MayStand z k → Pays z k
    pub counts : (k : Call) (s : State) (d : Device) → sizes_of k s ≡ z → refusal k s d ≡ 0 → all (count_agrees z (apply_all z d (plan_of k s d).stores)) (plan_of k s d).state.writes ≡ true
    pub rises : (k : Call) (s : State) (d : Device) → sizes_of k s ≡ z → refusal k s d ≡ 0 → Rising z d (plan_of k s d).stores
    pub reads : (b off : ℕ) (buffer : List ℕ) (s : State) (d : Device) (plain : List ℕ) → Inv z s d plain → refusal (read_call b off buffer) s d ≡ 0
        → read_buffer (read_call b off buffer) s d ≡ part plain (disk_place z b off) (length buffer)

  module _ (owing : Owing) where
    kept_done : (plain : List ℕ) (k : Call) (s : State) (d : Device) (o : Outcome) → Inv z s d plain → refusal k s d ≡ 0
        → o.answer ≡ done_answer k s → o.buffer ≡ read_buffer k s d → Kept z plain k whole o
    unfolding Kept is_refused done_answer
    kept_done plain (format_call y) s d o i r e f = tt
    kept_done plain (read_call b off buffer) s d o i r e f = λ h. f ∙ owing.reads b off buffer s d plain i r
    kept_done plain (write_call b off bytes) s d o i r e f = tt
    kept_done plain erase_call s d o i r e f = tt
    kept_done plain drain_call s d o i r e f = tt
    kept_done plain (recover_call y) s d o i r e f = rw e

    module _ (n : ℕ) (k : Call) (may : MayStand z k) (s : State) (d : Device) (plain : List ℕ) (i : Inv z s d plain) where
      -- chip and disk before the next call: a cut call's next store may be half done
      abbrev left : (lent : Device) → Tear → Outcome → Device
      left e t o = if is_cut o.answer then torn z t o.device (drop o.stores (plan_of k s e).stores) else o.device

      record After (o : Outcome) : Type 0 where
        kept : Kept z plain k whole o
        inv : (t : Tear) → Inv z o.state (left d t o) (feed z k o.answer plain)

      after_refused : eqb (refusal k s d) 0 ≡ false → After (turned_down (refusal k s d) k s d)
      unfolding turned_down is_done is_cut
      after_refused e = record {
        kept = kept_refused plain k s d _ may i.found e refl;
        inv = λ t. rw (feed-not z k (Refused (refusal k s d)) plain refl) i;
      }

      after_cut : refusal k s d ≡ 0 → n < length (plan_of k s d).stores → After (cut_short n k s d)
      unfolding stopped is_done is_cut
      after_cut r h = record {
        kept = kept_cut plain k _ refl;
        inv = λ t. rw (sizes_of_lem z k s may i.sizes_are) (record {
          sizes_are = i.sizes_are;
          plain-length = rw (feed-not z k Cut plain refl) i.plain-length;
          found = torn-found z (limits_of z fits-limits) (feed z k Cut plain) (apply_all z d (take n stores)) (drop n stores)
              (rising_at z d stores (owing.rises k s d (sizes_of_lem z k s may i.sizes_are) r) n)
              (cuts_at z (Findable z (feed z k Cut plain)) d stores (owing.pays k may s d plain fits-limits i r).cuts n h) t;
          live = λ q. absurd (true≢false (sym q));
        });
      }
        where
          stores : List Store
          stores = (plan_of k s d).stores

      after_done : refusal k s d ≡ 0 → After (carried_out n k s d)
      after_done r = record {
        kept = kept_done plain k s d _ i r refl refl;
        inv = λ t. rw (done_uncut k s, feed_done z k s plain, sizes_of_lem z k s may i.sizes_are) ((owing.pays k may s d plain fits-limits i r).whole (owing.counts k s d (sizes_of_lem z k s may i.sizes_are) r));
      }

      after-call : After (call n k s d)
      after-call = go (ends n k s d)
        where
          go : Ends n k s d → After (call n k s d)
          go (refused r e) = rw e (after_refused r)
          go (cut r h e) = rw e (after_cut r h)
          go (done r e) = rw e (after_done r)

      -- a call lent a part leaves everything as it was
      part-call : (part : Device) → lengths z part ≡ false → call n k s part ≡ turned_down 2 k s part
      unfolding call
      part-call part h = rw (lent_first k s part (rw (sizes_of_lem z k s may i.sizes_are) fits-limits) (rw (sizes_of_lem z k s may i.sizes_are) h))

      -- any call of the list
      pub kept_called : (l : Lent) → MayBeLent z l → let o = call n k s (lent_of l d) in Kept z plain k l o × PartKept l o
      unfolding MayBeLent lent_of PartKept turned_down
      kept_called whole h = (after-call.kept, tt)
      kept_called (other part) h = rw (part-call part h) (kept_part plain k part (turned_down 2 k s part) refl, (refl, refl))

      pub called : (l : Lent) → MayBeLent z l → (t : Tear)
          → let o = call n k s (lent_of l d) in Inv z o.state (left_of l d (left (lent_of l d) t o)) (feed z k o.answer plain)
      unfolding MayBeLent lent_of left_of turned_down is_done
      called whole h t = after-call.inv t
      called (other part) h t = rw (part-call part h, feed-not z k (Refused 2) plain refl) i

    pub promised : Each z Promised
    unfolding Promised
    promised n k may s d plain i l lent = kept_called n k may s d plain i l lent

    -- a claim about each call is one about the list
    pub throughout : (claim : Claim) → Each z claim → (xs : List Item) (s : State) (d : Device) (plain : List ℕ) → Inv z s d plain
        → Throughout (λ (s : State). s) (λ (s : State) (o : Outcome). o.state) claim z xs s d plain
    unfolding Throughout after_call
    throughout claim each [] s d plain i = tt
    throughout claim each (x ∷ xs) s d plain i = λ may lent. (
      each x.allowance x.request may s d plain i x.lent lent,
      throughout claim each xs _ _ _ (called x.allowance x.request may s d plain i x.lent lent x.tear),
    )

-- ---- the start

-- what a Done format leaves
pub record Formatted (z : Sizes) (d : Device) (o : Outcome) : Type 0 where
  pub within-limits : limits z ≡ true
  pub whole_lent : lengths z d ≡ true
  pub state_is : o.state ≡ (format z).state
  pub device_is : o.device ≡ apply_all z d (format z).stores

pub formatted : (z : Sizes) (n : ℕ) (s : State) (d : Device) → (call n (format_call z) s d).answer ≡ Done → Formatted z d (call n (format_call z) s d)
unfolding refusal tests lent_tests turned_down plan_of sizes_of is_done
formatted z n s d h = go (ends n (format_call z) s d)
  where
    never : (o : Outcome) → call n (format_call z) s d ≡ o → is_done o.answer ≡ false → Formatted z d (call n (format_call z) s d)
    never o e q = absurd (true≢false (ap is_done (sym h) ∙ ap (λ (x : Outcome). is_done x.answer) e ∙ q))

    go : Ends n (format_call z) s d → Formatted z d (call n (format_call z) s d)
    go (refused r e) = never _ e refl
    go (cut r k e) = never _ e refl
    go (done r e) =
        let one = first_passed 0 (limits z) _ r in
        rw e (record { within-limits = one.0; whole_lent = (first_passed 1 (lengths z d) _ one.1).0; state_is = refl; device_is = refl })
