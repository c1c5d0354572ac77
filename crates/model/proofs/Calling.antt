-- A call that is not refused: what its tests give, what it owes for a plan that keeps the plain disk, and the erase step.
use Prim.Native.Nat.{ℕ, suc, ◌+◌, ◌≤◌, ◌<◌}
use mathlib.Core.Path.{◌≡◌, refl, subst, sym}
use mathlib.Core.Bool.{Bool, true, false}
use mathlib.Core.List.{List, [], ◌∷◌, ◌++◌, append-nil}
use native.Mathlib.Omega.{arith}
use lib.ListN.{length}
use lib.Dec.{leb}
use borrow.Author.Tests.{ltb-true, leb-true}
use Rattle.lists.specs.Lists.{part}
use Rattle.lists.proofs.Tests.{and_left, and_right}
use Rattle.model.specs.declared.Sizes.{Sizes}
use Rattle.model.specs.declared.Answer.{Answer}
use Rattle.model.specs.declared.Answer.TheVariants.{Done, Cut}
use Rattle.model.specs.Tests.{Test, first_failed}
use Rattle.model.specs.Sizes.{Device, limits, lengths, bucket_size}
use Rattle.model.specs.Ledger.{well_formed}
use Rattle.model.specs.State.{State, state_fits}
use Rattle.model.specs.Steps.{erase_step}
use Rattle.model.specs.Calls.{Call, format_call, read_call, write_call, erase_call, drain_call, recover_call, is_done, lent_tests, running_tests, range_fits, place_tests, tests, refusal, plan_of, read_buffer}
use Rattle.model.specs.Promise.{feed, disk_place}
use Rattle.model.proofs.Limits.{limits_of}
use Rattle.model.proofs.Invariant.{Inv, Owed, Pays}
use Rattle.model.proofs.InsideLive.{inside, outside}
use Rattle.model.proofs.Steps.{Good, erase_good}
use Rattle.model.proofs.QueuesMerged.{read_plain}

-- ---- the tests

pub first_passed : (n : ℕ) (t : Bool) (ts : List Test) → first_failed ((suc n, t) ∷ ts) ≡ 0 → (t ≡ true) × (first_failed ts ≡ 0)
unfolding first_failed
first_passed n true ts h = (refl, h)
first_passed n false ts h = absurd (omega arith)

-- what read, write, erase step and drain are not turned down for
pub record Passed (s : State) (d : Device) : Type 0 where
  pub in_limits : limits s.sizes ≡ true
  pub lent_whole : lengths s.sizes d ≡ true
  pub runs : s.running ≡ true
  pub body_formed : well_formed s.sizes d ≡ true
  pub state_fits_lem : state_fits s d ≡ true

pub tests_passed : (s : State) (d : Device) (ts : List Test) → first_failed (running_tests s d ++ ts) ≡ 0 → Passed s d × (first_failed ts ≡ 0)
unfolding running_tests lent_tests
tests_passed s d ts h =
    let one = first_passed 0 _ _ h in
    let two = first_passed 1 _ _ one.1 in
    let three = first_passed 2 _ _ two.1 in
    let four = first_passed 3 _ _ three.1 in
    let five = first_passed 4 _ _ four.1 in
    (record { in_limits = one.0; lent_whole = two.0; runs = three.0; body_formed = four.0; state_fits_lem = five.0 }, five.1)

pub running_passed : (s : State) (d : Device) (ts : List Test) → first_failed (running_tests s d ++ ts) ≡ 0 → (s.running ≡ true) × (first_failed ts ≡ 0)
running_passed s d ts h = let pass = tests_passed s d ts h in (pass.0.runs, pass.1)

-- a range inside a back-end bucket
pub record Range (z : Sizes) (b off n : ℕ) : Type 0 where
  pub b_in : b < z.b
  pub n_some : 1 ≤ n
  pub range_in : off + n ≤ bucket_size z

pub place_passed : (z : Sizes) (b off n : ℕ) (ts : List Test) → first_failed (place_tests z b off n ++ ts) ≡ 0 → Range z b off n × (first_failed ts ≡ 0)
unfolding place_tests range_fits
place_passed z b off n ts h =
    let six = first_passed 5 _ _ h in
    let seven = first_passed 6 _ _ six.1 in (
      record {
        b_in = ltb-true b z.b six.0;
        n_some = leb-true 1 n (and_left (leb 1 n) (leb (off + n) (bucket_size z)) seven.0);
        range_in = leb-true (off + n) (bucket_size z) (and_right (leb 1 n) (leb (off + n) (bucket_size z)) seven.0);
      },
      seven.1,
    )

-- ---- the plain disk by answers

pub feed-not : (z : Sizes) (k : Call) (a : Answer) (plain : List ℕ) → is_done a ≡ false → feed z k a plain ≡ plain
unfolding feed
feed-not z (format_call y) a plain e = refl
feed-not z (read_call b off buffer) a plain e = refl
feed-not z (write_call b off bytes) a plain e = rw e
feed-not z erase_call a plain e = refl
feed-not z drain_call a plain e = refl
feed-not z (recover_call y) a plain e = refl

-- ---- what is owed

-- a plan that keeps the plain disk
pub pays_good : (z : Sizes) → 1 ≤ z.p → (k : Call) (s : State) (d : Device) (plain : List ℕ) → feed z k Done plain ≡ plain → Good z plain (plan_of k s d) d → Owed z k s d plain
unfolding is_done
pays_good z p_pos k s d plain e g = record {
  cuts = rw (feed-not z k Cut plain refl) g.0;
  whole = λ counts. rw e (outside z p_pos (plan_of k s d).state _ plain g.1 counts);
}

pub erase_pays : (z : Sizes) → Pays z erase_call
unfolding refusal tests plan_of feed
erase_pays z s d plain fits i r =
    let run = running_passed s d [] (rw (append-nil (running_tests s d)) r) in
    let j = inside z s d plain i run.0 in
    let B = limits_of z fits in
    pays_good z B.p_low erase_call s d plain refl (subst (λ (y : Sizes). Good z plain (erase_step y s d) d) (sym i.sizes_are) (erase_good z B plain s d j))

-- ---- what a read gives

pub read_passed : (s : State) (d : Device) (b off : ℕ) (buffer : List ℕ) → refusal (read_call b off buffer) s d ≡ 0 → Passed s d × Range s.sizes b off (length buffer)
unfolding refusal tests
read_passed s d b off buffer r =
    let run = tests_passed s d (place_tests s.sizes b off (length buffer)) r in
    (run.0, (place_passed s.sizes b off (length buffer) [] (rw (append-nil (place_tests s.sizes b off (length buffer))) run.1)).0)

pub read_gives : (z : Sizes) → limits z ≡ true → (b off : ℕ) (buffer : List ℕ) (s : State) (d : Device) (plain : List ℕ) → Inv z s d plain
    → refusal (read_call b off buffer) s d ≡ 0 → read_buffer (read_call b off buffer) s d ≡ part plain (disk_place z b off) (length buffer)
unfolding read_buffer
read_gives z fits b off buffer s d plain i r =
    subst (λ (y : Sizes). limits y ≡ true → Inv y s d plain → read_buffer (read_call b off buffer) s d ≡ part plain (disk_place y b off) (length buffer)) i.sizes_are own fits i
  where
    own : limits s.sizes ≡ true → Inv s.sizes s d plain → read_buffer (read_call b off buffer) s d ≡ part plain (disk_place s.sizes b off) (length buffer)
    own f i' =
        let pass = read_passed s d b off buffer r in
        let bounds = limits_of s.sizes f in
        read_plain s.sizes bounds.p_low (omega (arith, bounds.s_low)) plain s d (inside s.sizes s d plain i' pass.0.runs) b pass.1.b_in off (length buffer) pass.1.range_in
