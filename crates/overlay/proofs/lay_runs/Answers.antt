use Rattle.overlay.proofs.Found.{ends_less}
use Rattle.overlay.proofs.Woven.{tagged_of, stored, lent_step, lent_all}
use Rattle.geometry.proofs.Passed.{products}
use Rattle.model.specs.Sizes.{bucket_size}
use Rattle.lists.proofs.Splices.{splice-none}
use Rattle.lists.specs.Lists.{part}
use lib.ListN.{length}
use native.Mathlib.Omega.{arith}
use native.Mathlib.Nat.{le_refl}
use mathlib.Core.Logic.{◌⊎◌, inl, inr}
use mathlib.Core.Path.{◌≡◌, refl, sym, ◌∙◌}
use Prim.Native.Nat.{ℕ, ◌+◌, ◌-◌, ◌≤◌}
use Rattle.overlay.proofs.lay_runs.Goals as goal

-- what is lent is there up to every run's end
lent_run : (end n whole : ℕ) → (n ≡ 0) ⊎ (n ≡ whole) → end ≤ whole → (n ≡ 0) ⊎ (end ≤ n)
lent_run end n whole (inl none) h = inl none
lent_run end n whole (inr all) h = inr (omega arith)

pub overflow_add-x : goal.overflow_add-x
unfolding bucket_size
overflow_add-x c = let small : c.args.«from» + length c.args.window.now ≤ 65536 = omega (arith, c.requires.window_bound, (products c.requires.readable.limits).bucket) in
    omega (arith, small)

pub newest_pages-newest-requires : goal.newest_pages-newest-requires
newest_pages-newest-requires c = let start = c in record { tagged = tagged_of start.requires.readable; list_value = start.requires.list_value }

pub loop-x-init : goal.loop-x-init
unfolding part
loop-x-init c = let a = c.args in
    let none : a.«from» + length a.window.now - (a.«from» + length a.window.now) ≡ 0 = omega arith in (
      omega arith,
      le_refl (a.«from» + length a.window.now),
      refl,
      λ some. c.newest_pages-newest.ensures (a.«from» + length a.window.now) some,
      λ whole size shows. rw none (sym (splice-none a.window.now (a.«from» + length a.window.now - a.«from»))),
    )

pub newest_live-newest-requires : goal.newest_live-newest-requires
newest_live-newest-requires c = let start = c in record { tagged = tagged_of start.requires.readable; list_value = start.requires.list_value; ends_by = c.loop-x.invariant.3 }

pub run_at-run-requires : goal.run_at-run-requires
run_at-run-requires c = let start = c in
    record { tagged = tagged_of start.requires.readable; list_value = start.requires.list_value; ends_by = c.newest_live-newest.ensures; from_lt_x = (c.loop-x-test.true, omega (arith, c.loop-x.invariant.1, start.requires.window_bound)) }

pub lay_run-requires : goal.lay_run-requires
lay_run-requires c =
    let start = c in
    let l = c.loop-x in
    let runs = c.run_at-run.ensures in
    record {
      first = runs.least;
      some = runs.some;
      last = omega (arith, l.invariant.1, l.invariant.2);
      stored = stored start.requires.readable runs;
      lent = lent_run l.x (length c.args.under.now) (bucket_size c.args.z) c.requires.fact (omega (arith, l.invariant.1, start.requires.window_bound));
    }

pub loop-x-smaller : goal.loop-x-smaller
loop-x-smaller c = omega (arith, c.run_at-run.ensures.some)

pub loop-x-preserved : goal.loop-x-preserved
loop-x-preserved c = let start = c in
    let l = c.loop-x in
    let runs = c.run_at-run.ensures in
    let a = start.args in (
      runs.least,
      omega (arith, runs.some, l.invariant.1),
      omega (arith, c.window-1.given, l.invariant.2),
      λ some. ends_less c.run_at-run.result.start (omega (arith, runs.some)) (c.newest_live-newest.ensures some),
      λ whole size shows.
          rw c.lay_run.ensures
          (lent_step start.requires.readable a.list.now start.requires.list_value whole size a.«from» start.requires.window_bound shows l.invariant.1 runs (l.invariant.4 whole size shows)),
    )

pub shape_of-window : goal.shape_of-window
shape_of-window c = let l = c.loop-x in omega (arith, l.invariant.2)

pub returns : goal.returns
returns c = let start = c in
    let l = c.loop-x in
    let a = start.args in
    λ whole size shows.
    let first : l.x ≡ a.«from» = omega (arith, c.loop-x-test.false, l.invariant.0) in
    let all : a.«from» + length a.window.now - a.«from» ≡ length a.window.now = omega arith in
    let none : a.«from» - a.«from» ≡ 0 = omega arith in
    rw (first, all, none) at (l.invariant.4 whole size shows) ∙ lent_all start.requires.readable a.list.now start.requires.list_value whole size a.«from» start.requires.window_bound shows
