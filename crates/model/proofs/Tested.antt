-- What the tests of a call give by themselves: its queues' buckets are on the chip, their back-end buckets on the disk.
use Prim.Native.Nat.{ℕ, ◌≤◌, ◌<◌}
use mathlib.Core.Path.{◌≡◌, ◌∙◌}
use mathlib.Core.Bool.{true}
use native.Mathlib.Omega.{arith}
use lib.ListN.{length}
use lib.Dec.{eqb}
use borrow.Author.Tests.{eqb-true}
use Rattle.lists.proofs.Tests.{every_at, and_left, and_right}
use Rattle.model.specs.declared.Sizes.{Sizes}
use Rattle.model.specs.Sizes.{Device, bucket_size, body}
use Rattle.model.specs.Image.{used, back_of, complete}
use Rattle.model.specs.Ledger.{well_formed}
use Rattle.model.specs.State.{State, read_agrees, write_agrees, state_fits}
use Rattle.model.specs.Steps.{merged}
use Rattle.model.proofs.Limits.{Limits, limits_of}
use Rattle.model.proofs.Frames.{Lengths, lengths_of}
use Rattle.model.proofs.Formed.{Formed, formed_of}
use Rattle.model.proofs.BucketKinds.{complete-copy, copy-used, write-used, back_below}
use Rattle.model.proofs.Queues.{Maps, maps_times}
use Rattle.model.proofs.QueuesGrown.{maps_all}
use Rattle.model.proofs.QueuesMerged.{merged-length}
use Rattle.model.proofs.Inside.{places}
use Rattle.model.proofs.InsideLive.{placed}
use Rattle.model.proofs.Calling.{Passed}

module _ (s : State) (d : Device) (pass : Passed s d) where
  abbrev z : Sizes
  z = s.sizes

  pub bounds : Limits s.sizes
  bounds = limits_of z pass.in_limits

  pub lens : Lengths s.sizes d
  lens = lengths_of z d pass.lent_whole

  pub formed : Formed s.sizes d
  unfolding well_formed
  formed = formed_of z d (every_at _ pass.body_formed 0)

  pub in_place : (c : ℕ) → 1 ≤ places s c → c < body s.sizes
  unfolding state_fits
  in_place c h = placed (body z) s (every_at _ pass.state_fits_lem 0) c h

  pub reads_in : (b c : ℕ) → Maps s.reads b c → c < body s.sizes
  reads_in b c m = in_place c (omega (arith, maps_times s.reads b c m))

  pub writes_in : (b c : ℕ) → Maps s.writes b c → c < body s.sizes
  writes_in b c m = in_place c (omega (arith, maps_times s.writes b c m))

  back_of_lem : (b c e : ℕ) → e ≡ c → c < body s.sizes → used s.sizes d e ≡ true → back_of s.sizes d e ≡ b → b < s.sizes.b
  back_of_lem b c e q hc u h = rw (← h) (back_below z d formed bounds.p_low e (rw q hc) u)

  pub read_back : (b c : ℕ) → Maps s.reads b c → b < s.sizes.b
  unfolding state_fits read_agrees
  read_back b c m =
      let e = maps_all (read_agrees z d) s.reads (every_at _ pass.state_fits_lem 3) (every_at _ pass.state_fits_lem 5) b c m in
      let whole = and_left (complete z d e.0.cache) (eqb (back_of z d e.0.cache) e.0.back) e.3 in
      let own = eqb-true _ _ (and_right (complete z d e.0.cache) (eqb (back_of z d e.0.cache) e.0.back) e.3) in
      back_of_lem b c e.0.cache e.2 (reads_in b c m) (copy-used z d e.0.cache (complete-copy z d e.0.cache whole)) (own ∙ e.1)

  pub write-back : (b c : ℕ) → Maps s.writes b c → b < s.sizes.b
  unfolding state_fits write_agrees
  write-back b c m =
      let e = maps_all (write_agrees z d) s.writes (every_at _ pass.state_fits_lem 4) (every_at _ pass.state_fits_lem 6) b c m in
      back_of_lem b c e.0.cache e.2 (writes_in b c m) (write-used z d e.0.cache (every_at _ e.3 0)) (eqb-true _ _ (every_at _ e.3 1) ∙ e.1)

  pub merged_size : (b : ℕ) → b < s.sizes.b → length (merged s.sizes s d b) ≡ bucket_size s.sizes
  merged_size b hb = merged-length z (omega (arith, bounds.s_low)) d lens formed s reads_in writes_in b hb
