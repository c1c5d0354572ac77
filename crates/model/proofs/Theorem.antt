-- Demand 3 and its companions, proved.
use Prim.Native.Nat.{ℕ}
use mathlib.Core.Path.{◌≡◌, sym, subst}
use mathlib.Core.Bool.{true}
use Rattle.model.specs.declared.Sizes.{Sizes}
use Rattle.model.specs.declared.Answer.TheVariants.{Done}
use Rattle.model.specs.Sizes.{Device, limits}
use Rattle.model.specs.State.{State}
use Rattle.model.specs.Calls.{Call, format_call, read_call, write_call, erase_call, drain_call, recover_call, refusal, sizes_of, plan_of, call}
use Rattle.model.specs.Promise.{MayStand, Claim, Always, AlwaysHolds, Promised, NothingLost}
use Rattle.model.specs.StoresMade.{Rising, ProgramsRise}
use Rattle.model.specs.Companions.{Trusted, Drained, NeverDistrusted, DrainedDiskIsPlain}
use Rattle.model.proofs.Invariant.{Inv, Pays}
use Rattle.model.proofs.Calling.{erase_pays, read_gives}
use Rattle.model.proofs.Format.{formatted_inv}
use Rattle.model.proofs.Read.{read_pays}
use Rattle.model.proofs.Write.{write_pays}
use Rattle.model.proofs.Drain.{drain_pays, drain_settles}
use Rattle.model.proofs.Recover.{recover_pays}
use Rattle.model.proofs.Counts.{counts_left}
use Rattle.model.proofs.ProgramsRise.{programs_rise}
use Rattle.model.proofs.Induction.{Each, Owing, promised, throughout, formatted}
use Rattle.model.proofs.Companions.{trusted, drained}

pays : (z : Sizes) (k : Call) → MayStand z k → Pays z k
unfolding MayStand
pays z (format_call y) m = absurd m
pays z (read_call b off buffer) m = read_pays z b off buffer
pays z (write_call b off bytes) m = write_pays z b off bytes
pays z erase_call m = erase_pays z
pays z drain_call m = drain_pays z
pays z (recover_call y) m = subst (λ (x : Sizes). Pays z (recover_call x)) (sym m) (recover_pays z)

rises : (z : Sizes) (k : Call) (s : State) (d : Device) → sizes_of k s ≡ z → refusal k s d ≡ 0 → Rising z d (plan_of k s d).stores
unfolding ProgramsRise
rises z k s d e r = subst (λ (x : Sizes). Rising x d (plan_of k s d).stores) e (programs_rise k s d r)

owing : (z : Sizes) (fits : limits z ≡ true) → Owing z fits
owing z fits = record { pays = pays z; counts = counts_left z; rises = rises z; reads = read_gives z fits }

-- the invariant holds where the list starts
start : (z : Sizes) (n : ℕ) (s : State) (d : Device) → (call n (format_call z) s d).answer ≡ Done
    → Inv z (call n (format_call z) s d).state (call n (format_call z) s d).device d.disk
start z n s d h =
    let f = formatted z n s d h in
    rw (f.state_is, f.device_is) (formatted_inv z f.within-limits d f.whole_lent)

-- a claim about each call is one about every list
always : (claim : Claim) → ((z : Sizes) (fits : limits z ≡ true) → Each z claim) → AlwaysHolds claim
unfolding AlwaysHolds Always
always claim each z n s d xs h =
    let fits = (formatted z n s d h).within-limits in
    throughout z fits (owing z fits) claim (each z fits) xs _ _ d.disk (start z n s d h)

pub nothing_lost : NothingLost
unfolding NothingLost
nothing_lost = always Promised (λ z fits. promised z fits (owing z fits))

pub never_distrusted : NeverDistrusted
unfolding NeverDistrusted
never_distrusted = always Trusted trusted

pub drained_disk_is_plain : DrainedDiskIsPlain
unfolding DrainedDiskIsPlain
drained_disk_is_plain = always Drained (λ z fits. drained z (drain_settles z fits))
