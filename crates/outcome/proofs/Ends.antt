-- How a call's outcome follows from its refusal or its run; and the view of the struct handed back.
use Prim.Native.Nat.{ℕ, ◌≤◌}
use mathlib.Core.Path.{◌≡◌, refl, sym, ap, ◌∙◌}
use mathlib.Core.Bool.{Bool, true, false}
use mathlib.Core.List.{List, []}
use lib.ListN.{length}
use lib.Dec.{ltb, eqb}
use borrow.Author.Tests.{ne_eqb}
use Rattle.std.specs.Prelude.{if◌then◌else◌}
use Rattle.lists.specs.Lists.{empty}
use Rattle.model.specs.declared.Refusal.{Refusal}
use Rattle.model.specs.Tests.{number_of}
use Rattle.model.proofs.Refusals.{refused_lem}
use Rattle.model.specs.declared.Answer.TheVariants.{Done, Idle}
use Rattle.model.specs.Sizes.{Device}
use Rattle.model.specs.State.{State}
use Rattle.model.specs.Steps.{Plan, Step}
use Rattle.model.specs.Calls.{Call, format_call, read_call, write_call, erase_call, drain_call, recover_call, refusal, sizes_of, plan_of, done_answer, lent_buffer, read_buffer, carry_out, turned_down, call}
use Rattle.meter.specs.Run.{Run, fresh, run_all, ended}
use Rattle.meter.proofs.Runs.{run_left, run_ended}
use Rattle.state.specs.declared.State.{State as Struct}
use Rattle.state.specs.View.{view_of, state_of}
use Rattle.state.proofs.View.{view_state, view_halted}
use Rattle.steps.specs.Turns.{Progress, after}
use Rattle.outcome.specs.Handed.{handed_back, given_back, handed, finished, turned}

-- a call carried out wholly is answered Done or Idle: it gives the new state's struct
module _ (s : Struct) (new : State) where
  given_new : (k : Call) (v : State) → given_back s (done_answer k v) new ≡ state_of new
  unfolding given_back done_answer
  given_new (format_call z) v = refl
  given_new (read_call b off buffer) v = refl
  given_new (write_call b off bytes) v = refl
  given_new erase_call v = go (empty v.gc)
    where
      go : (t : Bool) → given_back s (if t then Idle else Done) new ≡ state_of new
      go true = refl
      go false = refl
  given_new drain_call v = refl
  given_new (recover_call z) v = refl

-- a call of the struct s, which shows the state v
module _ (n : ℕ) (k : Call) (s : Struct) (v : State) (d : Device) where
  -- what the allowance allowed, from what is left of it
  pub left_within : (p : Plan) {r : Run} → r ≡ run_all (sizes_of k v) p.stores (fresh d n) → r.meter.left ≤ n
  left_within p e = rw e (run_left (sizes_of k v) p.stores (fresh d n))

  run_handed : (p : Plan) (r : Run)
      → handed_back r.device (if r.meter.cut then lent_buffer k else read_buffer k v d) (finished r.meter n (done_answer k v) s p.state)
      ≡ handed s (ended n k v d p r)
  unfolding finished handed ended given_back
  run_handed p r = go r.meter.cut refl
    where
      go : (t : Bool) → r.meter.cut ≡ t
          → handed_back r.device (if r.meter.cut then lent_buffer k else read_buffer k v d) (finished r.meter n (done_answer k v) s p.state)
          ≡ handed s (ended n k v d p r)
      go true h = rw h
      go false h = rw (h, given_new s p.state k v)

  -- An entry that asked for all stores of a plan, from a whole allowance, hands back what the definitions say.
  pub handed_run : (p : Plan) {r : Run} → r ≡ run_all (sizes_of k v) p.stores (fresh d n)
      → handed_back r.device (if r.meter.cut then lent_buffer k else read_buffer k v d) (finished r.meter n (done_answer k v) s p.state)
      ≡ handed s (carry_out n k v d p)
  handed_run p {r} e = run_handed p r ∙ ap (λ (q : Run). handed s (ended n k v d p q)) e ∙ ap (handed s) (run_ended n k v d p)

  -- the same for a call that is lent no read buffer
  pub handed_quiet : (p : Plan) {r : Run} → lent_buffer k ≡ [] → read_buffer k v d ≡ [] → r ≡ run_all (sizes_of k v) p.stores (fresh d n)
      → handed_back r.device [] (finished r.meter n (done_answer k v) s p.state) ≡ handed s (carry_out n k v d p)
  handed_quiet p {r} lent read e = ap (λ (b : List ℕ). handed_back r.device b (finished r.meter n (done_answer k v) s p.state)) (sym (same r.meter.cut)) ∙ handed_run p e
    where
      same : (t : Bool) → (if t then lent_buffer k else read_buffer k v d) ≡ []
      same true = lent
      same false = read

  -- an entry that carried out a step, from a whole allowance
  module _ (step : Step) {p : Progress} (e : p ≡ after (sizes_of k v) step v (fresh d n)) where
    pub step_left : p.run.meter.left ≤ n
    unfolding after
    step_left = rw e (run_left (sizes_of k v) (step v d).stores (fresh d n))

    pub step-handed : lent_buffer k ≡ [] → read_buffer k v d ≡ []
        → handed_back p.run.device [] (finished p.run.meter n (done_answer k v) s p.state) ≡ handed s (carry_out n k v d (step v d))
    unfolding after
    step-handed lent read =
        ap (λ (q : Progress). handed_back q.run.device [] (finished q.run.meter n (done_answer k v) s q.state)) e
        ∙ handed_quiet (step v d) lent read refl

  -- a call that passes all its tests, carried out on the state w that then is the one shown
  pub handed-taken : {w : State} → v ≡ w → refusal k v d ≡ 0 → handed s (carry_out n k w d (plan_of k w d)) ≡ handed s (call n k v d)
  unfolding call
  handed-taken same h = rw (← same, h)

  -- a call that does not
  pub handed_refused : (r : ℕ) → refusal k v d ≡ r → (r ≡ 0 → ⊥) → handed_back d (lent_buffer k) (turned r s) ≡ handed s (call n k v d)
  unfolding call turned_down handed given_back
  handed_refused r h ne = rw (h, ne_eqb r 0 ne)

  -- one that its check turns down
  pub handed_refusal : (e : Refusal) → number_of e ≡ refusal k v d → handed_back d (lent_buffer k) (turned (number_of e) s) ≡ handed s (call n k v d)
  handed_refusal e h = handed_refused (number_of e) (sym h) (refused_lem e)

module _ (n : ℕ) (k : Call) (s : Struct) (d : Device) where
  -- The struct handed back is one of the outcome's state.
  pub handed_view : view_of (handed s (call n k (view_of s) d)).outcome.state ≡ (call n k (view_of s) d).state
  unfolding call carry_out turned_down handed given_back
  handed_view = go (eqb (refusal k (view_of s) d) 0) (ltb n (length (plan_of k (view_of s) d).stores)) refl refl
    where
      go : (q t : Bool) → eqb (refusal k (view_of s) d) 0 ≡ q → ltb n (length (plan_of k (view_of s) d).stores) ≡ t
          → view_of (handed s (call n k (view_of s) d)).outcome.state ≡ (call n k (view_of s) d).state
      go false t e f = rw e
      go true true e f = rw (e, f) (view_halted s)
      go true false e f = rw (e, f, given_new s (plan_of k (view_of s) d).state k (view_of s)) (view_state (plan_of k (view_of s) d).state)
