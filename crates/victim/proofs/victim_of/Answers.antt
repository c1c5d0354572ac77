use Rattle.std.proofs.Common.{◌≡◌, ℕ, ◌<◌, true, ltb, List, [], ◌∷◌, length, ap, sym, ◌∙◌, arith, drop_of_length-le, ltb-true}
use Rattle.lists.specs.Lists.{all}
use Rattle.lists.proofs.Arrays.{take-used}
use Rattle.lists.proofs.Tests.{and_left, and_right}
use Rattle.model.specs.declared.Entry.{Entry}
use Rattle.model.specs.Operations.{least_of, victim}
use Rattle.model.specs.State.{entry, cache_bucket, caches, is_below}
use Rattle.queue.specs.View.{entries_of}
use Rattle.victim.proofs.victim_of.Goals as goal

first_and_rest : (c : ℕ) (e : Entry) (l : List Entry) → all (is_below c) (caches (e ∷ l)) ≡ true → (e.cache < c) × (all (is_below c) (caches l) ≡ true)
unfolding all caches cache_bucket is_below
first_and_rest c e l h =
    (ltb-true e.cache c (and_left (ltb e.cache c) (all (is_below c) (caches l)) h), and_right (ltb e.cache c) (all (is_below c) (caches l)) h)

pub least_of-requires-clause-on_chip : goal.least_of-requires-clause-on_chip
least_of-requires-clause-on_chip c = let q = c.args.candidates in
    let split = sym (take-used c.used-n.result q.len q.items c.used-n.ensures.0) ∙ c.in-Some.ensures.cases.0 in
    first_and_rest c.args.z.c c.in-Some.first.now c.in-Some.rest.now (rw split at c.requires.candidates_value)

pub returns-in-Some : goal.returns-in-Some
unfolding victim entry
returns-in-Some c = let q = c.args.candidates in
    rw (c.least_of.ensures, sym (take-used c.used-n.result q.len q.items c.used-n.ensures.0) ∙ c.in-Some.ensures.cases.0)

pub returns-in-None : goal.returns-in-None
unfolding victim least_of entry
returns-in-None c = let q = c.args.candidates in
    let items = take-used c.used-n.result q.len q.items c.used-n.ensures.0 in
    let none : entries_of q ≡ [] = drop_of_length-le (entries_of q) {i = 0} (omega (arith, ap length items, c.in-None.ensures.cases)) in
    rw none
