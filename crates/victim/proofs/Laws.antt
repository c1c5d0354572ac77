-- One more turn of the search for the least.
use Rattle.std.proofs.Common.{◌≡◌, ℕ, suc, ◌+◌, ◌<◌, Bool, true, ap, List, length, drop, get_or, add-one, arith, drop-cons, take_all}
use Rattle.std.specs.Prelude.{if◌then◌else◌}
use Rattle.lists.specs.Lists.{all}
use Rattle.model.specs.declared.Sizes.{Sizes}
use Rattle.model.specs.declared.Entry.{Entry}
use Rattle.model.specs.Sizes.{Device}
use Rattle.model.specs.State.{caches, is_below}
use Rattle.model.specs.Operations.{goes_first, least_of}
use Rattle.queue.specs.View.{no_entry}
use Rattle.state.proofs.Below.{cache_below}

pub cache_at : (c : ℕ) (l : List Entry) (i : ℕ) → all (is_below c) (caches l) ≡ true → i < length l → (get_or l i no_entry).cache < c
cache_at c l i h k = cache_below c (length l) l i (rw (take_all (length l) l (omega arith)) h) k (omega arith)

pub least_step : (z : Sizes) (d : Device) (best : Entry) (i : ℕ) (l : List Entry) → i < length l → (t : Bool)
    → goes_first z d (get_or l i no_entry) best ≡ t
    → least_of z d best (drop i l) ≡ least_of z d (if t then get_or l i no_entry else best) (drop (i + 1) l)
unfolding least_of
least_step z d best i l h t e =
    rw (add-one i, drop-cons l i no_entry h) (ap (λ (s : Bool). least_of z d (if s then get_or l i no_entry else best) (drop (suc i) l)) e)
