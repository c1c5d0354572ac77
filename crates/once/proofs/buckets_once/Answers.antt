use Prim.Native.Nat.{ℕ, ◌<◌}
use mathlib.Core.List.{◌++◌}
use mathlib.Core.Path.{◌≡◌, sym, ap, ◌∙◌}
use native.Mathlib.Omega.{arith}
use lib.Dec.{eqb}
use lib.ListN.{length, take, get_or, replicate, length-append, length-map, length-replicate, get_or-replicate}
use borrow.Author.Rules.{rules}
use borrow.Author.Tests.{ne_eqb}
use Rattle.std.proofs.lemmas.List.{map-id}
use Rattle.lists.specs.Lists.{every, times}
use Rattle.lists.proofs.Arrays.{take-used}
use Rattle.lists.proofs.Rows.{below_alike}
use Rattle.model.specs.State.{cache_bucket, caches, queued, once_in, each_once}
use Rattle.fifo.specs.View.{list_of}
use Rattle.queue.specs.View.{entries_of}
use Rattle.state.proofs.Queued.{queued-length}
use Rattle.state.specs.View.{places_of}
use Rattle.once.specs.Tally.{Tallied}
use Rattle.once.proofs.Counted.{tally_none, tally_both, tally_few, once_alone}
use Rattle.once.proofs.buckets_once.Goals as goal

pub returns-then-reads-writes : goal.returns-then-reads-writes
unfolding each_once every
returns-then-reads-writes c =
    let places = places_of c.args.s in
    let end = c.body-end in
    rw (← end.ensures, ne_eqb (length (queued places)) end.result (λ h. c.if-reads-writes.true (omega (arith, queued-length places))))

pub tally-requires-clause-counts_bound : goal.tally-requires-clause-counts_bound
tally-requires-clause-counts_bound c = tally_few _ (replicate 256 0) (tally_none (replicate 256 0) (length-replicate {A = ℕ} 256 0)) (omega arith)

pub tally-requires-2-clause-counts_bound : goal.tally-requires-2-clause-counts_bound
unfolding caches cache_bucket
tally-requires-2-clause-counts_bound c =
    let s = c.args.s in
    let reads : Tallied (replicate 256 0) (caches (entries_of s.reads)) c.tally.new.counts =
    rw (take-used c.used-reads.result s.reads.len s.reads.items c.used-reads.ensures.0) at (c.tally.ensures cache_bucket (λ x k p. search rules)) in
    tally_few (caches (entries_of s.reads)) c.tally.new.counts reads (rw (length-map (entries_of s.reads) cache_bucket) (omega arith))

pub tally-requires-3-clause-counts_bound : goal.tally-requires-3-clause-counts_bound
unfolding caches cache_bucket
tally-requires-3-clause-counts_bound c =
    let s = c.args.s in
    let reads : Tallied (replicate 256 0) (caches (entries_of s.reads)) c.tally.new.counts =
    rw (take-used c.used-reads.result s.reads.len s.reads.items c.used-reads.ensures.0) at (c.tally.ensures cache_bucket (λ x k p. search rules)) in
    let writes : Tallied c.tally.new.counts (caches (entries_of s.writes)) c.tally-2.new.counts =
    rw (take-used c.used-writes.result s.writes.len s.writes.items c.used-writes.ensures.0) at (c.tally-2.ensures cache_bucket (λ x k p. search rules)) in
    let first = caches (entries_of s.reads) in
    let second = caches (entries_of s.writes) in
    tally_few (first ++ second) c.tally-2.new.counts (tally_both (replicate 256 0) first c.tally.new.counts second c.tally-2.new.counts reads writes)
    (rw (length-append first second, length-map (entries_of s.reads) cache_bucket, length-map (entries_of s.writes) cache_bucket) (omega arith))

pub tally-requires-4-clause-counts_bound : goal.tally-requires-4-clause-counts_bound
unfolding caches cache_bucket
tally-requires-4-clause-counts_bound c =
    let s = c.args.s in
    let reads : Tallied (replicate 256 0) (caches (entries_of s.reads)) c.tally.new.counts =
    rw (take-used c.used-reads.result s.reads.len s.reads.items c.used-reads.ensures.0) at (c.tally.ensures cache_bucket (λ x k p. search rules)) in
    let writes : Tallied c.tally.new.counts (caches (entries_of s.writes)) c.tally-2.new.counts =
    rw (take-used c.used-writes.result s.writes.len s.writes.items c.used-writes.ensures.0) at (c.tally-2.ensures cache_bucket (λ x k p. search rules)) in
    let gc : Tallied c.tally-2.new.counts (list_of s.gc) c.tally-3.new.counts =
    rw (map-id (take c.used-gc.result s.gc.items), take-used c.used-gc.result s.gc.len s.gc.items c.used-gc.ensures.0) at (c.tally-3.ensures (λ k. k) (λ x k p. search rules)) in
    let first = caches (entries_of s.reads) in
    let second = caches (entries_of s.writes) in
    let third = list_of s.gc in
    let two = tally_both c.tally.new.counts second c.tally-2.new.counts third c.tally-3.new.counts writes gc in
    tally_few (first ++ (second ++ third)) c.tally-3.new.counts (tally_both (replicate 256 0) first c.tally.new.counts (second ++ third) c.tally-3.new.counts reads two)
    (rw (length-append first (second ++ third), length-append second third, length-map (entries_of s.reads) cache_bucket, length-map (entries_of s.writes) cache_bucket) (omega arith))

pub returns : goal.returns
unfolding queued once_in caches cache_bucket
returns c =
    let s = c.args.s in
    let end = c.body-end in
    let reads : Tallied (replicate 256 0) (caches (entries_of s.reads)) c.tally.new.counts =
    rw (take-used c.used-reads.result s.reads.len s.reads.items c.used-reads.ensures.0) at (c.tally.ensures cache_bucket (λ x k p. search rules)) in
    let writes : Tallied c.tally.new.counts (caches (entries_of s.writes)) c.tally-2.new.counts =
    rw (take-used c.used-writes.result s.writes.len s.writes.items c.used-writes.ensures.0) at (c.tally-2.ensures cache_bucket (λ x k p. search rules)) in
    let gc : Tallied c.tally-2.new.counts (list_of s.gc) c.tally-3.new.counts =
    rw (map-id (take c.used-gc.result s.gc.items), take-used c.used-gc.result s.gc.len s.gc.items c.used-gc.ensures.0) at (c.tally-3.ensures (λ k. k) (λ x k p. search rules)) in
    let free : Tallied c.tally-3.new.counts (list_of s.free) c.tally-4.new.counts =
    rw (map-id (take c.used-free.result s.free.items), take-used c.used-free.result s.free.len s.free.items c.used-free.ensures.0) at (c.tally-4.ensures (λ k. k) (λ x k p. search rules)) in
    let first = caches (entries_of s.reads) in
    let second = caches (entries_of s.writes) in
    let third = list_of s.gc in
    let fourth = list_of s.free in
    let counts = c.tally-4.new.counts in
    let list = queued (places_of s) in
    let two = tally_both c.tally-2.new.counts third c.tally-3.new.counts fourth counts gc free in
    let three = tally_both c.tally.new.counts second c.tally-2.new.counts (third ++ fourth) counts writes two in
    let all = tally_both (replicate 256 0) first c.tally.new.counts (second ++ (third ++ fourth)) counts reads three in
    let n : length list ≡ end.result = omega (arith, queued-length (places_of s)) in
    let counted : (x : ℕ) → x < end.result → eqb (get_or counts x 0) 1 ≡ once_in list x =
    λ x h. ap (λ (m : ℕ). eqb m 1) (let k : get_or counts x 0 ≡ times x list = omega (arith, all.1 x (omega (arith, c.requires)), get_or-replicate {A = ℕ} 256 x 0 0 (omega (arith, c.requires))) in k) in
    rw (← end.ensures) (c.all_once.ensures
    ∙ (below_alike end.result (λ x. eqb (get_or counts x 0) 1) (once_in list) counted
    ∙ sym (once_alone end.result list n)))
