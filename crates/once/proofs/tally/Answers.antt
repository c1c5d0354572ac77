use Prim.Native.Nat.{◌+◌}
use mathlib.Core.List.{[], ◌∷◌, ◌++◌, map}
use mathlib.Core.Path.{◌≡◌, sym, ap, ◌∙◌}
use native.Mathlib.Omega.{arith}
use lib.ListN.{take, get_or, length-set}
use lib.Seq.{take_all}
use Rattle.lists.proofs.Arrays.{done_more}
use Rattle.lists.proofs.Rows.{map_append}
use Rattle.once.proofs.Counted.{tally_none, low_more, tally_step}
use Rattle.once.proofs.tally.Goals as goal

pub loop-item-init : goal.loop-item-init
loop-item-init g c = record {
  places = c.told-counts;
  low = c.requires.counts_bound.1;
  told = λ h post. tally_none c.args.counts.now c.told-counts;
}

pub overflow_add-counts : goal.overflow_add-counts
overflow_add-counts g c = omega (arith, c.loop-item.invariant.low c.bucket.result c.bucket.type_inv, c.requires.items_bound)

pub loop-item-preserved : goal.loop-item-preserved
loop-item-preserved g c =
    let items = c.args.items.now in
    let l = c.loop-item in
    let i = l.item-index in
    let now = l.invariant in
    let y = c.bucket.result in
    record {
      places = length-set l.counts y (get_or l.counts y 0 + 1) ∙ now.places;
      low = λ x h. omega (arith, low_more l.counts y (1024 + i) c.bucket.type_inv now.places now.low x h);
      told = λ h post.
          let own = ap h (sym c.item-item.is) ∙ sym (post c.item-item.result y c.bucket.ensures) in
          let more : map h (take (i + 1) items) ≡ map h (take i items) ++ (y ∷ []) =
          ap (map h) (done_more i items c.item-item.result c.loop-item-test.true)
          ∙ map_append h (take i items) (get_or items i c.item-item.result ∷ [])
          ∙ ap (λ k. map h (take i items) ++ (k ∷ [])) own in
          rw more (tally_step c.args.counts.now (map h (take i items)) l.counts y c.bucket.type_inv (now.told h post));
    }

pub returns : goal.returns
returns g c = λ h post.
    rw (take_all c.loop-item.item-index c.args.items.now c.loop-item-test.false) at (c.loop-item.invariant.told h post)
