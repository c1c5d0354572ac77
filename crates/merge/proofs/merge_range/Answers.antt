use Rattle.lists.specs.Lists.{part}
use Rattle.image.proofs.First.{formed_bucket}
use Rattle.image.specs.Chip.{spare_only}
use Rattle.model.proofs.Limits.{on_chip}
use Rattle.model.specs.Image.{merge_to, merge, blanks}
use Rattle.overlay.proofs.Logs.{merged-used}
use Rattle.overlay.specs.Window.{chip}
use lib.ListN.{length}
use native.Mathlib.Omega.{arith}
use Prim.Native.Nat.{ℕ, ◌-◌}
use mathlib.Core.Path.{◌≡◌, ap, ◌∙◌}
use mathlib.Core.List.{List}
use Rattle.merge.proofs.merge_range.Goals as goal

pub pages_used-end-requires : goal.pages_used-end-requires
pages_used-end-requires c = let s = c in let p = s.requires in
    record { chip = record { limits = p.readable.limits; spare_length = p.readable.spare_length }; c_lt_c = on_chip s.args.z s.args.c p.c_bound; c_value = formed_bucket s.args.z (spare_only s.args.spare.now) p.readable.body_formed s.args.c p.c_bound }

pub loop-k-init : goal.loop-k-init
unfolding merge_to
loop-k-init c = λ base e shows. shows

pub lay_page-requires : goal.lay_page-requires
lay_page-requires c = let p = c.requires in record { readable = p.readable; c_bound = p.c_bound; k_lt_p = omega (arith, c.pages_used-end.ensures); window_bound = omega (arith, p.window_bound) }

pub loop-k-preserved : goal.loop-k-preserved
loop-k-preserved c = let l = c.loop-k in
    λ base e shows. rw l.auto.window at (c.lay_page.ensures base e (rw l.auto.window (l.invariant base e shows)))

pub returns : goal.returns
unfolding merge
returns c = λ base e shows.
    let l = c.loop-k in let s = c in
    let done : l.k ≡ s.args.z.p - blanks s.args.z (spare_only s.args.spare.now) s.args.c = omega (arith, c.pages_used-end.ensures) in
    l.invariant base e shows ∙ ap (λ (m : List ℕ). part m s.args.«from» (length s.args.window.now)) (ap (merge_to s.args.z (chip s.args.flash.now s.args.spare.now) s.args.c base) done ∙ merged-used s.requires.readable s.requires.c_bound base)
