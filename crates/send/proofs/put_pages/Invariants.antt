use mathlib.Core.List.{[]}
use mathlib.Core.Path.{◌≡◌}
use lib.ListN.{length}
use Rattle.lists.specs.Lists.{splice}
use Rattle.geometry.specs.Geometry.{device}
use Rattle.send.proofs.Lengths.{lines_below}
use Rattle.send.proofs.put_pages.Given as goal

abbrev pub invariant-loop-page : goal.invariant-loop-page
invariant-loop-page l =
    (l.at ≡ length (lines_below l.z (device l.flash l.spare []) l.page)) × (l.text ≡ splice l.initial.text 0 (lines_below l.z (device l.flash l.spare []) l.page))
