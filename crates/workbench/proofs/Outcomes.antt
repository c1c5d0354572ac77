-- Bounds of what a call and a page look hand back.
use Prim.Native.Nat.{ℕ, ◌*◌, ◌≤◌}
use mathlib.Core.Path.{◌≡◌, ap}
use mathlib.Core.Bool.{Bool, true, false}
use mathlib.Core.List.{List, []}
use native.Mathlib.Omega.{arith}
use lib.ListN.{length, drop, length-take, length-drop}
use lib.Dec.{eqb}
use Rattle.std.specs.Prelude.{if◌then◌else◌}
use Rattle.lists.specs.Lists.{part}
use Rattle.model.specs.declared.Sizes.{Sizes}
use Rattle.model.specs.Sizes.{Device, page_index}
use Rattle.model.specs.Tests.{first_failed}
use Rattle.model.specs.Calls.{Call, call, look_tests, look_bytes}
use Rattle.state.specs.declared.State.{State}
use Rattle.state.specs.View.{view_of}
use Rattle.outcome.specs.Handed.{Handed, handed}
use Rattle.calls.specs.Arrays.{seen}
use Rattle.drive.proofs.Bounds.{stores_within}

pub stores_few : (n : ℕ) (k : Call) (s : State) (d : Device) (h : Handed) → seen h ≡ seen (handed s (call n k (view_of s) d)) → h.outcome.stores ≤ n
unfolding seen handed
stores_few n k s d h e = omega (arith, ap (λ (g : Handed). g.outcome.stores) e, stores_within n k (view_of s) d)

part_short : (l : List ℕ) (i n : ℕ) → length (part l i n) ≤ length l
unfolding part
part_short l i n = omega (arith, length-take n (drop i l), length-drop i l)

pub look_short : (z : Sizes) (flash : List ℕ) (c k : ℕ) → length (look_bytes z flash c k) ≤ length flash
unfolding look_bytes
look_short z flash c k = go (eqb (first_failed (look_tests z flash c k)) 0)
  where
    go : (t : Bool) → length (if t then part flash (page_index z c k * z.s) z.s else []) ≤ length flash
    go true = part_short flash (page_index z c k * z.s) z.s
    go false = omega arith
