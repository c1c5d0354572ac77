-- The table of document 01, K1 to K9, computed from the definitions that the engine's contracts cite.
use Prim.Native.Nat.{ℕ}
use Prim.Native.Char.{code}
use Prim.Native.String.{String}
use mathlib.Core.Path.{◌≡◌, refl}
use mathlib.Core.List.{List, [], ◌∷◌, ◌++◌}
use lib.ListN.{replicate}
use Rattle.lists.specs.Lists.{ff}
use Rattle.model.specs.declared.Sizes.{Sizes}
use Rattle.model.specs.declared.Entry.{Entry}
use Rattle.model.specs.Sizes.{Device, pages_for}
use Rattle.model.specs.Spare.{write_kind, tag_bytes}
use Rattle.model.specs.Image.{merge}
use Rattle.model.specs.State.{entry, with_priority}
use Rattle.model.specs.Operations.{halved, victim}
use Rattle.model.specs.Tests.{first_failed}
use Rattle.model.specs.Calls.{place_tests}
use Rattle.model.specs.Driving.{output}
use Rattle.model.proofs.Computed.{computed}

-- the character codes of a text
unfoldable pub text : String → List ℕ
text Prim.Native.String.[] = []
text (Prim.Native.String.◌∷◌ c cs) = code c ∷ text cs

-- S 4, P 4
abbrev pub small : Sizes
small = record { s = 4; p = 4; c = 5; b = 1; r = 1; w = 1 }

-- S 4, P 2: a Write bucket whose first page is the log (1, 4, 1111)
abbrev pub pair : Sizes
pair = record { s = 4; p = 2; c = 1; b = 1; r = 1; w = 1 }

unfoldable pub one_log : Device
one_log = record {
  flash = 1 ∷ 1 ∷ 1 ∷ 1 ∷ ff 4;
  spare = tag_bytes write_kind 0 1 1 0 1 4 ++ ff 16;
  disk = replicate 8 0;
}

-- two Write buckets, of back-end bucket 0 with epoch 1 and of 1 with epoch 2
abbrev pub two-buckets : Sizes
two-buckets = record { s = 4; p = 1; c = 2; b = 2; r = 1; w = 2 }

unfoldable pub two_logs : Device
two_logs = record {
  flash = ff 8;
  spare = tag_bytes write_kind 0 1 1 0 0 4 ++ tag_bytes write_kind 0 1 2 1 0 4;
  disk = replicate 8 0;
}

-- a write queue of both, with these priorities
abbrev pub queuing : ℕ → ℕ → List Entry
queuing p q = entry 0 0 p ∷ entry 1 1 q ∷ []

pub record Table : Type 0 where
  pub K1 : output (text "01FFFF000402000800020101\n02FFFF000000000001\n02FFFF000100000001\n03FFFF00000000AA\n03FFFF00010000CC\n03FFFF00000001BB\n06FFFF\n02FFFF000000000002\n")
      ≡ text "000008\n00000200\n00000200\n000001\n000003\n000003\n000004\n000006AABB\n"
  pub K2 : first_failed (place_tests small 0 15 1) ≡ 0
  pub K3 : first_failed (place_tests small 0 15 2) ≡ 7
  pub K4 : first_failed (place_tests small 0 16 1) ≡ 7
  pub K5 : pages_for small 5 ≡ 2
  pub K6 : pages_for small 4 ≡ 1
  pub K7 : halved (entry 0 0 5) ≡ with_priority 2 (entry 0 0 5)
  pub K8 : halved (entry 0 0 1) ≡ with_priority 0 (entry 0 0 1)
  pub K9 : merge pair one_log 0 (replicate 8 0) ≡ 0 ∷ 1 ∷ 1 ∷ 1 ∷ 1 ∷ 0 ∷ 0 ∷ 0 ∷ []
  pub K9_repeated : merge pair one_log 0 (merge pair one_log 0 (replicate 8 0)) ≡ 0 ∷ 1 ∷ 1 ∷ 1 ∷ 1 ∷ 0 ∷ 0 ∷ 0 ∷ []
  -- "the smallest priority, then smallest epoch"
  pub by_priority : victim two-buckets two_logs (queuing 2 1) ≡ 1
  pub then_by_epoch : victim two-buckets two_logs (queuing 1 1) ≡ 0

pub table : Table
unfolding computed text one_log two_logs
table = record { K1 = refl; K2 = refl; K3 = refl; K4 = refl; K5 = refl; K6 = refl; K7 = refl; K8 = refl; K9 = refl; by_priority = refl; then_by_epoch = refl; K9_repeated = refl }
