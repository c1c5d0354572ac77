-- The store bounds are reached: driving lines whose last line makes as many stores as `FewStores` allows.
use mathlib.Core.Path.{◌≡◌, refl}
use Rattle.model.specs.Driving.{output}
use Rattle.model.proofs.Computed.{computed}
use Rattle.model.proofs.Table.{text}

-- S 4, C 5, R 1, W 1: three buckets outside the ledger
pub record Reached : Type 0 where
  -- an eviction and a log behind it, each after an erase step with a hand-over: at P 1, 2P + 2 + 4 = 8
  pub write_one_page : output (text "01FFFF000401000500010101\n02FFFF000000000001\n03FFFF00000000AA\n03FFFF00000000BB\n03FFFF00000000CC\n")
      ≡ text "000005\n00000100\n000001\n000004\n000008\n"
  -- one hand-over: at P 2, 2P + 2 + 3 = 9
  pub write-two-pages : output (text "01FFFF000402000500010101\n02FFFF000000000001\n03FFFF00000000AAAAAAAAAA\n03FFFF00000000BBBBBBBBBB\n03FFFF00000000CCCCCCCCCC\n")
      ≡ text "000005\n00000200\n000002\n000006\n000009\n"
  -- a Dirty bucket goes to the disk, then a copy after an erase step with a hand-over: at P 2, 2P + 1 + 2 = 7
  pub read-two-pages : output (text "01FFFF000402000500020101\n02FFFF000000000001\n03FFFF00000000AAAAAAAAAA\n03FFFF00000000BBBBBBBBBB\n02FFFF000000000001\n02FFFF000100000001\n")
      ≡ text "000005\n00000200\n000002\n000006\n000004BB\n00000700\n"
  -- a hand-over: 1 + 2 = 3
  pub erase_step_lem : output (text "01FFFF000401000500010101\n02FFFF000000000001\n03FFFF00000000AA\n03FFFF00000000BB\n04FFFF\n")
      ≡ text "000005\n00000100\n000001\n000004\n000003\n"

pub reached : Reached
unfolding computed text
reached = record { write_one_page = refl; write-two-pages = refl; read-two-pages = refl; erase_step_lem = refl }
