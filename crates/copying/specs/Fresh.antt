-- Logs in a bucket just allocated: when one can be made, and its stores.
use Rattle.std.specs.Prelude.{ℕ, ◌≤◌, ◌<◌, not, ◌&&◌, List, [], ◌++◌, length, if◌then◌else◌}
use Rattle.lists.specs.Lists.{head, empty, times}
use Rattle.model.specs.declared.Sizes.{Sizes}
use Rattle.model.specs.Sizes.{Device, bucket_size, body}
use Rattle.model.specs.Stores.{Store}
use Rattle.model.specs.State.{State, without, queued}
use Rattle.model.specs.Steps.{log_stores, noted_erase}
use Rattle.model.proofs.Limits.{Limits}
use Rattle.steps.specs.Ready.{Ready}
use Rattle.copying.specs.declared.Room.{Room}

-- the room that an allocation finds, and the epoch that it gets
unfoldable pub room_of : State → Room
room_of s = record {
  erase = empty s.free && not (empty s.gc);
  bucket = if empty s.free then head s.gc else head s.free;
  epoch = s.next;
}

-- on the chip d
unfoldable pub erases : Sizes → Device → Room → List Store
erases z d room = if room.erase then noted_erase z d room.bucket else []

-- the room, once it is blank, and the log in it
unfoldable pub fresh_stores : Sizes → Device → Room → (kind b off : ℕ) → List ℕ → List Store
fresh_stores z d room k b off bytes = erases z d room ++ log_stores z room.bucket 0 k room.epoch b off bytes

-- a log of n bytes goes into a bucket that may stand in queues
pub record Takes (z : Sizes) (room : Room) (n : ℕ) : Type 0 where
  pub limits : Limits z
  pub bucket : room.bucket < body z
  pub some : 1 ≤ n
  pub most : n ≤ bucket_size z

-- n bytes have room in a bucket, and the next epoch is one that spare bytes can say
pub record Fresh (s : State) (n : ℕ) : Type 0 where
  pub ready : Ready s
  pub epoch : s.next ≤ 4294967295
  pub some : 1 ≤ n
  pub room : n ≤ bucket_size s.sizes

-- the read queue has a place for a copy of the back-end bucket b
pub record Copies (s : State) (b : ℕ) : Type 0 where
  pub ready : Ready s
  pub place : length (without b s.reads) < 64
  pub epoch : s.next ≤ 4294967295

-- no cache bucket stands twice in the queues: the room is no bucket that the bytes of a copy come from
abbrev pub Single : State → Type 0
Single s = (c : ℕ) → times c (queued s) ≤ 1
