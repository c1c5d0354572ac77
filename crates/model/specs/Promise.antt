-- Demand 3: the list of calls, its plain disk, and what is promised of the list as a whole.
use Rattle.std.specs.Prelude.{ℕ, zero, suc, ◌+◌, ◌*◌, ◌≡◌, Bool, true, false, List, [], ◌∷◌, ◌++◌, length, take, drop, if◌then◌else◌}
use Rattle.lists.specs.Lists.{splice, part, ff}
use Rattle.model.specs.declared.Sizes.{Sizes}
use Rattle.model.specs.declared.Answer.{Answer}
use Rattle.model.specs.declared.Answer.TheVariants.{Done, Idle, Cut, Refused}
use Rattle.model.specs.Sizes.{Device, lengths, bucket_size}
use Rattle.model.specs.Stores.{Store, program, erase, unit, apply, page_bytes}
use Rattle.model.specs.State.{State}
use Rattle.model.specs.Calls.{Call, format_call, read_call, write_call, erase_call, drain_call, recover_call, Outcome, is_done, is_cut, plan_of, call}

-- ---- the list

-- what a call is lent: the whole chip and disk, or "only a part of chip or disk"
pub data Lent : Type 0 where
  whole : Lent
  other : Device → Lent

-- what a cut makes of the store that it stops: of an erase, the pages that are blank; of a program, whether the page is spoiled, and then its data
-- bytes and the spare bytes behind its state
pub record Tear : Type 0 where
  pub blanked : ℕ → Bool
  pub spoils : Bool
  pub data_bytes : List ℕ
  pub spare_bytes : List ℕ

-- one call of the list, with its allowance, and the tear if it is cut
pub record Item : Type 0 where
  pub allowance : ℕ
  pub request : Call
  pub lent : Lent
  pub tear : Tear

-- "Its calls are read, write, erase step, drain and recover, with any fields and allowances; recover has the sizes of that format."
unfoldable pub MayStand : Sizes → Call → Type 0
MayStand z (format_call y) = ⊥
MayStand z (read_call b off buffer) = Unit {0}
MayStand z (write_call b off bytes) = Unit {0}
MayStand z erase_call = Unit {0}
MayStand z drain_call = Unit {0}
MayStand z (recover_call y) = y ≡ z

-- a part has a length that is not its own
unfoldable pub MayBeLent : Sizes → Lent → Type 0
MayBeLent z whole = Unit {0}
MayBeLent z (other d) = lengths z d ≡ false

-- the buffers that a call gets, and the chip and disk that it leaves: those that it was not lent are not touched
unfoldable pub lent_of : Lent → Device → Device
lent_of whole d = d
lent_of (other part) d = part

unfoldable pub left_of : Lent → (before after : Device) → Device
left_of whole d e = e
left_of (other part) d e = d

-- ---- a store that stops halfway

-- "blank": data and spare bytes FF, as an erase sets them
unfoldable pub blank_page : Sizes → Device → (c k : ℕ) → Device
blank_page z d c k = apply z d (program c k (ff z.s) (ff 16))

-- "each page of that bucket may be as it was or blank": the first n pages
unfoldable pub half_erased : Sizes → (blanked : ℕ → Bool) → Device → (c n : ℕ) → Device
half_erased z t d c zero = d
half_erased z t d c (suc k) = if t k then blank_page z (half_erased z t d c k) c k else half_erased z t d c k

-- "that page may be spoiled, its other bytes anything": S data bytes, and 15 spare bytes behind the state
unfoldable pub spoiled_page : Sizes → Tear → Device → (c k : ℕ) → Device
spoiled_page z t d c k = apply z d (program c k (page_bytes z t.data_bytes 0) (0 ∷ take 15 (t.spare_bytes ++ ff 15)))

-- chip and disk with the first of these stores half done; a disk unit is written or not
unfoldable pub torn : Sizes → Tear → Device → List Store → Device
torn z t d [] = d
torn z t d (program c k bytes tag ∷ ss) = if t.spoils then spoiled_page z t d c k else d
torn z t d (erase c ∷ ss) = half_erased z t.blanked d c z.p
torn z t d (unit u bytes ∷ ss) = d

-- "where a Cut call's next store was an erase, each page of that bucket may be as it was or blank before the next call"; "where a Cut call's next
-- store was a program, that page may be spoiled"
unfoldable pub after_call : Sizes → Item → State → Device → Outcome → Device
after_call z x s d o = if is_cut o.answer then torn z x.tear o.device (drop o.stores (plan_of x.request s d).stores) else o.device

-- ---- the plain disk

-- where a byte of the back-end bucket b lies on the disk
unfoldable pub disk_place : Sizes → (b off : ℕ) → ℕ
disk_place z b off = b * bucket_size z + off

-- "fed each call's operation, fields, data and answer": "A write answered Done lays its data from byte b × P × S + offset on; all other bytes stay.
-- A write that is refused or answered Cut changes nothing." "Every other call, whatever its answer, changes nothing."
unfoldable pub feed : Sizes → Call → Answer → List ℕ → List ℕ
feed z (format_call y) a plain = plain
feed z (read_call b off buffer) a plain = plain
feed z (write_call b off bytes) a plain = if is_done a then splice plain (disk_place z b off) bytes else plain
feed z erase_call a plain = plain
feed z drain_call a plain = plain
feed z (recover_call y) a plain = plain

-- ---- what is promised of a call

unfoldable pub is_refused : Answer → Bool
is_refused Done = false
is_refused Idle = false
is_refused Cut = false
is_refused (Refused n) = true

-- "every read answered Done gives exactly the bytes that the plain disk has there by then"; "no recovery lent the whole chip and disk is ever refused,
-- whatever its allowance"
unfoldable pub Kept : Sizes → List ℕ → Call → Lent → Outcome → Type 0
Kept z plain (format_call y) l o = Unit {0}
Kept z plain (read_call b off buffer) l o = is_done o.answer ≡ true → o.buffer ≡ part plain (disk_place z b off) (length buffer)
Kept z plain (write_call b off bytes) l o = Unit {0}
Kept z plain erase_call l o = Unit {0}
Kept z plain drain_call l o = Unit {0}
Kept z plain (recover_call y) whole o = is_refused o.answer ≡ false
Kept z plain (recover_call y) (other part) o = Unit {0}

-- a call that was lent a part "gets number 2" and leaves the part as it was
unfoldable pub PartKept : Lent → Outcome → Type 0
PartKept whole o = Unit {0}
PartKept (other part) o = (o.answer ≡ Refused 2) × (o.device ≡ part)

-- ---- one walk over the list, for every claim about its calls

-- a claim about one call, given the plain disk before it
abbrev pub Claim : Type 1
Claim = Sizes → List ℕ → Call → Lent → Outcome → Type 0

-- `shows` is the state that a call sees in what it is given, `next` what it hands back for the next call: a State, or a struct that shows one
module _ {S : Type 0} (shows : S → State) (next : S → Outcome → S) (claim : Claim) where
  -- the list as a whole: each call is given the state, chip and disk that the last one left, and its cut
  unfoldable pub Throughout : Sizes → List Item → S → Device → List ℕ → Type 0
  Throughout z [] s d plain = Unit {0}
  Throughout z (x ∷ xs) s d plain =
      let o = call x.allowance x.request (shows s) (lent_of x.lent d) in
      MayStand z x.request → MayBeLent z x.lent
      → claim z plain x.request x.lent o
      × Throughout z xs (next s o) (left_of x.lent d (after_call z x (shows s) (lent_of x.lent d) o)) (feed z x.request o.answer plain)

  -- "The list starts from the state, chip and disk that a Done format left, whatever bytes the disk had."
  unfoldable pub Always : Type 0
  Always = (z : Sizes) (n : ℕ) (s : S) (d : Device) (xs : List Item)
      → let o = call n (format_call z) (shows s) d in
      o.answer ≡ Done → Throughout z xs (next s o) o.device d.disk

-- of the states that the definitions hand on
unfoldable pub AlwaysHolds : Claim → Type 0
AlwaysHolds claim = Always (λ (s : State). s) (λ (s : State) (o : Outcome). o.state) claim

-- ---- the promise

unfoldable pub Promised : Claim
Promised z plain k l o = Kept z plain k l o × PartKept l o

unfoldable pub NothingLost : Type 0
NothingLost = AlwaysHolds Promised
