-- The code's stores as the stores of the definitions.
use Rattle.std.specs.Prelude.{ℕ, ◌*◌, ◌<◌, ◌≡◌, List, length}
use Rattle.model.specs.declared.Sizes.{Sizes}
use Rattle.model.specs.Sizes.{bucket_size, page_index}
use Rattle.model.specs.Stores as model
use Rattle.model.specs.Stores.{program, erase, unit}
use Rattle.device.specs.declared.Store.{Store}
use Rattle.device.specs.declared.Store.TheVariants.{Program, Erase, Unit}

-- the store that is made with such data and spare bytes
abbrev pub made : Store → (bytes tag : List ℕ) → model.Store
made (Program bucket page) bytes tag = program bucket page bytes tag
made (Erase bucket) bytes tag = erase bucket
made (Unit index) bytes tag = unit index bytes

-- a store names a place of chip or disk, with the bytes that fill it
abbrev pub Placed : Sizes → model.Store → Type 0
Placed z (program bucket page bytes tag) = (bucket < z.c) × (page < z.p) × (length bytes ≡ z.s)
Placed z (erase bucket) = bucket < z.c
Placed z (unit index bytes) = (index < z.b * z.p) × (length bytes ≡ z.s)

-- where its bytes begin: those of a page or of a bucket in the flash, those of a unit on the disk
abbrev pub begins_at : Sizes → Store → ℕ
begins_at z (Program bucket page) = page_index z bucket page * z.s
begins_at z (Erase bucket) = bucket * bucket_size z
begins_at z (Unit index) = index * z.s

-- the place that it names is there
abbrev pub Names : Sizes → Store → Type 0
Names z (Program bucket page) = (bucket < z.c) × (page < z.p)
Names z (Erase bucket) = bucket < z.c
Names z (Unit index) = index < z.b * z.p
