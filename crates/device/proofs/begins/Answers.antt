use Rattle.geometry.proofs.Places.{page_below, page_data_lem, bucket_data, unit_bytes}
use Rattle.geometry.proofs.Passed.{products}
use Rattle.model.specs.Sizes.{page_index, bucket_size, flash_size, disk_size}
use native.Mathlib.Omega.{arith}
use Rattle.device.proofs.begins.Goals as goal

pub overflow_mul-result : goal.overflow_mul-result
overflow_mul-result c = let start = c in let z = start.args.z in let placed = rw c.in-Program.is at start.requires.1 in
    omega (arith, page_below _ _ z.c z.p placed.0 placed.1, (products start.requires.0).pages)

pub overflow_add-result : goal.overflow_add-result
overflow_add-result c = let start = c in let z = start.args.z in let placed = rw c.in-Program.is at start.requires.1 in
    omega (arith, page_below _ _ z.c z.p placed.0 placed.1, (products start.requires.0).pages)

pub overflow_mul-result-in-Program : goal.overflow_mul-result-in-Program
unfolding flash_size bucket_size
overflow_mul-result-in-Program c = let start = c in let z = start.args.z in let placed = rw c.in-Program.is at start.requires.1 in
    omega (arith, page_data_lem z _ _ placed.0 placed.1, (products start.requires.0).flash)

pub overflow_mul-result-in-Erase : goal.overflow_mul-result-in-Erase
overflow_mul-result-in-Erase c = let start = c in omega (arith, (products start.requires.0).bucket)

pub overflow_mul-result-in-Erase-2 : goal.overflow_mul-result-in-Erase-2
unfolding flash_size bucket_size
overflow_mul-result-in-Erase-2 c = let start = c in let z = start.args.z in
    omega (arith, bucket_data z _ (rw c.in-Erase.is at start.requires.1), (products start.requires.0).flash)

pub overflow_mul-result-in-Unit : goal.overflow_mul-result-in-Unit
unfolding disk_size bucket_size
overflow_mul-result-in-Unit c = let start = c in let z = start.args.z in
    omega (arith, unit_bytes z _ (rw c.in-Unit.is at start.requires.1), (products start.requires.0).disk)

pub returns-in-Program : goal.returns-in-Program
unfolding page_index
returns-in-Program c = rw c.in-Program.is

pub returns-in-Erase : goal.returns-in-Erase
unfolding bucket_size
returns-in-Erase c = rw c.in-Erase.is

pub returns-in-Unit : goal.returns-in-Unit
returns-in-Unit c = rw c.in-Unit.is
