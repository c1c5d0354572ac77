-- `rewrite::rewrite_text` meets its contract.
use mathlib.Core.Path.{sym, ◌∙◌}
use mathlib.Core.List.{[]}
use Prim.Native.Nat.{◌+◌, ◌-◌}
use native.Mathlib.Omega.{arith}
use lib.ListN.{take}
use lib.Seq.{length-take-le}
use Rattle.lists.specs.Lists.{part}
use Rattle.model.specs.Sizes.{flash_size, spare_size, bucket_size}
use Rattle.model.specs.Tests.{number_of}
use Rattle.model.proofs.Refusals.{refused_lem}
use Rattle.model.specs.Driving.{bytes_of, shown}
use Rattle.model.proofs.Limits.{limits_of}
use Rattle.geometry.proofs.Passed.{products}
use Rattle.rewrite.proofs.Output.{printed, few_lines, fault_shown, text_shown}
use Rattle.rewrite.proofs.rewrite_text.Goals as goal

pub first_fault-requires : goal.first_fault-requires
first_fault-requires c = limits_of _ c.requires.z_value.0

pub overflow_add-fault : goal.overflow_add-fault
unfolding part
overflow_add-fault c =
    let a = c.args in
    let given = part a.text.now a.from (a.end - a.from) in
    omega (arith, c.in-Err.ensures.1, few_lines a.z given (limits_of _ c.requires.z_value.0))

pub show-requires : goal.show-requires
unfolding part
show-requires c =
    let a = c.args in
    let given = part a.text.now a.from (a.end - a.from) in record {
      stores_bound = omega (arith, c.in-Err.ensures.1, few_lines a.z given (limits_of _ c.requires.z_value.0));
      bytes_in_bounds = omega (arith, c.requires.text_len.0);
    }

pub returns-in-Err : goal.returns-in-Err
unfolding part
returns-in-Err c =
    let a = c.args in
    let l = a.text.now in
    let given = part l a.from (a.end - a.from) in
    let fault = c.in-Err.fault in
    let show = c.show in
    let p = printed (shown c.number.result (fault.before + 2) []) l show.new.out show.result show.ensures.0 show.ensures.1 in
    let faulty = fault_shown a.z given (bytes_of (take 18 l)) (number_of fault.refusal) fault.before c.in-Err.ensures.0 c.in-Err.ensures.1 (refused_lem fault.refusal) in
    (p.0, p.1 ∙ rw c.number.ensures faulty)

pub overflow_mul-data : goal.overflow_mul-data
overflow_mul-data c = omega (arith, (products (limits_of _ c.requires.z_value.0)).bucket)

pub overflow_mul-data-2 : goal.overflow_mul-data-2
overflow_mul-data-2 c = omega (arith, (products (limits_of _ c.requires.z_value.0)).flash)

pub overflow_mul-tags : goal.overflow_mul-tags
overflow_mul-tags c = omega (arith, (products (limits_of _ c.requires.z_value.0)).pages)

pub overflow_mul-tags-2 : goal.overflow_mul-tags-2
overflow_mul-tags-2 c = omega (arith, (products (limits_of _ c.requires.z_value.0)).pages)

pub slice_bounds-write_again-end : goal.slice_bounds-write_again-end
unfolding flash_size bucket_size
slice_bounds-write_again-end c = omega (arith, c.requires.z_value.1, c.requires.z_value.2)

pub slice_bounds-write_again-end-2 : goal.slice_bounds-write_again-end-2
unfolding flash_size bucket_size
slice_bounds-write_again-end-2 c = sym (length-take-le _ _ (omega (arith, c.requires.z_value.1, c.requires.z_value.2)))

pub slice_bounds-write_again-end-3 : goal.slice_bounds-write_again-end-3
slice_bounds-write_again-end-3 c =
    omega (arith, (products (limits_of _ c.requires.z_value.0)).pages, c.requires.z_value.3)

pub slice_bounds-write_again-end-4 : goal.slice_bounds-write_again-end-4
slice_bounds-write_again-end-4 c =
    sym (length-take-le _ _ (omega (arith, (products (limits_of _ c.requires.z_value.0)).pages, c.requires.z_value.3)))

pub write_again-requires : goal.write_again-requires
unfolding flash_size bucket_size spare_size part
write_again-requires c =
    let p = c.requires.z_value in record {
      z_value = (
        p.0,
        p.1,
        length-take-le _ _ (omega (arith, p.1, p.2)),
        length-take-le _ _ (omega (arith, (products (limits_of _ p.0)).pages, p.3)),
      );
      text_len = c.requires.text_len;
      from_value = sym c.in_default.ensures.0;
    }

pub returns : goal.returns
unfolding part
returns c =
    let a = c.args in
    let l = a.text.now in
    let e = c.write_again.ensures in
    let none = sym c.in_default.ensures.0 in
    (e.0, e.1 ∙ text_shown a.z (part l a.from (a.end - a.from)) (bytes_of (take 18 l)) none)
