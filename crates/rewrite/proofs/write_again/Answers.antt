-- `rewrite::write_again` meets its contract.
use mathlib.Core.Path.{◌≡◌, refl, ap, ◌∙◌}
use mathlib.Core.List.{List, [], ◌∷◌, ◌++◌, append_assoc}
use Prim.Native.Nat.{ℕ, ◌-◌, ◌≤◌}
use native.Mathlib.Omega.{arith}
use lib.ListN.{length, take}
use Rattle.lists.specs.Lists.{part}
use Rattle.model.specs.Sizes.{Device, flash_size, spare_size}
use Rattle.model.specs.Driving.{bytes_of, digits_of}
use Rattle.model.specs.Mail.{text_of, image_of}
use Rattle.geometry.specs.Geometry.{device}
use Rattle.rewrite.specs.Rewrite.{no_chip}
use Rattle.rewrite.proofs.First.{nine}
use Rattle.rewrite.proofs.Again.{line_taken, image_read, length_put, put_fits, put_text}
use Rattle.rewrite.proofs.write_again.Goals as goal

pub overflow_add-result : goal.overflow_add-result
overflow_add-result c =
    let p = c.requires in
    let z = c.args.z in
    let d = device c.read_text.new.flash c.read_text.new.spare [] in
    let flash_is : length d.flash ≡ flash_size z = omega (arith, p.z_value.2) in
    let spare_is : length d.spare ≡ spare_size z = omega (arith, p.z_value.3) in
    let buffer = c.put_sizes.new.text in
    let buffer_is : length buffer ≡ 2738234 = omega (arith, p.text_len.0) in
    let w = c.write_text-written in
    omega (arith, put_fits z p.z_value.0 d flash_is spare_is p.z_value.1 buffer w.new.text (omega (arith, buffer_is)) w.result w.ensures, buffer_is)

pub returns : goal.returns
unfolding part
returns c =
    let p = c.requires in
    let a = c.args in
    let z = a.z in
    let d = device c.read_text.new.flash c.read_text.new.spare [] in
    let flash_is : length d.flash ≡ flash_size z = omega (arith, p.z_value.2) in
    let spare_is : length d.spare ≡ spare_size z = omega (arith, p.z_value.3) in
    let buffer = c.put_sizes.new.text in
    let buffer_is : length buffer ≡ 2738234 = omega (arith, p.text_len.0) in
    let room : 2736147 ≤ length buffer = omega (arith, buffer_is) in
    let w = c.write_text-written in
    let after = w.new.text in
    let fits = put_fits z p.z_value.0 d flash_is spare_is p.z_value.1 buffer after room w.result w.ensures in
    let l = a.text.now in
    let given = part l a.from (a.end - a.from) in
    let sizes = bytes_of (take 18 l) in
    let line : take 19 buffer ≡ digits_of sizes ++ (10 ∷ []) =
    ap (take 19) c.put_sizes.ensures ∙ line_taken l sizes (nine l (omega (arith, p.text_len.0))) in
    let image : d ≡ image_of z no_chip given =
    image_read z p.z_value.0 (device a.flash.now a.spare.now []) p.z_value.2 p.z_value.3 given d.flash d.spare c.read_text.result refl p.from_value c.read_text.ensures in (
      omega (arith, fits, length_put z p.z_value.0 d flash_is spare_is p.z_value.1 buffer after room w.result w.ensures),
      put_text z p.z_value.0 d flash_is spare_is p.z_value.1 buffer after room w.result w.ensures
          ∙ ap (λ (t : List ℕ). t ++ text_of z d) line
          ∙ append_assoc (digits_of sizes) (10 ∷ []) (text_of z d)
          ∙ ap (λ (e : Device). digits_of sizes ++ (10 ∷ text_of z e)) image,
    )
