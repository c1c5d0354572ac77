use Rattle.rules.specs.Pages.{log_fits}
use Rattle.spare.specs.Fields.{fields}
use Rattle.model.specs.Spare.{kind, write_kind}
use Rattle.lists.specs.Lists.{part}
use lib.Dec.{eqb}
use lib.Seq.{take_all}
use mathlib.Core.Bool.{Bool, ◌&&◌}
use mathlib.Core.Path.{◌≡◌, sym, ap, ◌∙◌}
use native.Mathlib.Omega.{arith}
use Rattle.rules.proofs.starts_write.Goals as goal

pub returns : goal.returns
unfolding fields kind part
returns c = let o = c in let z = o.args.z in let page = o.args.page.now in let f = c.fields_at-f.result in
    let whole : part page 0 16 ≡ page = take_all 16 page (omega (arith, o.requires.page_len)) in
    let e : fields page ≡ f = ap fields (sym whole) ∙ sym c.fields_at-f.ensures in
    ap (λ (t : Bool). t && eqb f.kind write_kind) (c.log_fits.ensures page e) ∙ ap (λ g. log_fits z page && eqb g.kind write_kind) (sym e)
