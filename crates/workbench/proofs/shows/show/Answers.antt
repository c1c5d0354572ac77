-- `workbench::shows::show` meets its contract.
use lib.ListN.{drop}
use Rattle.model.specs.Driving.{shown}
use Rattle.drive.proofs.Texts.{at_start_lem}
use Rattle.workbench.proofs.shows.show.Goals as goal

pub returns : goal.returns
returns c = let a = c.args in
    let show = c.show in
    (at_start_lem (shown a.answer 0 a.bytes.now) (drop show.result a.out.now) show.ensures).1
