use Rattle.std.proofs.lemmas.Option.{IfSome_then}
use Rattle.workbench.proofs.Rooms.{unit_room}
use Rattle.workbench.proofs.place.unit.Goals as goal

pub returns : goal.returns
returns c = IfSome_then c.place_of.result c.place_of.ensures (unit_room c.args.z c.requires)
