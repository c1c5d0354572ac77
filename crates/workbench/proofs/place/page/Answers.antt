use Rattle.std.proofs.lemmas.Option.{IfSome_then}
use Rattle.workbench.proofs.Rooms.{page_room}
use Rattle.workbench.proofs.place.page.Goals as goal

pub returns : goal.returns
returns c = IfSome_then c.place_of.result c.place_of.ensures (page_room c.args.z c.requires)
