use Rattle.std.proofs.Common.{add-sub_cancel}
use Rattle.spare.specs.Fields.{tag}
use Rattle.model.specs.Spare.{tag_bytes}
use Rattle.spare.proofs.encode.Goals as goal

pub returns : goal.returns
unfolding tag tag_bytes
returns c = rw (c.to_be_bytes.ensures, c.to_be_bytes-2.ensures, c.to_be_bytes-3.ensures, c.to_be_bytes-4.ensures, add-sub_cancel c.args.f.last 1)
