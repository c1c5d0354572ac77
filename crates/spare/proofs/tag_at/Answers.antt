use Rattle.lists.proofs.Lent.{lent_part, lent_length}
use Rattle.spare.proofs.tag_at.Goals as goal

pub returns : goal.returns
returns c =
    let a = c.args in
    record { size = lent_length a.spare.now _ 16 c.requires; bytes = lent_part a.spare.now _ 16 }
