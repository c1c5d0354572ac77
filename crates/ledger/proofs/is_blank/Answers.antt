use native.Mathlib.Omega.{arith}
use Rattle.ledger.proofs.Pages.{ledger_inside}
use Rattle.ledger.specs.Halves.{blank_there}
use Rattle.spare.specs.Fields.{blank_from}
use Rattle.model.specs.Sizes.{page_index}
use Rattle.model.specs.Stores.{tag_of}
use Rattle.model.specs.Ledger.{ledger_tag}
use Rattle.ledger.proofs.is_blank.Goals as goal

pub overflow_mul-body : goal.overflow_mul-body
overflow_mul-body c = rw c.body.ensures (omega (arith, ledger_inside c.requires))

pub are_blank-requires : goal.are_blank-requires
are_blank-requires c = rw c.body.ensures (omega (arith, ledger_inside c.requires))

pub returns : goal.returns
unfolding blank_there blank_from ledger_tag tag_of page_index
returns c = rw c.body.ensures at c.are_blank.ensures
