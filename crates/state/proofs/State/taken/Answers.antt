use Prim.Native.Nat.{◌+◌, ◌≤◌}
use borrow.Author.Rules.{rules}
use Rattle.model.specs.State.{moved}
use Rattle.model.specs.Steps.{taken}
use Rattle.state.proofs.State.taken.Goals as goal

pub overflow_add-self : goal.overflow_add-self
unfolding taken moved
overflow_add-self c = let h : c.args.self.next + 1 ≤ 18446744073709551615 = c.requires.next in search rules

pub returns : goal.returns
unfolding taken moved
returns c = rw c.rest-free.ensures
