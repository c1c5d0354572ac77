use mathlib.Core.Path.{sym, ◌∙◌}
use Rattle.rescue.proofs.unwritten_back.Goals as goal

-- said here, so that a wrong bucket is refused by it, and not at a limit of the search
pub returns-then-is_dirty : goal.returns-then-is_dirty
returns-then-is_dirty c = rw (sym c.is_dirty.ensures ∙ c.if-is_dirty.true)
