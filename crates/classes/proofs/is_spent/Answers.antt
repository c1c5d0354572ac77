use Rattle.model.proofs.Limits.{on_chip}
use Rattle.image.specs.Chip.{spare_only}
use Rattle.image.proofs.First.{formed_bucket}
use Rattle.model.specs.Image.{page_blank}
use Rattle.model.specs.Recover.{is_free, is_spent}
use mathlib.Core.Path.{sym, ◌∙◌}
use Rattle.classes.proofs.is_spent.Goals as goal

pub is_free-requires : goal.is_free-requires
is_free-requires c = record {
  chip = c.requires.chip;
  c_lt_c = on_chip c.args.z c.args.c c.requires.c_bound;
  c_value = formed_bucket c.args.z (spare_only c.args.spare.now) c.requires.spare_value c.args.c c.requires.c_bound;
}

pub returns-then-is_free : goal.returns-then-is_free
unfolding is_spent is_free page_blank
returns-then-is_free c = rw (sym c.is_free.ensures ∙ c.if-is_free.true)

pub used-requires : goal.used-requires
used-requires c = record {
  chip = c.requires.chip;
  c_lt_c = on_chip c.args.z c.args.c c.requires.c_bound;
  c_value = formed_bucket c.args.z (spare_only c.args.spare.now) c.requires.spare_value c.args.c c.requires.c_bound;
}

pub returns : goal.returns
unfolding is_spent is_free page_blank
returns c = rw (c.used.ensures, sym c.is_free.ensures ∙ c.if-is_free.false)
