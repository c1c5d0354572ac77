use Rattle.model.proofs.Limits.{on_chip}
use Rattle.model.specs.Image.{page_blank}
use Rattle.model.specs.Recover.{is_free}
use Rattle.image.specs.Chip.{spare_only}
use Rattle.image.proofs.First.{formed_bucket}
use Rattle.classes.proofs.is_a.Goals as goal

pub used-requires : goal.used-requires
used-requires c = record {
  chip = c.requires.chip;
  c_lt_c = on_chip c.args.z c.args.c c.requires.c_bound;
  c_value = formed_bucket c.args.z (spare_only c.args.spare.now) c.requires.spare_value c.args.c c.requires.c_bound;
}

pub is_free-requires : goal.is_free-requires
is_free-requires c = record {
  chip = c.requires.chip;
  c_lt_c = on_chip c.args.z c.args.c c.requires.c_bound;
  c_value = formed_bucket c.args.z (spare_only c.args.spare.now) c.requires.spare_value c.args.c c.requires.c_bound;
}

pub is_copy-requires : goal.is_copy-requires
is_copy-requires c = record {
  chip = c.requires.chip;
  c_lt_c = on_chip c.args.z c.args.c c.requires.c_bound;
  c_value = formed_bucket c.args.z (spare_only c.args.spare.now) c.requires.spare_value c.args.c c.requires.c_bound;
}

pub complete-requires : goal.complete-requires
complete-requires c = record {
  chip = c.requires.chip;
  c_lt_c = on_chip c.args.z c.args.c c.requires.c_bound;
  c_value = formed_bucket c.args.z (spare_only c.args.spare.now) c.requires.spare_value c.args.c c.requires.c_bound;
}

pub returns-in-Used : goal.returns-in-Used
returns-in-Used c = rw (c.in-Used.is, c.used.ensures)

pub returns-in-Free : goal.returns-in-Free
unfolding is_free page_blank
returns-in-Free c = rw (c.in-Free.is, c.is_free.ensures)

pub returns-in-Spent : goal.returns-in-Spent
returns-in-Spent c = rw (c.in-Spent.is, c.is_spent.ensures)

pub returns-in-Write : goal.returns-in-Write
returns-in-Write c = rw (c.in-Write.is, c.is_write.ensures)

pub returns-in-Copy : goal.returns-in-Copy
returns-in-Copy c = rw (c.in-Copy.is, c.is_copy.ensures)

pub returns-in-Complete : goal.returns-in-Complete
returns-in-Complete c = rw (c.in-Complete.is, c.complete.ensures)
