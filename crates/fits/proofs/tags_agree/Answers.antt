use Rattle.lists.proofs.Tests.{every_three}
use Rattle.lists.specs.Lists.{all}
use Rattle.model.specs.State.{read_agrees, write_agrees, all_blank}
use Rattle.image.specs.Chip.{spare_only}
use Rattle.fifo.specs.View.{list_of}
use Rattle.queue.specs.View.{entries_of}
use Rattle.state.proofs.Below.{queues_below}
use Rattle.state.specs.View.{places_of}
use Rattle.fits.specs.Fits.{tags_agree}
use Rattle.fits.proofs.tags_agree.Goals as goal

pub queue_agrees-reads-requires : goal.queue_agrees-reads-requires
queue_agrees-reads-requires c = record { chip = c.requires.chip; spare_value = c.requires.spare_value; queue_value = (queues_below (places_of c.args.s) c.requires.s_value).reads }

pub queue_agrees-writes-requires : goal.queue_agrees-writes-requires
queue_agrees-writes-requires c = record { chip = c.requires.chip; spare_value = c.requires.spare_value; queue_value = (queues_below (places_of c.args.s) c.requires.s_value).writes }

pub free_blank-free-requires : goal.free_blank-free-requires
free_blank-free-requires c = record { chip = c.requires.chip; spare_value = c.requires.spare_value; free_value = (queues_below (places_of c.args.s) c.requires.s_value).free }

pub returns : goal.returns
unfolding tags_agree
returns c = let s = c.args.s in
    let d = spare_only c.args.spare.now in
    rw (c.free_blank-free.ensures, c.queue_agrees-writes.ensures, c.queue_agrees-reads.ensures) (every_three (all (read_agrees s.sizes d) (entries_of s.reads)) (all (write_agrees s.sizes d) (entries_of s.writes)) (all (all_blank s.sizes d) (list_of s.free)))
