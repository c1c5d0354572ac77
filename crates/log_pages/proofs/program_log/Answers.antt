use Rattle.log_pages.proofs.Pages.{small}
use Rattle.meter.proofs.Runs.{run_more}
use Rattle.meter.proofs.Stays.{stays_here, stays_on}
use Rattle.meter.specs.Run.{run_all}
use Rattle.model.specs.Steps.{log_stores}
use Rattle.lists.specs.Lists.{row}
use Rattle.model.specs.Sizes.{pages_for}
use Rattle.std.proofs.Common.{refl, ◌≡◌, length, arith}
use Rattle.log_pages.proofs.program_log.Goals as goal

pub pages_for-pages-requires : goal.pages_for-pages-requires
pages_for-pages-requires c = (c.requires.fits.limits, (small c.requires.fits).bytes)

pub loop-o-init : goal.loop-o-init
unfolding run_all row
loop-o-init c = record { stays = stays_here _ _ c.requires.lent; made = refl }

pub program_page-requires : goal.program_page-requires
program_page-requires c =
    record { lent = c.loop-o.invariant.stays.lent; fits = (c.requires.fits, rw c.pages_for-pages.ensures at c.loop-o-test.true) }

pub loop-o-preserved : goal.loop-o-preserved
loop-o-preserved c = record {
  stays = stays_on _ _ _ _ c.loop-o.invariant.stays c.program_page.ensures.stays;
  made = rw (c.program_page.ensures.after, c.loop-o.invariant.made, run_more);
}

pub returns : goal.returns
unfolding log_stores
returns c =
    let all : c.loop-o.o ≡ pages_for c.args.z (length c.args.bytes.now) = omega (arith, c.pages_for-pages.ensures) in
    record { after = rw all at c.loop-o.invariant.made; stays = c.loop-o.invariant.stays }
