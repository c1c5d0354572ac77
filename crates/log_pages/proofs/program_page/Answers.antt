use native.Mathlib.Omega.{arith}
use Rattle.std.proofs.Common.{ℕ, ap, ◌≡◌, ◌*◌, take, drop, length, ◌-◌, List, ◌++◌, replicate}
use Rattle.std.proofs.lemmas.List.{take_rest}
use Rattle.lists.specs.Lists.{part}
use Rattle.model.specs.Steps.{log_store}
use Rattle.log_pages.proofs.Pages.{page_begins, page_whole, page_laid}
use Rattle.meter.specs.Run.{step}
use Rattle.meter.specs.Lent.{run_of}
use Rattle.log_pages.specs.Logs.{store_of}
use Rattle.log_pages.proofs.program_page.Goals as goal

pub slice_bounds-rest-count : goal.slice_bounds-rest-count
slice_bounds-rest-count c = omega (arith, page_begins c.requires.fits.0 c.args.o c.requires.fits.1)

pub slice_bounds-rest-start : goal.slice_bounds-rest-start
slice_bounds-rest-start c = omega (arith, page_begins c.requires.fits.0 c.args.o c.requires.fits.1)

pub returns-then-z-rest-clause-after : goal.returns-then-z-rest-clause-after
unfolding part log_store
returns-then-z-rest-clause-after c =
    let a = c.args in
    rw (c.program_lent.ensures.after, take_rest a.bytes.now (a.o * a.z.s), page_whole a.z a.bytes.now a.o (omega (arith, c.if-z-rest.true)))

pub returns-clause-after : goal.returns-clause-after
unfolding log_store
returns-clause-after c =
    let a = c.args in
    rw (c.program_lent-2.ensures.after, c.copy_from_slice.ensures.after, take_rest a.bytes.now (a.o * a.z.s))
    (ap (λ (page : List ℕ). step a.z (store_of a.z a.log (length a.bytes.now) a.o page) (run_of a.run.now))
    (page_laid a.z a.bytes.now a.o (omega (arith, c.if-z-rest.false)) c.requires.fits.0.limits.s_high))
