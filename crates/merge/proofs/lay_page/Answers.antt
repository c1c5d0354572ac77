use mathlib.Core.Path.{sym, ◌∙◌}
use native.Mathlib.Omega.{arith}
use Rattle.model.proofs.Limits.{on_chip}
use Rattle.model.proofs.Tags.{blank_unprogrammed, spoiled_unprogrammed}
use Rattle.spare.proofs.Looked.{seen-blank, seen-spoiled}
use Rattle.overlay.proofs.Logs.{merged-length, nothing_ends, log_lacking, ends_last, log_place, log_laid}
use Rattle.merge.proofs.lay_page.Goals as goal

pub returns-then-not-ends_log : goal.returns-then-not-ends_log
returns-then-not-ends_log c = λ base e shows.
    let s = c in
    rw (log_lacking s.requires.readable s.requires.c_bound s.args.k (sym c.ends_log.ensures ∙ c.if-not-ends_log.true) base) shows

pub lay_log-requires : goal.lay_log-requires
lay_log-requires c = let p = c.requires in
    let says = sym c.page_seen-page.ensures ∙ c.in-Programmed.is in
    let last = ends_last p.readable p.c_bound p.k_lt_p says (sym c.ends_log.ensures ∙ c.if-not-ends_log.false) in
    record { limits = p.readable.limits; flash_len = p.readable.flash_length; c_lt_c = on_chip _ _ p.c_bound; log_place = log_place p.readable p.c_bound p.k_lt_p says last; window_bound = p.window_bound }

pub returns-in-Blank : goal.returns-in-Blank
returns-in-Blank c = λ base e shows.
    let s = c in
    let lacking = nothing_ends s.requires.readable s.requires.c_bound s.args.k (blank_unprogrammed _ (seen-blank _ (sym c.page_seen-page.ensures ∙ c.in-Blank.is))) in
    rw (log_lacking s.requires.readable s.requires.c_bound s.args.k lacking base) shows

pub returns-in-Spoiled : goal.returns-in-Spoiled
returns-in-Spoiled c = λ base e shows.
    let s = c in
    let lacking = nothing_ends s.requires.readable s.requires.c_bound s.args.k (spoiled_unprogrammed _ (seen-spoiled _ (sym c.page_seen-page.ensures ∙ c.in-Spoiled.is))) in
    rw (log_lacking s.requires.readable s.requires.c_bound s.args.k lacking base) shows

pub returns-in-Programmed : goal.returns-in-Programmed
returns-in-Programmed c = λ base e shows.
    let p = c.requires in
    let says = sym c.page_seen-page.ensures ∙ c.in-Programmed.is in
    let last = ends_last p.readable p.c_bound p.k_lt_p says (sym c.ends_log.ensures ∙ c.if-not-ends_log.false) in
    let whole = merged-length p.readable p.c_bound base e c.args.k (omega (arith, p.k_lt_p)) in
    rw (log_laid p.readable p.c_bound p.k_lt_p says last base) (c.lay_log.ensures _ whole shows)
