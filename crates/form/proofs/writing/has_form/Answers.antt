-- `writing::has_form` meets its contract.
use mathlib.Core.Bool.{true, true≢false}
use mathlib.Core.Path.{◌≡◌, sym, ap, ◌∙◌}
use lib.ListN.{take}
use Rattle.lists.proofs.Arrays.{take-used}
use Rattle.queue.specs.View.{entries_of}
use Rattle.state.specs.View.{has_places, view_of}
use Rattle.form.proofs.Having.{form_had}
use Rattle.form.proofs.writing.has_form.Goals as goal

pub returns-then-not-has_places : goal.returns-then-not-has_places
returns-then-not-has_places c = record { value = sym (form_had c.args.s ∙ rw (sym c.has_places.ensures.value ∙ c.if-not-has_places.true)); s_value = λ h. absurd (true≢false (sym h)) }

pub returns : goal.returns
returns c = let s = c.args.s in
    let used = c.used-n in
    let had = c.has_places.ensures in
    let places = c.if-not-has_places.false in
    let seen = had.self_value places in
    let same : take used.result s.reads.items ≡ entries_of s.reads = take-used used.result s.reads.len s.reads.items used.ensures.0 in
    let all_placed : has_places s ≡ true = sym had.value ∙ places in
    let reads : (view_of s).reads ≡ entries_of s.reads = ap (λ v. v.reads) seen in
    record { value = sym (form_had s ∙ rw (all_placed, reads, c.sizes_fit.ensures, c.all_plain.ensures, same)); s_value = λ h. seen }
