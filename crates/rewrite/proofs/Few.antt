-- Lines that are right give each page once: there are no more of them than pages, and they are of one length.
use mathlib.Core.Path.{◌≡◌, refl, ap}
use mathlib.Core.Bool.{Bool, true, false}
use mathlib.Core.List.{List, [], ◌∷◌}
use Prim.Native.Nat.{ℕ, zero, suc, ◌+◌, ◌*◌, ◌≤◌, ◌<◌}
use native.Mathlib.Omega.{arith}
use native.Mathlib.Decide.{ℕ_discrete}
use borrow.Author.Tests.{eqb-true}
use lib.ListN.{length}
use lib.Dec.{eqb}
use Rattle.std.specs.Prelude.{if◌then◌else◌}
use Rattle.lists.specs.Lists.{times}
use Rattle.lists.proofs.Tests.{every_at}
use Rattle.lists.proofs.Counts.{times_cons, times_other, times_one, member-times, length_few}
use Rattle.model.specs.declared.Sizes.{Sizes}
use Rattle.model.specs.Tests.{first_failed}
use Rattle.model.specs.Mail.{line_reads, place_of, line_tests}
use Rattle.model.proofs.MailLines.{line_passed, place_below}
use Rattle.receive.specs.Given.{sound_lines}

module _ (z : Sizes) where
  -- the characters of a line without its line feed
  abbrev pub span : ℕ
  span = (19 + z.s) * 2

  -- pages given once each, and so many left
  pub record Left (given : List ℕ) (left : ℕ) : Type 0 where
    pub once : (x : ℕ) → times x given ≤ 1
    pub inside : (x : ℕ) → 1 ≤ times x given → x < z.c * z.p
    pub counted : length given + left ≡ z.c * z.p

  pub none_given : Left [] (z.c * z.p)
  unfolding times
  none_given = record { once = λ x. omega arith; inside = λ x h. absurd (omega arith); counted = omega arith }

  pub line_span : (line : List ℕ) → line_reads z line ≡ true → length line ≡ span
  unfolding line_reads
  line_span line h = eqb-true (length line) span (every_at _ h 1)

  -- a line that is right
  module _ (given line : List ℕ) (pass : first_failed (line_tests z given line) ≡ 0) where
    reads : line_reads z line ≡ true
    reads = (line_passed z given line pass).0

    new : times (place_of z line) given ≡ 0
    new = member-times (place_of z line) given (line_passed z given line pass).1

    pub spans : length line ≡ span
    spans = line_span line reads

    module _ (left : ℕ) (l : Left given left) where
      once_more : (x : ℕ) → times x (place_of z line ∷ given) ≤ 1
      once_more x = go (ℕ_discrete x (place_of z line))
        where
          go : Dec (x ≡ place_of z line) → times x (place_of z line ∷ given) ≤ 1
          go (yes e) = omega (arith, times_cons x (place_of z line) given, times_one x (place_of z line), ap (λ (v : ℕ). times v given) e, new)
          go (no ne) = omega (arith, times_cons x (place_of z line) given, times_other x (place_of z line) ne, l.once x)

      inside_more : (x : ℕ) → 1 ≤ times x (place_of z line ∷ given) → x < z.c * z.p
      inside_more x h = go (ℕ_discrete x (place_of z line))
        where
          go : Dec (x ≡ place_of z line) → x < z.c * z.p
          go (yes e) = rw e (place_below z line reads)
          go (no ne) = l.inside x (omega (arith, times_cons x (place_of z line) given, times_other x (place_of z line) ne))

      -- some page was left
      pub some_left : 1 ≤ left
      some_left = omega (arith, l.counted, length_few (z.c * z.p) (place_of z line ∷ given) once_more inside_more)

      pub left_less : (less : ℕ) → suc less ≡ left → Left (place_of z line ∷ given) less
      left_less less e = record { once = once_more; inside = inside_more; counted = omega (arith, l.counted) }

  -- no more lines are right than pages are left
  pub few_sound : (left : ℕ) (given : List ℕ) (ls : List (List ℕ)) → Left given left → sound_lines z given ls ≤ left
  unfolding sound_lines
  few_sound left given [] l = omega arith
  few_sound left given (line ∷ ls) l = go left refl (eqb (first_failed (line_tests z given line)) 0) refl (λ less r. few_sound less (place_of z line ∷ given) ls r)
    where
      go : (n : ℕ) → n ≡ left → (t : Bool) → eqb (first_failed (line_tests z given line)) 0 ≡ t
          → ((less : ℕ) → Left (place_of z line ∷ given) less → sound_lines z (place_of z line ∷ given) ls ≤ less)
          → (if t then suc (sound_lines z (place_of z line ∷ given) ls) else zero) ≤ left
      go n e false q r = omega arith
      go zero e true q r = absurd (omega (arith, some_left given line (eqb-true _ 0 q) left l))
      go (suc less) e true q r = omega (arith, r less (left_less given line (eqb-true _ 0 q) left l less e))
