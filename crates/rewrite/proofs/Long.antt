-- A text longer than the lines of all pages and one more is turned down by what stands in its front.
use mathlib.Core.Path.{◌≡◌, refl, sym, ap, ◌∙◌}
use mathlib.Core.Bool.{Bool, true, false}
use mathlib.Core.List.{List, [], ◌∷◌, ◌++◌}
use Prim.Native.Nat.{ℕ, zero, suc, ◌+◌, ◌*◌, ◌≤◌, ◌<◌}
use native.Mathlib.Omega.{arith}
use native.Mathlib.Nat.{mul-le-mul_right}
use borrow.Author.Tests.{eqb-true}
use lib.ListN.{length, take, length-append}
use lib.Dec.{eqb}
use Rattle.std.specs.Prelude.{if◌then◌else◌}
use Rattle.lists.specs.Lists.{empty}
use Rattle.model.specs.declared.Sizes.{Sizes}
use Rattle.model.specs.Tests.{first_failed}
use Rattle.model.specs.Driving.{lines_from}
use Rattle.model.specs.Mail.{line_reads, place_of, line_tests, fault_in}
use Rattle.model.proofs.MailLines.{none_faulty}
use Rattle.receive.specs.Given.{sound_lines}
use Rattle.rewrite.proofs.Few.{span, Left, line_span, spans, some_left, left_less}

module _ (z : Sizes) where
  -- two lists of lines are judged alike
  abbrev Alike : (given : List ℕ) → (ls ms : List (List ℕ)) → Type 0
  Alike given ls ms = (fault_in z given ls ≡ fault_in z given ms) × (sound_lines z given ls ≡ sound_lines z given ms)

  -- they begin with the same line
  alike_more : (given line : List ℕ) (ls ms : List (List ℕ))
      → (first_failed (line_tests z given line) ≡ 0 → Alike (place_of z line ∷ given) ls ms) → Alike given (line ∷ ls) (line ∷ ms)
  unfolding fault_in sound_lines
  alike_more given line ls ms r = go (eqb (first_failed (line_tests z given line)) 0) refl
    where
      n : ℕ
      n = first_failed (line_tests z given line)

      go : (t : Bool) → eqb n 0 ≡ t
          → ((if t then fault_in z (place_of z line ∷ given) ls else n) ≡ (if t then fault_in z (place_of z line ∷ given) ms else n))
          × ((if t then suc (sound_lines z (place_of z line ∷ given) ls) else zero) ≡ (if t then suc (sound_lines z (place_of z line ∷ given) ms) else zero))
      go true q = let e = r (eqb-true n 0 q) in (e.0, ap suc e.1)
      go false q = (refl, refl)

  -- ---- a line that is too long is turned down, whatever follows

  Turned : (given : List ℕ) → (ls : List (List ℕ)) → Type 0
  Turned given ls = (fault_in z given ls ≡ 9) × (sound_lines z given ls ≡ 0)

  no_line : (line : List ℕ) → span z < length line → line_reads z line ≡ false
  no_line line h = go (line_reads z line) refl
    where
      go : (t : Bool) → line_reads z line ≡ t → t ≡ false
      go true q = absurd (omega (arith, line_span z line q))
      go false q = refl

  turned_first : (given line : List ℕ) (ls : List (List ℕ)) → span z < length line → Turned given (line ∷ ls)
  unfolding Turned fault_in sound_lines line_tests first_failed
  turned_first given line ls h = rw (no_line line h) (refl, refl)

  turned_held : (given line text : List ℕ) → span z < length line → Turned given (lines_from line text)
  unfolding lines_from empty
  turned_held given [] [] h = absurd (omega arith)
  turned_held given (x ∷ line) [] h = turned_first given (x ∷ line) [] h
  turned_held given line (c ∷ text) h = go (eqb c 10) (turned_held given (line ++ (c ∷ [])) text (omega (arith, length-append line (c ∷ []))))
    where
      go : (t : Bool) → Turned given (lines_from (line ++ (c ∷ [])) text) → Turned given (if t then line ∷ lines_from [] text else lines_from (line ++ (c ∷ [])) text)
      go true r = turned_first given line (lines_from [] text) h
      go false r = r

  alike_turned : (given : List ℕ) (ls ms : List (List ℕ)) → Turned given ls → Turned given ms → Alike given ls ms
  unfolding Turned
  alike_turned given ls ms l m = (l.0 ∙ sym m.0, l.1 ∙ sym m.1)

  -- ---- the front

  pub front_alike : (text : List ℕ) (n left : ℕ) (given line : List ℕ) → Left z given left → (left + 1) * (span z + 1) ≤ length line + n
      → Alike given (lines_from line (take n text)) (lines_from line text)
  unfolding lines_from
  front_alike [] zero left given line l h = (refl, refl)
  front_alike [] (suc n) left given line l h = (refl, refl)
  front_alike (c ∷ text) zero left given line l h =
      let q : span z < length line = omega arith in
      alike_turned given (lines_from line []) (lines_from line (c ∷ text)) (turned_held given line [] q) (turned_held given line (c ∷ text) q)
  front_alike (c ∷ text) (suc n) left given line l h =
      go (eqb c 10) left refl (λ less r e. front_alike text n less (place_of z line ∷ given) [] r (omega arith))
      (front_alike text n left given (line ++ (c ∷ [])) l (omega (arith, length-append line (c ∷ []))))
    where
      ended : (most : ℕ) → most ≡ left
          → ((less : ℕ) → Left z (place_of z line ∷ given) less → (less + 1) * (span z + 1) ≤ n → Alike (place_of z line ∷ given) (lines_from [] (take n text)) (lines_from [] text))
          → first_failed (line_tests z given line) ≡ 0 → Alike (place_of z line ∷ given) (lines_from [] (take n text)) (lines_from [] text)
      ended zero e r pass = absurd (omega (arith, some_left z given line pass left l))
      ended (suc less) e r pass =
          let w : (suc less + 1) * (span z + 1) ≤ length line + suc n = rw e h in
          r less (left_less z given line pass left l less e) (omega (arith, spans z given line pass))

      go : (t : Bool) → (most : ℕ) → most ≡ left
          → ((less : ℕ) → Left z (place_of z line ∷ given) less → (less + 1) * (span z + 1) ≤ n → Alike (place_of z line ∷ given) (lines_from [] (take n text)) (lines_from [] text))
          → Alike given (lines_from (line ++ (c ∷ [])) (take n text)) (lines_from (line ++ (c ∷ [])) text)
          → Alike given (if t then line ∷ lines_from [] (take n text) else lines_from (line ++ (c ∷ [])) (take n text)) (if t then line ∷ lines_from [] text else lines_from (line ++ (c ∷ [])) text)
      go true most e r a = alike_more given line (lines_from [] (take n text)) (lines_from [] text) (ended most e r)
      go false most e r a = a

  -- ---- a text without a fault is short

  pub faultless_short : (text : List ℕ) (left : ℕ) (given line : List ℕ) → Left z given left → fault_in z given (lines_from line text) ≡ 0
      → length line + length text ≤ left * (span z + 1)
  unfolding lines_from empty
  faultless_short [] left given [] l h = omega arith
  faultless_short [] left given (x ∷ line) l h =
      let pass = (none_faulty z given (x ∷ line) [] h).0 in
      let some : 1 ≤ left = some_left z given (x ∷ line) pass left l in
      omega (arith, spans z given (x ∷ line) pass, mul-le-mul_right (span z + 1) some)
  faultless_short (c ∷ text) left given line l h =
      go (eqb c 10) left refl h (λ less r e. faultless_short text less (place_of z line ∷ given) [] r e) (λ e. faultless_short text left given (line ++ (c ∷ [])) l e)
    where
      go : (t : Bool) → (most : ℕ) → most ≡ left → fault_in z given (if t then line ∷ lines_from [] text else lines_from (line ++ (c ∷ [])) text) ≡ 0
          → ((less : ℕ) → Left z (place_of z line ∷ given) less → fault_in z (place_of z line ∷ given) (lines_from [] text) ≡ 0 → 0 + length text ≤ less * (span z + 1))
          → (fault_in z given (lines_from (line ++ (c ∷ [])) text) ≡ 0 → length (line ++ (c ∷ [])) + length text ≤ left * (span z + 1))
          → length line + suc (length text) ≤ left * (span z + 1)
      go true zero e q r s = absurd (omega (arith, some_left z given line (none_faulty z given line (lines_from [] text) q).0 left l))
      go true (suc less) e q r s =
          let both = none_faulty z given line (lines_from [] text) q in
          rw (sym e) (omega (arith, spans z given line both.0, r less (left_less z given line both.0 left l less e) both.1))
      go false most e q r s = omega (arith, s q, length-append line (c ∷ []))
