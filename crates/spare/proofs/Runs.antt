-- Runs of pages: their spare bytes as one run of FF.
use Prim.Native.Nat.{ℕ, ◌+◌, ◌-◌, ◌*◌, ◌/◌, ◌%◌, ◌≤◌, ◌<◌}
use mathlib.Core.Path.{◌≡◌, refl, sym, ap, ◌∙◌}
use mathlib.Core.Bool.{Bool, true, ◌&&◌}
use mathlib.Core.List.{List, [], ◌∷◌}
use native.Mathlib.Omega.{arith}
use lib.ListN.{length, take, drop, get_or, get_or-replicate, take-append-drop}
use lib.Seq.{ext_get_or, drop-drop}
use lib.Dec.{eqb}
use Rattle.lists.specs.Lists.{all, all_below, part, same, ff}
use Rattle.lists.proofs.Tests.{and_left, and_right, and-true, same_truth}
use Rattle.lists.proofs.Arrays.{all_append}
use Rattle.lists.proofs.Rows.{all-below, below_all}
use Rattle.lists.proofs.Parts.{get_d_part, length-part-fits, length-ff, part-ff}
use Rattle.lists.proofs.Sames.{same_equal, same_self}
use Rattle.lists.proofs.Windows.{part-part}
use Rattle.model.specs.Spare.{blank}
use Rattle.model.proofs.Tags.{blank-true, blank-ff}
use Rattle.spare.specs.Fields.{blank_from}

to_same : (l m : List ℕ) → l ≡ m → same l m ≡ true
to_same l m e = ap (same l) (sym e) ∙ same_self l

-- a list whose bytes are FF
erased : (l : List ℕ) (n : ℕ) → length l ≡ n → ((i : ℕ) → i < n → get_or l i 0 ≡ 255) → l ≡ ff n
erased l n e h = ext_get_or 0 l (ff n) (e ∙ sym (length-ff n)) (λ i g. h i (omega arith) ∙ sym (get_or-replicate n i 255 0 (omega arith)))

abbrev pub is_erased : ℕ → Bool
is_erased x = eqb x 255

pub all_erased : (l : List ℕ) → all is_erased l ≡ same l (ff (length l))
unfolding all same
all_erased [] = refl
all_erased (x ∷ l) = ap (λ (t : Bool). is_erased x && t) (all_erased l)

-- n bytes more of a run
pub erased_more : (l : List ℕ) (i n : ℕ) → i + n ≤ length l → all is_erased (drop i l) ≡ (same (part l i n) (ff n) && all is_erased (drop (i + n) l))
unfolding part
erased_more l i n h =
    let here : all is_erased (take n (drop i l)) ≡ same (take n (drop i l)) (ff n) =
    all_erased (take n (drop i l)) ∙ ap (λ (k : ℕ). same (take n (drop i l)) (ff k)) (length-part-fits l i n h) in
    ap (all is_erased) (sym (take-append-drop n (drop i l)))
    ∙ all_append is_erased (take n (drop i l)) (drop n (drop i l))
    ∙ rw (here, drop-drop n i l)

-- a run that is compared up to i, and from an earlier place on to its end
pub erased_ends : (l : List ℕ) (i last : ℕ) (alike : Bool) → last ≤ i → i ≤ length l → (alike && all is_erased (drop i l)) ≡ all is_erased l
    → (alike && all is_erased (drop last l)) ≡ all is_erased l
erased_ends l i last alike low high inv = same_truth _ _
    (λ h.
    let n : last + (i - last) ≡ i = omega arith in
    let behind = sym (erased_more l last (i - last) (omega arith)) ∙ and_right alike (all is_erased (drop last l)) h in
    let here : all is_erased (drop i l) ≡ true = rw n at (and_right (same (part l last (i - last)) (ff (i - last))) (all is_erased (drop (last + (i - last)) l)) behind) in
    sym inv ∙ and-true (and_left alike (all is_erased (drop last l)) h) here)
    (λ h.
    let start = sym (erased_more l 0 last (omega arith)) ∙ h in
    let none : 0 + last ≡ last = omega arith in
    and-true (and_left alike (all is_erased (drop i l)) (inv ∙ h)) (rw none at (and_right (same (part l 0 last) (ff last)) (all is_erased (drop (0 + last) l)) start)))

-- page by page
pub run_pages : (spare : List ℕ) (page n : ℕ) → (page + n) * 16 ≤ length spare
    → same (part spare (page * 16) (n * 16)) (ff (n * 16)) ≡ all_below n (blank_from spare page)
unfolding blank_from
run_pages spare page n inside = same_truth _ _ split join
  where
    run : List ℕ
    run = part spare (page * 16) (n * 16)

    split : same run (ff (n * 16)) ≡ true → all_below n (blank_from spare page) ≡ true
    split h = below_all n (blank_from spare page) (λ j q.
        let at : page * 16 + j * 16 ≡ (page + j) * 16 = omega arith in
        ap blank
        (ap (λ (i : ℕ). part spare i 16) (sym at)
        ∙ (sym (part-part spare (page * 16) (n * 16) (j * 16) 16 (omega arith) (omega arith))
        ∙ (ap (λ (t : List ℕ). part t (j * 16) 16) (same_equal run (ff (n * 16)) h) ∙ part-ff (n * 16) (j * 16) 16 (omega arith))))
        ∙ blank-ff)

    join : all_below n (blank_from spare page) ≡ true → same run (ff (n * 16)) ≡ true
    join h = to_same run (ff (n * 16)) (erased run (n * 16) (length-part-fits spare (page * 16) (n * 16) (omega arith)) (λ i g.
        let at : page * 16 + i ≡ (page + i / 16) * 16 + i % 16 = omega arith in
        let tag = part spare ((page + i / 16) * 16) 16 in
        get_d_part spare (page * 16) (n * 16) i g
        ∙ (ap (λ (k : ℕ). get_or spare k 0) at
        ∙ (sym (get_d_part spare ((page + i / 16) * 16) 16 (i % 16) (omega arith))
        ∙ (ap (λ (t : List ℕ). get_or t (i % 16) 0) (blank-true tag (all-below n (blank_from spare page) h (i / 16) (omega arith)))
        ∙ get_or-replicate 16 (i % 16) 255 0 (omega arith))))))
