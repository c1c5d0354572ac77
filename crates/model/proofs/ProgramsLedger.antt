-- The ledger's shape: which page an entry takes, and what an entry and a hand-over leave.
use Prim.Native.Nat.{ℕ, zero, suc, ◌+◌, ◌-◌, ◌≤◌, ◌<◌}
use mathlib.Core.Path.{◌≡◌, refl, sym, ap, ◌∙◌}
use mathlib.Core.Logic.{◌⊎◌, inl, inr, ◌≢◌}
use mathlib.Core.Bool.{Bool, true, false, not, true≢false}
use mathlib.Core.List.{List, [], ◌∷◌}
use native.Mathlib.Omega.{arith}
use native.Mathlib.Decide.{ℕ_discrete, dec_lt}
use lib.ListN.{length, length-append}
use lib.Dec.{leb, eqb}
use borrow.Author.Tests.{eq-eqb, ne_eqb, le-leb, lt-leb}
use Rattle.std.specs.Prelude.{if◌then◌else◌}
use Rattle.lists.specs.Lists.{same, ff}
use Rattle.lists.proofs.Tests.{true_or_false, or_cases, or_right}
use Rattle.lists.proofs.Rows.{all-below, count_from, count_last}
use Rattle.lists.proofs.Parts.{length-ff}
use Rattle.model.specs.declared.Sizes.{Sizes}
use Rattle.model.specs.Sizes.{Device, body}
use Rattle.model.specs.Stores.{Store, program, erase, apply, apply_all, tag_of}
use Rattle.model.specs.Spare.{blank, spoiled, programmed, ledger_kind, kind, tag_bytes, entry_tag}
use Rattle.model.specs.Image.{epoch_of, page_blank, blanks, is_packed, packed}
use Rattle.model.specs.Ledger.{one_in_use, in_use, other_of}
use Rattle.model.specs.Steps.{entry_store, entry_stores, noted_erase}
use Rattle.model.specs.StoresMade.{ledger_stores, Rising}
use Rattle.model.proofs.Limits.{Limits, on_chip}
use Rattle.model.proofs.Tags.{length-tag, blank-ff, programmed_real}
use Rattle.model.proofs.Frames.{Lengths, Fits, lengths_kept, tag-programmed, tag_other_page, tag_other_bucket, tag_erased, tag_kept}
use Rattle.model.proofs.Prefix.{apply_all_append}
use Rattle.model.proofs.KeptCounts.{blanks-same}

pub entry-programmed : (e x : ℕ) → programmed (entry_tag e x) ≡ true
unfolding programmed blank spoiled kind entry_tag tag_bytes same
entry-programmed e x = refl

-- the blank pages of the ledger bucket in use: the next entries take them
abbrev pub entry_room : Sizes → Device → ℕ
entry_room z d = blanks z d (in_use z d)

-- what an entry leaves of them; the bucket that a hand-over turns to has all but one
unfoldable pub room_after : Sizes → ℕ → ℕ
room_after z n = if leb 1 n then n - 1 else z.p - 1

-- the stores of an entry: a hand-over erases the full bucket
unfoldable pub entry_cost : Sizes → Device → ℕ
entry_cost z d = if leb 1 (entry_room z d) then 1 else 2

module _ (z : Sizes) where
  pub entry_length : (d : Device) (x : ℕ) → length (entry_stores z d x) ≡ entry_cost z d
  unfolding entry_stores entry_cost
  entry_length d x = go (true_or_false (leb 1 (blanks z d (in_use z d))))
    where
      go : (leb 1 (blanks z d (in_use z d)) ≡ true) ⊎ (leb 1 (blanks z d (in_use z d)) ≡ false) → length (entry_stores z d x) ≡ entry_cost z d
      go (inl q) = rw q
      go (inr q) = rw q

  pub cost_most : (d : Device) → entry_cost z d ≤ 2
  unfolding entry_cost
  cost_most d = go (leb 1 (blanks z d (in_use z d)))
    where
      go : (t : Bool) → (if t then 1 else 2) ≤ 2
      go true = omega arith
      go false = omega arith

  pub three_or_four : 3 ≤ ledger_stores z
  unfolding ledger_stores
  three_or_four = go (eqb z.p 1)
    where
      go : (t : Bool) → 3 ≤ (if t then 4 else 3)
      go true = omega arith
      go false = omega arith

  -- the first n pages of the bucket l are used, entries or spoiled ones, the others blank
  pub record Filled (d : Device) (l n : ℕ) : Type 0 where
    pub few : n ≤ z.p
    pub used : (i : ℕ) → i < n → blank (tag_of z d l i) ≡ false
    pub rest : (i : ℕ) → n ≤ i → i < z.p → blank (tag_of z d l i) ≡ true

  filled_blanks : (d : Device) (l n : ℕ) → Filled d l n → blanks z d l ≡ z.p - n
  unfolding blanks page_blank
  filled_blanks d l n f = count_from n z.p (page_blank z d l) f.few f.used f.rest

  filled_still : (d e : Device) (l n : ℕ) → ((i : ℕ) → i < z.p → tag_of z e l i ≡ tag_of z d l i) → Filled d l n → Filled e l n
  filled_still d e l n same f = record {
    few = f.few;
    used = λ i h. ap blank (same i (omega (arith, f.few))) ∙ f.used i h;
    rest = λ i h k. ap blank (same i k) ∙ f.rest i h k;
  }

  -- blank pages come only at the end
  packed-after : (d : Device) (l : ℕ) → packed z d l ≡ true → (i j : ℕ) → i ≤ j → j < z.p → blank (tag_of z d l i) ≡ true → blank (tag_of z d l j) ≡ true
  unfolding packed is_packed
  packed-after d l h i zero k hj q = ap (λ (x : ℕ). blank (tag_of z d l x)) (omega arith) ∙ q
  packed-after d l h i (suc j) k hj q = go (ℕ_discrete i (suc j)) (packed-after d l h i j)
    where
      go : Dec (i ≡ suc j) → (i ≤ j → j < z.p → blank (tag_of z d l i) ≡ true → blank (tag_of z d l j) ≡ true) → blank (tag_of z d l (suc j)) ≡ true
      go (yes e) r = rw (← e) q
      go (no ne) r = or_right _ _ (all-below z.p (is_packed z d l) h (suc j) hj) (ap not (r (omega arith) (omega arith) q))

  packed_filled : (d : Device) (l : ℕ) → packed z d l ≡ true → Filled d l (z.p - blanks z d l)
  unfolding blanks page_blank
  packed_filled d l h = record {
    few = omega arith;
    used = λ i k. from i (omega arith) ∙ lt-leb _ i k;
    rest = λ i k hi. from i hi ∙ le-leb _ i k;
  }
    where
      from : (i : ℕ) → i < z.p → blank (tag_of z d l i) ≡ leb (z.p - blanks z d l) i
      from i hi = count_last z.p (page_blank z d l) (packed-after d l h) i hi

  -- the ledger bucket l is in use, with n used pages, and the other one, o, is blank
  pub record InUse (d : Device) (l o n : ℕ) : Type 0 where
    pub bucket_in : body z ≤ l
    pub other_in : body z ≤ o
    pub both : l + o ≡ body z + body z + 1
    pub upper : body z < l → 1 ≤ n
    pub filled : Filled d l n
    pub unused : Filled d o 0

  -- one of the two is in use
  pub record Shape (d : Device) : Type 0 where
    pub bucket : ℕ
    pub other : ℕ
    pub entries : ℕ
    pub in_use : InUse d bucket other entries

  -- number 4 and number 5 say so
  pub shape_of : 1 ≤ z.p → (d : Device) → packed z d (body z) ≡ true → packed z d (body z + 1) ≡ true → one_in_use z d ≡ true → Shape d
  unfolding one_in_use
  shape_of p_pos d lower upper one = go (or_cases _ _ one) (true_or_false (blank (tag_of z d (body z + 1) 0)))
    where
      none : (l : ℕ) → packed z d l ≡ true → blank (tag_of z d l 0) ≡ true → Filled d l 0
      none l h q = record { few = omega arith; used = λ i k. absurd (omega arith); rest = λ i k hi. packed-after d l h 0 i (omega arith) hi q }

      some : (n : ℕ) → Filled d (body z + 1) n → blank (tag_of z d (body z + 1) 0) ≡ false → 1 ≤ n
      some zero f q = absurd (true≢false (sym (f.rest 0 (omega arith) p_pos) ∙ q))
      some (suc n) f q = omega arith

      go : (blank (tag_of z d (body z) 0) ≡ true) ⊎ (blank (tag_of z d (body z + 1) 0) ≡ true) → (blank (tag_of z d (body z + 1) 0) ≡ true) ⊎ (blank (tag_of z d (body z + 1) 0) ≡ false) → Shape d
      go r (inl q) = record {
        bucket = body z;
        other = body z + 1;
        entries = z.p - blanks z d (body z);
        in_use = record { bucket_in = omega arith; other_in = omega arith; both = omega arith; upper = λ h. absurd (omega arith); filled = packed_filled d (body z) lower; unused = none (body z + 1) upper q };
      }
      go (inr r) (inr q) = absurd (true≢false (sym r ∙ q))
      go (inl r) (inr q) =
          let f = packed_filled d (body z + 1) upper in
          record {
            bucket = body z + 1;
            other = body z;
            entries = z.p - blanks z d (body z + 1);
            in_use = record { bucket_in = omega arith; other_in = omega arith; both = omega arith; upper = λ h. some _ f q; filled = f; unused = none (body z) lower r };
          }

  -- ---- the bucket in use, and the other one

  module _ (p_pos : 1 ≤ z.p) (d : Device) (l o n : ℕ) (u : InUse d l o n) where
    in_use_is : in_use z d ≡ l
    unfolding in_use
    in_use_is = go (ℕ_discrete l (body z))
      where
        go : Dec (l ≡ body z) → in_use z d ≡ l
        go (yes q) = let e : o ≡ body z + 1 = omega (arith, u.both) in rw (← e, u.unused.rest 0 (omega arith) p_pos) (sym q)
        go (no ne) = let e : l ≡ body z + 1 = omega (arith, u.both, u.bucket_in, u.other_in) in rw (← e, u.filled.used 0 (omega (arith, u.upper (omega arith)))) refl

    other_is : other_of z l ≡ o
    unfolding other_of
    other_is = go (ℕ_discrete l (body z))
      where
        go : Dec (l ≡ body z) → other_of z l ≡ o
        go (yes q) = rw (eq-eqb l (body z) q) (omega (arith, u.both))
        go (no ne) = rw (ne_eqb l (body z) ne) (omega (arith, u.both, u.bucket_in, u.other_in))

    left_blank : blanks z d (in_use z d) ≡ z.p - n
    left_blank = rw in_use_is (filled_blanks d l n u.filled)

    cost_one : n < z.p → entry_cost z d ≡ 1
    unfolding entry_cost
    cost_one h = rw (le-leb 1 (blanks z d (in_use z d)) (omega (arith, left_blank)))

  -- stores that leave the tags of the ledger
  in_use_still : (d e : Device) (l o n : ℕ) → ((c i : ℕ) → body z ≤ c → i < z.p → tag_of z e c i ≡ tag_of z d c i) → InUse d l o n → InUse e l o n
  in_use_still d e l o n same u = record {
    bucket_in = u.bucket_in;
    other_in = u.other_in;
    both = u.both;
    upper = u.upper;
    filled = filled_still d e l n (λ i h. same l i u.bucket_in h) u.filled;
    unused = filled_still d e o 0 (λ i h. same o i u.other_in h) u.unused;
  }

  in_ledger : (d : Device) → body z ≤ in_use z d
  unfolding in_use
  in_ledger d = go (blank (tag_of z d (body z + 1) 0))
    where
      go : (t : Bool) → body z ≤ (if t then body z else body z + 1)
      go true = omega arith
      go false = omega arith

  in_use-same : 1 ≤ z.p → (d e : Device) → ((c i : ℕ) → body z ≤ c → i < z.p → tag_of z e c i ≡ tag_of z d c i) → in_use z e ≡ in_use z d
  unfolding in_use
  in_use-same p_pos d e same = rw (same (body z + 1) 0 (omega arith) p_pos)

  pub room_still : 1 ≤ z.p → (d e : Device) → ((c i : ℕ) → body z ≤ c → i < z.p → tag_of z e c i ≡ tag_of z d c i) → entry_room z e ≡ entry_room z d
  room_still p_pos d e same = rw (in_use-same p_pos d e same) (blanks-same z d e (in_use z d) (λ k hk. same (in_use z d) k (in_ledger d) hk))

  pub cost_still : 1 ≤ z.p → (d e : Device) → ((c i : ℕ) → body z ≤ c → i < z.p → tag_of z e c i ≡ tag_of z d c i) → entry_cost z e ≡ entry_cost z d
  unfolding entry_cost
  cost_still p_pos d e same = rw (room_still p_pos d e same)

  pub shape_still : (d e : Device) → ((c i : ℕ) → body z ≤ c → i < z.p → tag_of z e c i ≡ tag_of z d c i) → Shape d → Shape e
  shape_still d e same s = record { bucket = s.bucket; other = s.other; entries = s.entries; in_use = in_use_still d e s.bucket s.other s.entries same s.in_use }

  -- ---- an entry

  -- its programs rise; it leaves a ledger of that shape, with a page less for entries or a bucket handed over, and every other bucket as it was; and
  -- after a hand-over the next entry needs none
  pub record Noted (d : Device) (ss : List Store) : Type 0 where
    pub rising : Rising z d ss
    pub lens : Lengths z (apply_all z d ss)
    pub shape : Shape (apply_all z d ss)
    pub others : (c i : ℕ) → c < body z → i < z.p → tag_of z (apply_all z d ss) c i ≡ tag_of z d c i
    pub room : entry_room z (apply_all z d ss) ≡ room_after z (entry_room z d)
    pub next_few : length ss + entry_cost z (apply_all z d ss) ≤ ledger_stores z

  module _ (B : Limits z) (d : Device) (L : Lengths z d) (l o n : ℕ) (u : InUse d l o n) (x : ℕ) where
    abbrev entry_at : (c k : ℕ) → Store
    entry_at c k = program c k (ff z.s) (entry_tag (epoch_of z d x) x)

    fits : (c k : ℕ) → c < z.c → k < z.p → Fits z (entry_at c k)
    unfolding entry_tag
    fits c k hc hk = (hc, hk, length-ff z.s, length-tag ledger_kind 0 1 (epoch_of z d x) x 0 1)

    -- the bucket after an entry on its first blank page
    filled_more : (c k : ℕ) → c < z.c → k < z.p → Filled d c k → Filled (apply z d (entry_at c k)) c (k + 1)
    filled_more c k hc hk f = record { few = omega arith; used = λ i h. now i h (ℕ_discrete i k); rest = λ i h hi. ap blank (kept i (λ q. omega arith)) ∙ f.rest i (omega arith) hi }
      where
        kept : (i : ℕ) → i ≢ k → tag_of z (apply z d (entry_at c k)) c i ≡ tag_of z d c i
        kept i ne = tag_other_page z d L c k _ _ (fits c k hc hk) i ne

        now : (i : ℕ) → i < k + 1 → Dec (i ≡ k) → blank (tag_of z (apply z d (entry_at c k)) c i) ≡ false
        now i h (yes q) = rw q (ap blank (tag-programmed z d L c k _ _ (fits c k hc hk)) ∙ (programmed_real (entry_tag (epoch_of z d x) x) (entry-programmed (epoch_of z d x) x)).0)
        now i h (no ne) = ap blank (kept i ne) ∙ f.used i (omega arith)

    l_in : l < z.c
    l_in = omega (arith, u.both, u.other_in, B.ledger_in)

    o_in : o < z.c
    o_in = omega (arith, u.both, u.bucket_in, B.ledger_in)

    -- a blank page in the bucket in use
    entered : (h : n < z.p) → InUse (apply z d (entry_at l n)) l o (n + 1)
    entered h = record {
      bucket_in = u.bucket_in;
      other_in = u.other_in;
      both = u.both;
      upper = λ q. omega arith;
      filled = filled_more l n l_in h u.filled;
      unused = filled_still d (apply z d (entry_at l n)) o 0 (λ i hi. tag_other_bucket z d L l n _ _ (fits l n l_in h) o i (λ q. omega (arith, u.both)) hi) u.unused;
    }

    entry_there : n < z.p → Noted d (entry_at l n ∷ [])
    unfolding Rising apply_all room_after
    entry_there h =
        let f = fits l n l_in h in
        let e = apply z d (entry_at l n) in
        let before = left_blank B.p_low d l o n u in
        record {
          rising = (u.filled.rest n (omega arith) h, u.filled.used, tt);
          lens = lengths_kept z d L (entry_at l n) f;
          shape = record { bucket = l; other = o; entries = n + 1; in_use = entered h };
          room = rw (le-leb 1 (entry_room z d) (omega (arith, before))) (omega (arith, before, left_blank B.p_low e l o (n + 1) (entered h)));
          others = λ c i hc hi. tag_other_bucket z d L l n _ _ f c i (λ q. omega (arith, u.bucket_in)) hi;
          next_few = omega (arith, cost_most e, three_or_four);
        }

    -- none: the other bucket takes over
    turned : InUse (apply_all z d (entry_at o 0 ∷ erase l ∷ [])) o l 1
    unfolding apply_all
    turned =
        let e = apply z d (entry_at o 0) in
        let M = lengths_kept z d L (entry_at o 0) (fits o 0 o_in B.p_low) in
        record {
          bucket_in = u.other_in;
          other_in = u.bucket_in;
          both = omega (arith, u.both);
          upper = λ q. omega arith;
          filled = filled_still e (apply z e (erase l)) o 1 (λ i hi. tag_kept z e M l l_in o i (λ q. omega (arith, u.both)) hi) (filled_more o 0 o_in B.p_low u.unused);
          unused = record { few = omega arith; used = λ i h. absurd (omega arith); rest = λ i h hi. ap blank (tag_erased z e M l l_in i hi) ∙ blank-ff };
        }

    -- it has one entry, so where P is above 1 the next entry finds a blank page
    turned_few : 2 + entry_cost z (apply_all z d (entry_at o 0 ∷ erase l ∷ [])) ≤ ledger_stores z
    unfolding ledger_stores
    turned_few = go (ℕ_discrete z.p 1)
      where
        e : Device
        e = apply_all z d (entry_at o 0 ∷ erase l ∷ [])

        go : Dec (z.p ≡ 1) → 2 + entry_cost z e ≤ ledger_stores z
        go (yes q) = rw (eq-eqb z.p 1 q) (omega (arith, cost_most e))
        go (no ne) = rw (ne_eqb z.p 1 ne) (omega (arith, cost_one B.p_low e o l 1 turned (omega (arith, B.p_low))))

    handed_over : z.p ≤ n → Noted d (entry_at o 0 ∷ erase l ∷ [])
    unfolding Rising apply_all room_after
    handed_over full =
        let f = fits o 0 o_in B.p_low in
        let e = apply z d (entry_at o 0) in
        let M = lengths_kept z d L (entry_at o 0) f in
        record {
          rising = (u.unused.rest 0 (omega arith) B.p_low, λ i h. absurd (omega arith), tt);
          lens = lengths_kept z e M (erase l) l_in;
          shape = record { bucket = o; other = l; entries = 1; in_use = turned };
          room = rw (lt-leb 1 (entry_room z d) (omega (arith, left_blank B.p_low d l o n u))) (left_blank B.p_low (apply z e (erase l)) o l 1 turned);
          others = λ c i hc hi. tag_kept z e M l l_in c i (λ q. omega (arith, u.bucket_in)) hi ∙ tag_other_bucket z d L o 0 _ _ f c i (λ q. omega (arith, u.other_in)) hi;
          next_few = turned_few;
        }

    entry_noted : Noted d (entry_stores z d x)
    unfolding entry_stores entry_store
    entry_noted = go (dec_lt n z.p)
      where
        left : blanks z d (in_use z d) ≡ z.p - n
        left = left_blank B.p_low d l o n u

        is : in_use z d ≡ l
        is = in_use_is B.p_low d l o n u

        go : Dec (n < z.p) → Noted d (entry_stores z d x)
        go (yes h) = let k : z.p - (z.p - n) ≡ n = omega arith in rw (le-leb 1 (blanks z d (in_use z d)) (omega (arith, left)), left, is, k) (entry_there h)
        go (no h) = rw (lt-leb 1 (blanks z d (in_use z d)) (omega (arith, left)), is, other_is B.p_low d l o n u) (handed_over (omega arith))

  pub noted : Limits z → (d : Device) → Lengths z d → Shape d → (x : ℕ) → Noted d (entry_stores z d x)
  noted B d L s x = entry_noted B d L s.bucket s.other s.entries s.in_use x

  -- ---- an erase behind its entry

  pub noted_length : (d : Device) (x : ℕ) → length (noted_erase z d x) ≡ entry_cost z d + 1
  unfolding noted_erase
  noted_length d x = rw (length-append (entry_stores z d x) (erase x ∷ [])) (omega (arith, entry_length d x))

  pub noted_room : Limits z → (d : Device) → Lengths z d → Shape d → (x : ℕ) → x < body z → entry_room z (apply_all z d (noted_erase z d x)) ≡ room_after z (entry_room z d)
  unfolding noted_erase apply_all
  noted_room B d L s x hx =
      let entry = noted B d L s x in
      let e = apply_all z d (entry_stores z d x) in
      rw (apply_all_append z d (entry_stores z d x) (erase x ∷ []))
      (room_still B.p_low e (apply z e (erase x)) (λ c i hc hi. tag_kept z e entry.lens x (on_chip z x hx) c i (λ q. omega arith) hi) ∙ entry.room)
