-- Laws of parts and splices, at one index and as lists.
use Prim.Native.Nat.{ℕ, ◌+◌, ◌-◌, ◌≤◌, ◌<◌, min}
use mathlib.Core.Path.{◌≡◌, sym, ap, ◌∙◌, subst}
use mathlib.Core.Logic.{◌⊎◌, inl, inr}
use mathlib.Core.List.{List, ◌++◌}
use native.Mathlib.Omega.{arith}
use native.Mathlib.Nat.{add_assoc}
use native.Mathlib.Decide.{dec_lt}
use lib.ListN.{length, take, drop, get_or, length-append, length-take, length-drop, get_or-append, get_or-eq_default, length-replicate, get_or-replicate}
use lib.Seq.{get_or-take, get_or-drop, get_or-append-add, ext_get_or, length-take-le}
use Rattle.lists.specs.Lists.{part, splice, ff}

module _ (l : List ℕ) (i : ℕ) (bs : List ℕ) (fits : i + length bs ≤ length l) where
  take-fits : length (take i l) ≡ i
  take-fits = length-take-le i l (omega arith)

  pub length-splice : length (splice l i bs) ≡ length l
  unfolding splice
  length-splice = simp (length-append, length-drop, take-fits) (omega arith)

  pub get_d_splice_before : (j : ℕ) → j < i → get_or (splice l i bs) j 0 ≡ get_or l j 0
  unfolding splice
  get_d_splice_before j h =
      get_or-append (take i l) (bs ++ drop (i + length bs) l) 0 j (rw take-fits h) ∙ get_or-take i l j 0 h

  from_start : (k : ℕ) → get_or (splice l i bs) (i + k) 0 ≡ get_or (bs ++ drop (i + length bs) l) k 0
  unfolding splice
  from_start k =
      subst (λ (n : ℕ). get_or (take i l ++ (bs ++ drop (i + length bs) l)) (n + k) 0 ≡ get_or (bs ++ drop (i + length bs) l) k 0) take-fits
      (get_or-append-add (take i l) (bs ++ drop (i + length bs) l) k 0)

  pub get_d_splice_in : (k : ℕ) → k < length bs → get_or (splice l i bs) (i + k) 0 ≡ get_or bs k 0
  get_d_splice_in k h = from_start k ∙ get_or-append bs (drop (i + length bs) l) 0 k h

  pub get_d_splice_after : (j : ℕ) → i + length bs ≤ j → get_or (splice l i bs) j 0 ≡ get_or l j 0
  get_d_splice_after j h =
      let k : ℕ = j - (i + length bs) in
      let e : j ≡ i + (length bs + k) = omega arith in
      let e' : i + length bs + k ≡ j = omega arith in
      ap (λ (x : ℕ). get_or (splice l i bs) x 0) e
      ∙ from_start (length bs + k)
      ∙ get_or-append-add bs (drop (i + length bs) l) k 0
      ∙ get_or-drop (i + length bs) l k 0
      ∙ ap (λ (x : ℕ). get_or l x 0) e'

pub get_d_part : (l : List ℕ) (i n k : ℕ) → k < n → get_or (part l i n) k 0 ≡ get_or l (i + k) 0
unfolding part
get_d_part l i n k h = get_or-take n (drop i l) k 0 h ∙ get_or-drop i l k 0

pub length_part : (l : List ℕ) (i n : ℕ) → length (part l i n) ≡ min n (length l - i)
unfolding part
length_part l i n = length-take n (drop i l) ∙ ap (min n) (length-drop i l)

pub get_d_beyond : (l : List ℕ) (i n k : ℕ) → n ≤ k → get_or (part l i n) k 0 ≡ 0
get_d_beyond l i n k h = get_or-eq_default (part l i n) 0 (omega (arith, length_part l i n))

pub length-part-fits : (l : List ℕ) (i n : ℕ) → i + n ≤ length l → length (part l i n) ≡ n
length-part-fits l i n h = length_part l i n ∙ omega arith

-- parts of two lists that have the same bytes up to there
pub part_alike : (l m : List ℕ) (i n : ℕ) → length l ≡ length m → ((j : ℕ) → j < i + n → get_or l j 0 ≡ get_or m j 0) → part l i n ≡ part m i n
part_alike l m i n e h =
    ext_get_or 0 (part l i n) (part m i n) (length_part l i n ∙ ap (λ (x : ℕ). min n (x - i)) e ∙ sym (length_part m i n))
    (λ k hk. let hk' : k < n = omega (arith, length_part l i n) in get_d_part l i n k hk' ∙ h (i + k) (omega arith) ∙ sym (get_d_part m i n k hk'))

-- parts of two lists, byte by byte
pub part_from : (l m : List ℕ) (i j n : ℕ) → i + n ≤ length l → j + n ≤ length m → ((k : ℕ) → k < n → get_or l (i + k) 0 ≡ get_or m (j + k) 0) → part l i n ≡ part m j n
part_from l m i j n fl fm h =
    let ll = length-part-fits l i n fl in
    ext_get_or 0 (part l i n) (part m j n) (ll ∙ sym (length-part-fits m j n fm))
    (λ k hk. let hk' : k < n = rw ll at hk in get_d_part l i n k hk' ∙ h k hk' ∙ sym (get_d_part m j n k hk'))

-- the part that was spliced in, and a part that lies apart
pub part_same : (l : List ℕ) (i : ℕ) (bs : List ℕ) → i + length bs ≤ length l → part (splice l i bs) i (length bs) ≡ bs
part_same l i bs h =
    let ll : length (part (splice l i bs) i (length bs)) ≡ length bs = length-part-fits (splice l i bs) i (length bs) (rw (length-splice l i bs h) h) in
    ext_get_or 0 (part (splice l i bs) i (length bs)) bs ll
    (λ k hk. let hk' : k < length bs = rw ll at hk in get_d_part (splice l i bs) i (length bs) k hk' ∙ get_d_splice_in l i bs h k hk')

pub part_other : (l : List ℕ) (i : ℕ) (bs : List ℕ) (j n : ℕ) → i + length bs ≤ length l → (j + n ≤ i) ⊎ (i + length bs ≤ j)
    → part (splice l i bs) j n ≡ part l j n
part_other l i bs j n h apart =
    ext_get_or 0 (part (splice l i bs) j n) (part l j n) (length_part (splice l i bs) j n ∙ rw (length-splice l i bs h) (sym (length_part l j n)))
    (λ k hk. let hk' : k < n = omega (arith, length_part (splice l i bs) j n) in
    get_d_part (splice l i bs) j n k hk' ∙ at k hk' apart ∙ sym (get_d_part l j n k hk'))
  where
    at : (k : ℕ) → k < n → (j + n ≤ i) ⊎ (i + length bs ≤ j) → get_or (splice l i bs) (j + k) 0 ≡ get_or l (j + k) 0
    at k hk (inl a) = get_d_splice_before l i bs h (j + k) (omega arith)
    at k hk (inr a) = get_d_splice_after l i bs h (j + k) (omega arith)

-- a splice inside a part
pub part_inside : (l : List ℕ) (a i : ℕ) (bs : List ℕ) (n : ℕ) → i + length bs ≤ n → a + n ≤ length l
    → part (splice l (a + i) bs) a n ≡ splice (part l a n) i bs
part_inside l a i bs n h f =
    let fl : a + i + length bs ≤ length l = omega arith in
    let ln : length (part l a n) ≡ n = length-part-fits l a n f in
    let ln' : length (part (splice l (a + i) bs) a n) ≡ n = length-part-fits (splice l (a + i) bs) a n (rw (length-splice l (a + i) bs fl) f) in
    let fp : i + length bs ≤ length (part l a n) = rw ln h in
    ext_get_or 0 (part (splice l (a + i) bs) a n) (splice (part l a n) i bs)
    (ln' ∙ sym ln ∙ sym (length-splice (part l a n) i bs fp))
    (λ k hk. let hk' : k < n = rw ln' at hk in
    get_d_part (splice l (a + i) bs) a n k hk' ∙ at k hk' fl fp (dec_lt k i) (dec_lt k (i + length bs)))
  where
    at : (k : ℕ) → k < n → a + i + length bs ≤ length l → i + length bs ≤ length (part l a n) → Dec (k < i) → Dec (k < i + length bs)
        → get_or (splice l (a + i) bs) (a + k) 0 ≡ get_or (splice (part l a n) i bs) k 0
    at k hk fl fp (yes u) d = get_d_splice_before l (a + i) bs fl (a + k) (omega arith) ∙ sym (get_d_splice_before (part l a n) i bs fp k u ∙ get_d_part l a n k hk)
    at k hk fl fp (no u) (yes v) =
        let m : ℕ = k - i in
        let e : k ≡ i + m = omega arith in
        let e' : a + k ≡ a + i + m = omega arith in
        let hm : m < length bs = omega arith in
        ap (λ (x : ℕ). get_or (splice l (a + i) bs) x 0) e' ∙ get_d_splice_in l (a + i) bs fl m hm
        ∙ sym (ap (λ (x : ℕ). get_or (splice (part l a n) i bs) x 0) e ∙ get_d_splice_in (part l a n) i bs fp m hm)
    at k hk fl fp (no u) (no v) = get_d_splice_after l (a + i) bs fl (a + k) (omega arith)
        ∙ sym (get_d_splice_after (part l a n) i bs fp k (omega arith) ∙ get_d_part l a n k hk)

-- a part of what was spliced in
pub part_of_splice : (l : List ℕ) (a : ℕ) (bs : List ℕ) (i n : ℕ) → a + length bs ≤ length l → i + n ≤ length bs
    → part (splice l a bs) (a + i) n ≡ part bs i n
part_of_splice l a bs i n f h =
    let ls : length (splice l a bs) ≡ length l = length-splice l a bs f in
    let ln : length (part (splice l a bs) (a + i) n) ≡ n = length-part-fits (splice l a bs) (a + i) n (omega arith) in
    ext_get_or 0 (part (splice l a bs) (a + i) n) (part bs i n) (ln ∙ sym (length-part-fits bs i n h))
    (λ k hk. let hk' : k < n = rw ln at hk in
    get_d_part (splice l a bs) (a + i) n k hk' ∙ ap (λ (x : ℕ). get_or (splice l a bs) x 0) (add_assoc a i k)
    ∙ get_d_splice_in l a bs f (i + k) (omega arith) ∙ sym (get_d_part bs i n k hk'))

pub length-ff : (n : ℕ) → length (ff n) ≡ n
length-ff n = length-replicate n 255

pub part-ff : (m i n : ℕ) → i + n ≤ m → part (ff m) i n ≡ ff n
part-ff m i n h =
    let lm : length (ff m) ≡ m = length-replicate m 255 in
    let ln : length (part (ff m) i n) ≡ n = length-part-fits (ff m) i n (rw lm h) in
    ext_get_or 0 (part (ff m) i n) (ff n) (ln ∙ sym (length-replicate n 255))
    (λ k hk. let hk' : k < n = rw ln at hk in
    get_d_part (ff m) i n k hk' ∙ get_or-replicate m (i + k) 255 0 (omega arith) ∙ sym (get_or-replicate n k 255 0 hk'))

-- byte j of a splice, by where it lies
pub data At (l : List ℕ) (i : ℕ) (bs : List ℕ) (j : ℕ) : Type 0 where
  outside : (j < i) ⊎ (i + length bs ≤ j) → get_or (splice l i bs) j 0 ≡ get_or l j 0 → At l i bs j
  inside : (k : ℕ) → k < length bs → j ≡ i + k → get_or (splice l i bs) j 0 ≡ get_or bs k 0 → At l i bs j

pub at : (l : List ℕ) (i : ℕ) (bs : List ℕ) → i + length bs ≤ length l → (j : ℕ) → At l i bs j
at l i bs f j = go (dec_lt j i) (dec_lt j (i + length bs))
  where
    go : Dec (j < i) → Dec (j < i + length bs) → At l i bs j
    go (yes u) v = outside (inl u) (get_d_splice_before l i bs f j u)
    go (no u) (no v) = outside (inr (omega arith)) (get_d_splice_after l i bs f j (omega arith))
    go (no u) (yes v) =
        let k : ℕ = j - i in
        let e : j ≡ i + k = omega arith in
        let hk : k < length bs = omega arith in
        inside k hk e (ap (λ (x : ℕ). get_or (splice l i bs) x 0) e ∙ get_d_splice_in l i bs f k hk)

pub not_both : {x i n k : ℕ} → (x < i) ⊎ (i + n ≤ x) → k < n → x ≡ i + k → ⊥
not_both (inl o) hk ek = omega arith
not_both (inr o) hk ek = omega arith

abbrev pub Apart : ℕ → ℕ → ℕ → ℕ → Type 0
Apart i m j n = (j + n ≤ i) ⊎ (i + m ≤ j)

clash : {x i n j m k k' : ℕ} → Apart i n j m → k < n → x ≡ i + k → k' < m → x ≡ j + k' → ⊥
clash (inl o) hk ek hk' ek' = omega arith
clash (inr o) hk ek hk' ek' = omega arith

pub splice_comm : (l : List ℕ) (i : ℕ) (bs : List ℕ) (j : ℕ) (cs : List ℕ) → i + length bs ≤ length l → j + length cs ≤ length l
    → Apart i (length bs) j (length cs) → splice (splice l i bs) j cs ≡ splice (splice l j cs) i bs
splice_comm l i bs j cs f g a =
    let l1 : length (splice l i bs) ≡ length l = length-splice l i bs f in
    let l2 : length (splice l j cs) ≡ length l = length-splice l j cs g in
    let f' : i + length bs ≤ length (splice l j cs) = rw l2 f in
    let g' : j + length cs ≤ length (splice l i bs) = rw l1 g in
    ext_get_or 0 _ _ (length-splice (splice l i bs) j cs g' ∙ l1 ∙ sym (length-splice (splice l j cs) i bs f' ∙ l2))
    (λ x hx. go x (at l i bs f x) (at l j cs g x) (at (splice l i bs) j cs g' x) (at (splice l j cs) i bs f' x) a)
  where
    go : (x : ℕ) → At l i bs x → At l j cs x → At (splice l i bs) j cs x → At (splice l j cs) i bs x → Apart i (length bs) j (length cs)
        → get_or (splice (splice l i bs) j cs) x 0 ≡ get_or (splice (splice l j cs) i bs) x 0
    go x (outside o1 e1) (outside o2 e2) (outside o3 e3) (outside o4 e4) ap' = e3 ∙ e1 ∙ sym (e4 ∙ e2)
    go x (outside o1 e1) (outside o2 e2) (outside o3 e3) (inside k hk ek e4) ap' = absurd (not_both o1 hk ek)
    go x (outside o1 e1) (outside o2 e2) (inside k hk ek e3) r4 ap' = absurd (not_both o2 hk ek)
    go x (outside o1 e1) (inside k hk ek e2) (outside o3 e3) r4 ap' = absurd (not_both o3 hk ek)
    go x (outside o1 e1) (inside k hk ek e2) (inside k' hk' ek' e3) (outside o4 e4) ap' = e3 ∙ ap (λ (y : ℕ). get_or cs y 0) (omega arith) ∙ sym (e4 ∙ e2)
    go x (outside o1 e1) (inside k hk ek e2) (inside k' hk' ek' e3) (inside k4 hk4 ek4 e4) ap' = absurd (not_both o1 hk4 ek4)
    go x (inside k hk ek e1) r2 (outside o3 e3) (inside k4 hk4 ek4 e4) ap' = e3 ∙ e1 ∙ ap (λ (y : ℕ). get_or bs y 0) (omega arith) ∙ sym e4
    go x (inside k hk ek e1) r2 (outside o3 e3) (outside o4 e4) ap' = absurd (not_both o4 hk ek)
    go x (inside k hk ek e1) r2 (inside k3 hk3 ek3 e3) r4 ap' = absurd (clash ap' hk ek hk3 ek3)
