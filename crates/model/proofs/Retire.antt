-- Buckets that leave the chip: when erasing a set of them keeps what is confirmed, free of bytes and places.
use Prim.Native.Nat.{ℕ, ◌≤◌, ◌<◌}
use mathlib.Core.Path.{◌≡◌, refl, sym, ◌∙◌}
use mathlib.Core.Logic.{inl, inr}
use mathlib.Core.Bool.{Bool, true, false, true≢false}
use mathlib.Core.Option.{Option, none, some}
use native.Mathlib.Omega.{arith}
use Rattle.model.proofs.Views.{View, Lay, top, bare, SafeAt, copied, uncopied, Newest, Quiet, same, silent, lay_quiet, lay_base, none≢some}

-- what is never some is none
pub none_unless : {o : Option ℕ} → ((x : ℕ) → o ≡ some x → ⊥) → o ≡ none
none_unless {o} h = go o refl
  where
    go : (v : Option ℕ) → o ≡ v → o ≡ none
    go none e = e
    go (some x) e = absurd (h x e)

-- w is v without the buckets of a set
pub record Without (v w : View) (In : ℕ → Type 0) : Type 0 where
  pub decide : (c : ℕ) → Dec (In c)
  pub gives_gone : (c b i : ℕ) → In c → w.gives c b i ≡ none
  pub holds_gone : (c b : ℕ) → In c → w.holds c b ≡ false
  pub gives_left : (c b i : ℕ) → ¬ (In c) → w.gives c b i ≡ v.gives c b i
  pub holds_left : (c b : ℕ) → ¬ (In c) → w.holds c b ≡ v.holds c b
  pub age_left : (c : ℕ) → ¬ (In c) → w.age c ≡ v.age c
  pub dirty_left : (c : ℕ) → ¬ (In c) → w.dirty c ≡ v.dirty c
  pub bytes_left : (c i : ℕ) → ¬ (In c) → w.bytes c i ≡ v.bytes c i
  pub disk_left : (b i : ℕ) → w.disk b i ≡ v.disk b i

module _ {v w : View} {In : ℕ → Type 0} (e : Without v w In) (b : ℕ) (plain : ℕ → ℕ) where
  -- no bucket of the set has a log of b
  abbrev pub Logless : Type 0
  Logless = (c i : ℕ) → In c → v.gives c b i ≡ none

  -- the set has all copies of b
  abbrev pub Copyless : Type 0
  Copyless = (c : ℕ) → v.holds c b ≡ true → In c

  quiet : Logless → (c i : ℕ) → Quiet v w b i c
  quiet h c i = go (e.decide c)
    where
      go : Dec (In c) → Quiet v w b i c
      go (yes q) = silent (h c i q) (e.gives_gone c b i q)
      go (no q) = same (e.gives_left c b i q) (e.age_left c q)

  none_held : Copyless → (c : ℕ) → w.holds c b ≡ false
  none_held h c = go (e.decide c) (w.holds c b) refl
    where
      go : Dec (In c) → (t : Bool) → w.holds c b ≡ t → w.holds c b ≡ false
      go (yes q) t r = e.holds_gone c b q
      go (no q) false r = r
      go (no q) true r = absurd (q (h c (sym (e.holds_left c b q) ∙ r)))

  newest_left : (c : ℕ) → ¬ (In c) → Newest v b c → Newest w b c
  newest_left c ne n = (e.holds_left c b ne ∙ n.0, λ x h. go x h (e.decide x))
    where
      go : (x : ℕ) → w.holds x b ≡ true → Dec (In x) → w.age x ≤ w.age c
      go x h (yes q) = absurd (true≢false (sym h ∙ e.holds_gone x b q))
      go x h (no q) = let r : v.age x ≤ v.age c = n.1 x (sym (e.holds_left x b q) ∙ h) in omega (arith, e.age_left x q, e.age_left c ne)

  -- the set has no log and not the newest copy of b
  pub retire_others : Logless → ((c : ℕ) → Newest v b c → ¬ (In c)) → SafeAt v b plain → SafeAt w b plain
  retire_others h out (copied c n l d) =
      let ne = out c n in
      copied c (newest_left c ne n) (λ i. lay_base (lay_quiet (λ x. quiet h x i) (l i)) (inl (e.bytes_left c i ne)))
      (λ nd i. lay_base (lay_quiet (λ x. quiet h x i) (d (sym (e.dirty_left c ne) ∙ nd) i)) (inl (e.disk_left b i)))
  retire_others h out (uncopied n l) =
      uncopied (none_held (λ c q. absurd (true≢false (sym q ∙ n c)))) (λ i. lay_base (lay_quiet (λ x. quiet h x i) (l i)) (inl (e.disk_left b i)))

  -- the set has no log of b and all its copies, and b's logs over the disk give the plain bytes
  pub retire_copies : Logless → Copyless → ((i : ℕ) → Lay v b (v.disk b) i (plain i)) → SafeAt w b plain
  retire_copies h k l = uncopied (none_held k) (λ i. lay_base (lay_quiet (λ x. quiet h x i) (l i)) (inl (e.disk_left b i)))

  -- the set has all copies of b and its oldest logs, and the disk has the plain bytes
  pub retire_logs : Copyless → ((i : ℕ) → v.disk b i ≡ plain i)
      → ((c x i y y' : ℕ) → In c → ¬ (In x) → v.gives c b i ≡ some y → v.gives x b i ≡ some y' → v.age c < v.age x)
      → SafeAt v b plain → SafeAt w b plain
  retire_logs k disk oldest s = uncopied (none_held k) (λ i. at i (lay s i))
    where
      lay : SafeAt v b plain → (i : ℕ) → Lay v b (v.disk b) i (plain i)
      lay (copied c n l d) i = lay_base (l i) (inr (disk i))
      lay (uncopied n l) i = l i

      at : (i : ℕ) → Lay v b (v.disk b) i (plain i) → Lay w b (w.disk b) i (plain i)
      at i (bare n q) = bare (λ c. none_of c (e.decide c)) (e.disk_left b i ∙ q)
        where
          none_of : (c : ℕ) → Dec (In c) → w.gives c b i ≡ none
          none_of c (yes r) = e.gives_gone c b i r
          none_of c (no r) = e.gives_left c b i r ∙ n c
      at i (top c q n) = go (e.decide c)
        where
          newer : ¬ (In c) → (x : ℕ) → w.age c < w.age x → Dec (In x) → w.gives x b i ≡ none
          newer ne x h (yes r) = e.gives_gone x b i r
          newer ne x h (no r) = e.gives_left x b i r ∙ n x (omega (arith, e.age_left x r, e.age_left c ne))

          rest : In c → (x : ℕ) → Dec (In x) → w.gives x b i ≡ none
          rest y x (yes r) = e.gives_gone x b i r
          rest y x (no r) = e.gives_left x b i r ∙ none_unless (λ u g. none≢some (sym (n x (oldest c x i (plain i) u y r q g)) ∙ g))

          go : Dec (In c) → Lay w b (w.disk b) i (plain i)
          go (no r) = top c (e.gives_left c b i r ∙ q) (λ x h. newer r x h (e.decide x))
          go (yes r) = bare (λ x. rest r x (e.decide x)) (e.disk_left b i ∙ disk i)
