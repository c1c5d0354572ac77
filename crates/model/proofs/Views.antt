-- What a chip and a disk show of confirmed bytes, and what keeps them: the crash reasoning, free of bytes and places.
use Prim.Native.Nat.{ℕ, ◌≤◌, ◌<◌}
use mathlib.Core.Path.{◌≡◌, sym, ap, ◌∙◌, subst}
use mathlib.Core.Logic.{◌⊎◌, inl, inr, ◌≢◌}
use mathlib.Core.Bool.{Bool, true, false, true≢false}
use mathlib.Core.Option.{Option, none, some}
use native.Mathlib.Omega.{arith}
use native.Mathlib.Decide.{ℕ_discrete}

-- gives c b i: what the complete logs of the cache bucket c give byte i of the back-end bucket b
-- age c: its epoch; holds c b: it is a complete copy of b
pub record View : Type 0 where
  pub gives : ℕ → ℕ → ℕ → Option ℕ
  pub age : ℕ → ℕ
  pub holds : ℕ → ℕ → Bool
  pub dirty : ℕ → Bool
  pub bytes : ℕ → ℕ → ℕ
  pub disk : ℕ → ℕ → ℕ

-- byte i of b is x: the newest log over it, or the base's byte
pub data Lay (v : View) (b : ℕ) (f : ℕ → ℕ) (i x : ℕ) : Type 0 where
  top : (c : ℕ) → v.gives c b i ≡ some x → ((c' : ℕ) → v.age c < v.age c' → v.gives c' b i ≡ none) → Lay v b f i x
  bare : ((c : ℕ) → v.gives c b i ≡ none) → f i ≡ x → Lay v b f i x

abbrev pub Newest : View → ℕ → ℕ → Type 0
Newest v b c = (v.holds c b ≡ true) × ((c' : ℕ) → v.holds c' b ≡ true → v.age c' ≤ v.age c)

pub data SafeAt (v : View) (b : ℕ) (plain : ℕ → ℕ) : Type 0 where
  copied : (c : ℕ) → Newest v b c → ((i : ℕ) → Lay v b (v.bytes c) i (plain i))
      → (v.dirty c ≡ false → (i : ℕ) → Lay v b (v.disk b) i (plain i)) → SafeAt v b plain
  uncopied : ((c : ℕ) → v.holds c b ≡ false) → ((i : ℕ) → Lay v b (v.disk b) i (plain i)) → SafeAt v b plain

-- ---- bases

pub lay_base : {v : View} {b i x : ℕ} {f g : ℕ → ℕ} → Lay v b f i x → (g i ≡ f i) ⊎ (g i ≡ x) → Lay v b g i x
lay_base (top c e n) h = top c e n
lay_base (bare n e) (inl h) = bare n (h ∙ e)
lay_base (bare n e) (inr h) = bare n h

pub none≢some : {x : ℕ} → ◌≡◌ {A = Option ℕ} none (some x) → ⊥
none≢some {x} e = let z : ◌≡◌ {A = ℕ} 0 1 = cc in omega arith

-- ---- a change that leaves what counts

-- what bucket c gives byte i of b is the same in w as in v, at the same age; or nothing
pub data Quiet (v w : View) (b i c : ℕ) : Type 0 where
  same : w.gives c b i ≡ v.gives c b i → w.age c ≡ v.age c → Quiet v w b i c
  silent : v.gives c b i ≡ none → w.gives c b i ≡ none → Quiet v w b i c

-- as a copy of b, bucket c is the same; or it is none
pub data Kept (v w : View) (b c : ℕ) : Type 0 where
  alike : w.holds c b ≡ v.holds c b → w.age c ≡ v.age c → w.dirty c ≡ v.dirty c → ((i : ℕ) → w.bytes c i ≡ v.bytes c i) → Kept v w b c
  apart : v.holds c b ≡ false → w.holds c b ≡ false → Kept v w b c

pub gives_quiet : {v w : View} {b i c : ℕ} → Quiet v w b i c → w.gives c b i ≡ v.gives c b i
gives_quiet (same e a) = e
gives_quiet (silent e a) = a ∙ sym e

pub lay_quiet : {v w : View} {b i x : ℕ} {f : ℕ → ℕ} → ((c : ℕ) → Quiet v w b i c) → Lay v b f i x → Lay w b f i x
lay_quiet {v} {w} {b} {i} {x} q (top c e n) = top c (gives_quiet (q c) ∙ e) (λ c' h. other c' h (q c') (q c))
  where
    other : (c' : ℕ) → w.age c < w.age c' → Quiet v w b i c' → Quiet v w b i c → w.gives c' b i ≡ none
    other c' h (silent e' a') r = a'
    other c' h (same e' a') (silent e'' a'') = absurd (none≢some (sym e'' ∙ e))
    other c' h (same e' a') (same e'' a'') = e' ∙ n c' (omega arith)
lay_quiet q (bare n e) = bare (λ c. gives_quiet (q c) ∙ n c) e

pub holds_kept : {v w : View} {b c : ℕ} → Kept v w b c → w.holds c b ≡ v.holds c b
holds_kept (alike h a d y) = h
holds_kept (apart h k) = k ∙ sym h

newest_kept : {v w : View} {b c : ℕ} → ((c : ℕ) → Kept v w b c) → w.age c ≡ v.age c → Newest v b c → Newest w b c
newest_kept {v} {w} {b} {c} k e nw = (holds_kept (k c) ∙ nw.0, λ c' h. older c' h (k c'))
  where
    older : (c' : ℕ) → w.holds c' b ≡ true → Kept v w b c' → w.age c' ≤ w.age c
    older c' h (apart u t) = absurd (true≢false (sym h ∙ t))
    older c' h (alike u a d y) = let g : v.age c' ≤ v.age c = nw.1 c' (sym u ∙ h) in omega arith

module _ (v w : View) (b : ℕ) (plain plain' : ℕ → ℕ) where
  -- the disk's bytes stay or become the plain ones; each byte's logs go from the old plain byte to the new one
  pub safe_move : ((i : ℕ) (f : ℕ → ℕ) → Lay v b f i (plain i) → Lay w b f i (plain' i)) → ((c : ℕ) → Kept v w b c)
      → ((i : ℕ) → (w.disk b i ≡ v.disk b i) ⊎ (w.disk b i ≡ plain' i)) → SafeAt v b plain → SafeAt w b plain'
  safe_move lm k hd (uncopied n l) = uncopied (λ c. holds_kept (k c) ∙ n c) (λ i. lay_base (lm i (v.disk b) (l i)) (hd i))
  safe_move lm k hd (copied c nw l ld) = go (k c)
    where
      go : Kept v w b c → SafeAt w b plain'
      go (apart u t) = absurd (true≢false (sym nw.0 ∙ u))
      go (alike u a y e) = copied c (newest_kept k a nw) (λ i. lay_base (lm i (v.bytes c) (l i)) (inl (e i)))
          (λ nd i. lay_base (lm i (v.disk b) (ld (sym y ∙ nd) i)) (hd i))

-- every log stays
pub safe_still : (v w : View) (b : ℕ) (plain : ℕ → ℕ) → ((c i : ℕ) → Quiet v w b i c) → ((c : ℕ) → Kept v w b c)
    → ((i : ℕ) → (w.disk b i ≡ v.disk b i) ⊎ (w.disk b i ≡ plain i)) → SafeAt v b plain → SafeAt w b plain
safe_still v w b plain q k hd s = safe_move v w b plain plain (λ i f l. lay_quiet (λ c. q c i) l) k hd s

-- bucket c₀, newer than all others that give to b, gets a log
pub safe_log : (v w : View) (b : ℕ) (plain plain' : ℕ → ℕ) (c₀ : ℕ)
    → ((c i : ℕ) → c ≢ c₀ → Quiet v w b i c)
    → ((i : ℕ) → (w.gives c₀ b i ≡ some (plain' i)) ⊎ (Quiet v w b i c₀ × (plain' i ≡ plain i)))
    → ((c i : ℕ) → c ≢ c₀ → (w.gives c b i ≡ none) ⊎ (w.age c ≤ w.age c₀))
    → ((c : ℕ) → Kept v w b c) → ((i : ℕ) → w.disk b i ≡ v.disk b i) → SafeAt v b plain → SafeAt w b plain'
safe_log v w b plain plain' c₀ q new older k hd s = safe_move v w b plain plain' (λ i f l. move i f l (new i)) k (λ i. inl (hd i)) s
  where
    none_newer : (c i : ℕ) → w.age c₀ < w.age c → Dec (c ≡ c₀) → w.gives c b i ≡ none
    none_newer c i h (yes e) = absurd (omega (arith, ap w.age e))
    none_newer c i h (no ne) = pick (older c i ne)
      where
        pick : (w.gives c b i ≡ none) ⊎ (w.age c ≤ w.age c₀) → w.gives c b i ≡ none
        pick (inl e) = e
        pick (inr a) = absurd (omega arith)

    quiet : (i : ℕ) → Quiet v w b i c₀ → (c : ℕ) → Dec (c ≡ c₀) → Quiet v w b i c
    quiet i q₀ c (yes e) = subst (λ (y : ℕ). Quiet v w b i y) (sym e) q₀
    quiet i q₀ c (no ne) = q c i ne

    move : (i : ℕ) (f : ℕ → ℕ) → Lay v b f i (plain i) → (w.gives c₀ b i ≡ some (plain' i)) ⊎ (Quiet v w b i c₀ × (plain' i ≡ plain i)) → Lay w b f i (plain' i)
    move i f l (inl e) = top c₀ e (λ c h. none_newer c i h (ℕ_discrete c c₀))
    move i f l (inr (q₀)) = rw q₀.1 (lay_quiet (λ c. quiet i q₀.0 c (ℕ_discrete c c₀)) l)

pub lay_of : {v : View} {b : ℕ} {plain : ℕ → ℕ} → SafeAt v b plain → (i : ℕ) → (f : ℕ → ℕ) → f i ≡ plain i → Lay v b f i (plain i)
lay_of (copied c nw l ld) i f e = lay_base (l i) (inr e)
lay_of (uncopied n l) i f e = lay_base (l i) (inr e)

-- bucket c₀ becomes a complete copy with the plain bytes
pub safe_copy : (v w : View) (b : ℕ) (plain : ℕ → ℕ) (c₀ : ℕ)
    → ((c i : ℕ) → Quiet v w b i c) → w.holds c₀ b ≡ true → ((c : ℕ) → w.holds c b ≡ true → w.age c ≤ w.age c₀)
    → ((i : ℕ) → w.bytes c₀ i ≡ plain i) → ((i : ℕ) → w.disk b i ≡ v.disk b i)
    → (w.dirty c₀ ≡ false → (i : ℕ) → Lay v b (v.disk b) i (plain i))
    → SafeAt v b plain → SafeAt w b plain
safe_copy v w b plain c₀ q h nw e hd d s = copied c₀ (h, nw) (λ i. lay_quiet (λ c. q c i) (lay_of s i (w.bytes c₀) (e i)))
    (λ nd i. lay_base (lay_quiet (λ c. q c i) (d nd i)) (inl (hd i)))

-- what a Read copy needs: the logs over the disk give the plain bytes, where fewer logs do
pub lay_disk : (v w : View) (b : ℕ) (plain : ℕ → ℕ) → ((c i : ℕ) → v.gives c b i ≡ none → w.gives c b i ≡ none) → ((i : ℕ) → w.disk b i ≡ v.disk b i)
    → SafeAt v b plain → ((i : ℕ) → Lay w b (w.disk b) i (plain i)) → (i : ℕ) → Lay v b (v.disk b) i (plain i)
lay_disk v w b plain fewer hd s lw i = go (lay_any s) (lw i)
  where
    lay_any : SafeAt v b plain → (f : ℕ → ℕ) × Lay v b f i (plain i)
    lay_any (copied c nw l ld) = (v.bytes c, l i)
    lay_any (uncopied n l) = (v.disk b, l i)

    go : ((f : ℕ → ℕ) × Lay v b f i (plain i)) → Lay w b (w.disk b) i (plain i) → Lay v b (v.disk b) i (plain i)
    go l r = pick l.1 r
      where
        pick : Lay v b l.0 i (plain i) → Lay w b (w.disk b) i (plain i) → Lay v b (v.disk b) i (plain i)
        pick (top c e n) r' = top c e n
        pick (bare n e) (top c e' n') = absurd (none≢some (sym (fewer c i (n c)) ∙ e'))
        pick (bare n e) (bare n' e') = bare n (sym (hd i) ∙ e')

-- the last bucket that gives to b leaves, where the base has the plain bytes
pub safe_drop : (w : View) (b : ℕ) (plain : ℕ → ℕ) → ((c i : ℕ) → w.gives c b i ≡ none)
    → ((c : ℕ) × Newest w b c × ((i : ℕ) → w.bytes c i ≡ plain i) × (w.dirty c ≡ true)) ⊎ (((c : ℕ) → w.holds c b ≡ false) × ((i : ℕ) → w.disk b i ≡ plain i))
    → SafeAt w b plain
safe_drop w b plain n (inl (t)) = copied t.0 t.1 (λ i. bare (λ c. n c i) (t.2 i)) (λ nd. absurd (true≢false (sym t.3 ∙ nd)))
safe_drop w b plain n (inr t) = uncopied t.0 (λ i. bare (λ c. n c i) (t.1 i))

-- where b's newest copy is Dirty, the disk's bytes of b are free
pub safe_any_disk : (v w : View) (b : ℕ) (plain : ℕ → ℕ) → ((c i : ℕ) → Quiet v w b i c) → ((c : ℕ) → Kept v w b c)
    → (c₀ : ℕ) → v.holds c₀ b ≡ true → ((c : ℕ) → Newest v b c → v.dirty c ≡ true) → SafeAt v b plain → SafeAt w b plain
safe_any_disk v w b plain q k c₀ h₀ d (uncopied n l) = absurd (true≢false (sym h₀ ∙ n c₀))
safe_any_disk v w b plain q k c₀ h₀ d (copied c nw l ld) = go (k c)
  where
    go : Kept v w b c → SafeAt w b plain
    go (apart u t) = absurd (true≢false (sym nw.0 ∙ u))
    go (alike u a y e) = copied c (newest_kept k a nw) (λ i. lay_base (lay_quiet (λ c'. q c' i) (l i)) (inl (e i)))
        (λ nd. absurd (true≢false (sym (d c nw) ∙ sym y ∙ nd)))
