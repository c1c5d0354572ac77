-- The recovered queues: what is picked of the order by columns, and its places in the struct.
use Prim.Native.Nat.{ℕ, zero, suc, ◌+◌, ◌≤◌, ◌<◌}
use mathlib.Core.Path.{◌≡◌, refl, sym, ap, ◌∙◌}
use mathlib.Core.Bool.{Bool, true, false, not, ◌&&◌, true≢false}
use mathlib.Core.List.{List, [], ◌∷◌, ◌++◌, map}
use native.Mathlib.Numerals.{add-one}
use native.Mathlib.Omega.{arith}
use lib.ListN.{length, take, drop, get_or, length-append, length-map}
use lib.Seq.{take_at, length-take-le}
use lib.Dec.{eqb}
use borrow.Author.Tests.{eq-eqb, ne_eqb}
use Rattle.std.specs.Prelude.{if◌then◌else◌}
use Rattle.lists.specs.Lists.{keep, member, times, below}
use Rattle.lists.proofs.Tests.{and_left}
use Rattle.lists.proofs.Counts.{length_once, times_self, times_cons}
use Rattle.lists.proofs.Orders.{kept_below}
use Rattle.lists.proofs.Filters.{keep_both, keep_agree, keep_all, member_kept}
use Rattle.model.specs.declared.Sizes.{Sizes}
use Rattle.model.specs.Sizes.{Device, body}
use Rattle.model.specs.Image.{used, back_of, is_write}
use Rattle.model.specs.State.{queued}
use Rattle.model.specs.Recover.{buckets, by_epoch, among_newest, newest, is_chosen, is_only, kept_writes, is_dropped_write, is_remaining, kept_copies, is_dropped_copy, is_old_copy, is_spent, kept_read, kept_write, rebuilt}
use Rattle.model.proofs.Limits.{Limits}
use Rattle.model.proofs.Formed.{Formed}
use Rattle.model.proofs.BucketKinds.{complete-copy, copy-used, write-used}
use Rattle.model.proofs.RecoverChoice.{chosen_of, old_is, dropped_copy, dropped_write}
use Rattle.model.proofs.Inside.{places_queued}
use Rattle.model.proofs.RecoverQueues.{once_recovered, few_reads_recovered, few_writes_recovered}
use Rattle.rescue.proofs.Standing.{order_length, column-length}
use Rattle.classes.specs.Columns.{nowhere, in_order, named, column, is_named}
use Rattle.classes.proofs.Columns.{below-nowhere, is_named_lem}
use Rattle.classes.proofs.Orders.{filtered, in_order_lem}
use Rattle.recover.specs.Kept.{picked, differing, retired}

-- ---- one turn of a loop

pub picked_more : (m l : List ℕ) (i : ℕ) → length m ≡ length l → i < length m → (u : Bool) → is_named (get_or m i 0) ≡ u
    → picked (take (i + 1) m) (take (i + 1) l) ≡ picked (take i m) (take i l) ++ (if u then get_or l i 0 ∷ [] else [])
unfolding picked
picked_more [] l i e h u t = absurd (omega arith)
picked_more (b ∷ m) [] i e h u t = absurd (omega arith)
picked_more (b ∷ m) (c ∷ l) zero e h true t = rw t
picked_more (b ∷ m) (c ∷ l) zero e h false t = rw t
picked_more (b ∷ m) (c ∷ l) (suc i) e h u t = rw (add-one (suc i)) (go (is_named b) (rw (add-one i) at (picked_more m l i (omega arith) (omega arith) u t)))
  where
    go : (v : Bool) → picked (take (suc i) m) (take (suc i) l) ≡ picked (take i m) (take i l) ++ (if u then get_or l i 0 ∷ [] else [])
        → (if v then c ∷ picked (take (suc i) m) (take (suc i) l) else picked (take (suc i) m) (take (suc i) l))
        ≡ (if v then c ∷ picked (take i m) (take i l) else picked (take i m) (take i l)) ++ (if u then get_or l i 0 ∷ [] else [])
    go true r = ap (λ (k : List ℕ). c ∷ k) r
    go false r = r

-- one that is picked has a place
pub picked_room : (m l : List ℕ) (i : ℕ) → length m ≡ length l → i < length m → is_named (get_or m i 0) ≡ true
    → length (picked (take i m) (take i l)) < length (picked m l)
unfolding picked
picked_room [] l i e h t = absurd (omega arith)
picked_room (b ∷ m) [] i e h t = absurd (omega arith)
picked_room (b ∷ m) (c ∷ l) zero e h t = rw t (omega arith)
picked_room (b ∷ m) (c ∷ l) (suc i) e h t = go (is_named b) (picked_room m l i (omega arith) (omega arith) t)
  where
    go : (v : Bool) → length (picked (take i m) (take i l)) < length (picked m l)
        → length (if v then c ∷ picked (take i m) (take i l) else picked (take i m) (take i l)) < length (if v then c ∷ picked m l else picked m l)
    go true r = omega arith
    go false r = r

-- ---- the same where two columns differ

pub differing_more : (m n l : List ℕ) (i : ℕ) → length m ≡ length l → length n ≡ length l → i < length l → (u : Bool) → eqb (get_or m i 0) (get_or n i 0) ≡ u
    → differing (take (i + 1) m) (take (i + 1) n) (take (i + 1) l) ≡ differing (take i m) (take i n) (take i l) ++ (if u then [] else get_or l i 0 ∷ [])
unfolding differing
differing_more m n [] i e f h u t = absurd (omega arith)
differing_more [] n (c ∷ l) i e f h u t = absurd (omega arith)
differing_more (b ∷ m) [] (c ∷ l) i e f h u t = absurd (omega arith)
differing_more (b ∷ m) (d ∷ n) (c ∷ l) zero e f h true t = rw t
differing_more (b ∷ m) (d ∷ n) (c ∷ l) zero e f h false t = rw t
differing_more (b ∷ m) (d ∷ n) (c ∷ l) (suc i) e f h u t =
    rw (add-one (suc i)) (go (eqb b d) (rw (add-one i) at (differing_more m n l i (omega arith) (omega arith) (omega arith) u t)))
  where
    go : (v : Bool) → differing (take (suc i) m) (take (suc i) n) (take (suc i) l) ≡ differing (take i m) (take i n) (take i l) ++ (if u then [] else get_or l i 0 ∷ [])
        → (if v then differing (take (suc i) m) (take (suc i) n) (take (suc i) l) else c ∷ differing (take (suc i) m) (take (suc i) n) (take (suc i) l))
        ≡ (if v then differing (take i m) (take i n) (take i l) else c ∷ differing (take i m) (take i n) (take i l)) ++ (if u then [] else get_or l i 0 ∷ [])
    go true r = r
    go false r = ap (λ (k : List ℕ). c ∷ k) r

pub differing_room : (m n l : List ℕ) (i : ℕ) → length m ≡ length l → length n ≡ length l → i < length l → eqb (get_or m i 0) (get_or n i 0) ≡ false
    → length (differing (take i m) (take i n) (take i l)) < length (differing m n l)
unfolding differing
differing_room m n [] i e f h t = absurd (omega arith)
differing_room [] n (c ∷ l) i e f h t = absurd (omega arith)
differing_room (b ∷ m) [] (c ∷ l) i e f h t = absurd (omega arith)
differing_room (b ∷ m) (d ∷ n) (c ∷ l) zero e f h t = rw t (omega arith)
differing_room (b ∷ m) (d ∷ n) (c ∷ l) (suc i) e f h t = go (eqb b d) (differing_room m n l i (omega arith) (omega arith) (omega arith) t)
  where
    go : (v : Bool) → length (differing (take i m) (take i n) (take i l)) < length (differing m n l)
        → length (if v then differing (take i m) (take i n) (take i l) else c ∷ differing (take i m) (take i n) (take i l)) < length (if v then differing m n l else c ∷ differing m n l)
    go true r = r
    go false r = omega arith

-- ---- what is picked

module _ (z : Sizes) (d : Device) (limits : Limits z) (formed : Formed z d) where
  picked-named : (t : ℕ → Bool) (l : List ℕ) → ((c : ℕ) → 1 ≤ times c l → 1 ≤ times c (in_order z d)) → picked (map (named z d t) l) l ≡ keep t l
  unfolding picked keep
  picked-named t [] h = refl
  picked-named t (c ∷ l) h = rw (
    is_named_lem z d limits formed t c (h c (omega (arith, times_cons c c l, times_self c))),
    picked-named t l (λ x q. h x (omega (arith, times_cons x c l))),
  )

  -- the buckets that pass a test, by epoch
  pub picked-column : (t : ℕ → Bool) → ((c : ℕ) → t c ≡ true → used z d c ≡ true) → picked (column z d t) (in_order z d) ≡ by_epoch z d (buckets z d t)
  picked-column t h = picked-named t (in_order z d) (λ c q. q) ∙ sym (filtered z d t h)

  -- those that pass one test and not another
  module _ (s u : ℕ → Bool) (within : (c : ℕ) → u c ≡ true → s c ≡ true) where
    one : (c : ℕ) → 1 ≤ times c (in_order z d) → eqb (named z d s c) (named z d u c) ≡ not (s c && not (u c))
    one c q = go (s c) refl (u c) refl
      where
        go : (a : Bool) → s c ≡ a → (b : Bool) → u c ≡ b → eqb (if a then back_of z d c else nowhere) (if b then back_of z d c else nowhere) ≡ not (a && not b)
        go true e true f = eq-eqb (back_of z d c) (back_of z d c) refl
        go true e false f = let p = in_order_lem z d c q in ne_eqb (back_of z d c) nowhere (λ g. omega (arith, below-nowhere z d limits formed c p.1 p.0))
        go false e true f = absurd (true≢false (sym (within c f) ∙ e))
        go false e false f = refl

    differing-named : (l : List ℕ) → ((c : ℕ) → 1 ≤ times c l → 1 ≤ times c (in_order z d)) → differing (map (named z d s) l) (map (named z d u) l) l ≡ keep (λ c. s c && not (u c)) l
    unfolding differing keep
    differing-named [] h = refl
    differing-named (c ∷ l) h =
        rw (one c (h c (omega (arith, times_cons c c l, times_self c))), differing-named l (λ x q. h x (omega (arith, times_cons x c l)))) (turned (s c && not (u c)))
      where
        turned : (v : Bool) → (if not v then keep (λ c. s c && not (u c)) l else c ∷ keep (λ c. s c && not (u c)) l) ≡ (if v then c ∷ keep (λ c. s c && not (u c)) l else keep (λ c. s c && not (u c)) l)
        turned true = refl
        turned false = refl

    pub differing-column : ((c : ℕ) → s c ≡ true → used z d c ≡ true)
        → differing (column z d s) (column z d u) (in_order z d) ≡ by_epoch z d (buckets z d (λ c. s c && not (u c)))
    differing-column h = differing-named (in_order z d) (λ c q. q) ∙ sym (filtered z d (λ c. s c && not (u c)) (λ c e. h c (and_left (s c) (not (u c)) e)))

-- ---- the GC queue, group by group

module _ (z : Sizes) (d : Device) where
  -- a column beside the order, filled in the front of an array and lent again
  pub column_again : (t : ℕ → Bool) {order : List ℕ} → order ≡ in_order z d → (room : List ℕ) {last : List ℕ} → last ≡ column z d t
      → take (length order) (last ++ drop (length order) room) ≡ column z d t
  column_again t {order} o room {last} e = take_at last (drop (length order) room) (length order) (column-length z d t o e) ∙ e

  -- the front of an array that is lent for a column
  module _ (limits : Limits z) {order : List ℕ} (o : order ≡ in_order z d) (room : List ℕ) (size : length room ≡ 256) where
    pub room-fits : length order ≤ length room
    room-fits = omega (arith, size, order_length z d limits o)

    pub room-length : length (take (length order) room) ≡ length order
    room-length = length-take-le (length order) room room-fits

  abbrev pub spent : List ℕ
  spent = buckets z d (is_spent z d)

  abbrev pub old_copies : List ℕ
  old_copies = by_epoch z d (buckets z d (is_old_copy z d))

  abbrev pub dropped_copies : List ℕ
  dropped_copies = by_epoch z d (buckets z d (is_dropped_copy z d))

  abbrev pub dropped_writes : List ℕ
  dropped_writes = by_epoch z d (buckets z d (is_dropped_write z d))

  -- all buckets below body stand in the queues, each once
  total : length (queued (rebuilt z d 0).state) ≡ body z
  total = length_once (body z) (queued (rebuilt z d 0).state) (λ c. places_queued (rebuilt z d 0).state c ∙ once_recovered z d 0 c)

  pub gc_fits : length spent + (length old_copies + (length dropped_copies + length dropped_writes)) ≤ body z
  unfolding queued rebuilt
  gc_fits = let t = total in omega (arith, simp length-append at t)

  pub gc_is : spent ++ (old_copies ++ (dropped_copies ++ dropped_writes)) ≡ retired z d
  unfolding retired
  gc_is = refl

module _ (z : Sizes) (d : Device) (limits : Limits z) (formed : Formed z d) where
  pub picked_old : picked (column z d (is_old_copy z d)) (in_order z d) ≡ old_copies z d
  picked_old = picked-column z d limits formed (is_old_copy z d) (λ c e. copy-used z d c (old_is z d c e).0)

  pub picked_copies : picked (column z d (is_dropped_copy z d)) (in_order z d) ≡ dropped_copies z d
  picked_copies = picked-column z d limits formed (is_dropped_copy z d) (λ c e. copy-used z d c (complete-copy z d c (dropped_copy z d c e).0.is_complete))

  pub picked_writes : picked (column z d (is_dropped_write z d)) (in_order z d) ≡ dropped_writes z d
  picked_writes = picked-column z d limits formed (is_dropped_write z d) (λ c e. write-used z d c (dropped_write z d c e).0)

  -- ---- the kept ones

  module _ (n : ℕ) (t s : ℕ → Bool) (within : (c : ℕ) → t c ≡ true → s c ≡ true) where
    abbrev is_dropped : ℕ → Bool
    is_dropped c = s c && not (member c (newest z d n (buckets z d t)))

    kept_buckets : buckets z d (λ c. s c && not (is_dropped c)) ≡ newest z d n (buckets z d t)
    unfolding newest buckets
    kept_buckets =
        keep_agree (λ c. s c && not (is_dropped c)) kept (below (body z)) (λ c q. ap (λ (m : Bool). s c && not (s c && not m)) (below_in c q) ∙ go c (t c) refl (among_newest z d n (buckets z d t) c))
        ∙ keep_both t (among_newest z d n (buckets z d t)) (below (body z))
      where
        kept : ℕ → Bool
        kept c = t c && among_newest z d n (buckets z d t) c

        below_in : (c : ℕ) → 1 ≤ times c (below (body z)) → member c (newest z d n (buckets z d t)) ≡ kept c
        below_in c q =
            ap (member c) (sym (keep_both t (among_newest z d n (buckets z d t)) (below (body z))))
            ∙ member_kept kept c (body z) (kept_below (λ x. true) c (body z) (rw (keep_all (λ x. true) (below (body z)) (λ x r. refl)) q)).1

        both : (a : Bool) → (a && not (a && true)) ≡ false
        both true = refl
        both false = refl

        go : (c : ℕ) (u : Bool) → t c ≡ u → (v : Bool) → (s c && not (s c && not (u && v))) ≡ (u && v)
        go c true f true = rw (within c f)
        go c true f false = both (s c)
        go c false f v = both (s c)

    kept_column : ((c : ℕ) → s c ≡ true → used z d c ≡ true) → differing (column z d s) (column z d is_dropped) (in_order z d) ≡ by_epoch z d (newest z d n (buckets z d t))
    kept_column h = differing-column z d limits formed s is_dropped (λ c e. and_left (s c) _ e) h ∙ ap (by_epoch z d) kept_buckets

  chosen-used : (c : ℕ) → is_chosen z d c ≡ true → used z d c ≡ true
  chosen-used c e = copy-used z d c (complete-copy z d c (chosen_of z d c e).is_complete)

  pub kept_copies_lem : differing (column z d (is_chosen z d)) (column z d (is_dropped_copy z d)) (in_order z d) ≡ by_epoch z d (kept_copies z d)
  unfolding is_dropped_copy kept_copies is_remaining
  kept_copies_lem = kept_column z.r (is_remaining z d) (is_chosen z d) (λ c e. and_left (is_chosen z d c) _ e) chosen-used

  pub kept_writes_lem : differing (column z d (is_write z d)) (column z d (is_dropped_write z d)) (in_order z d) ≡ by_epoch z d (kept_writes z d)
  unfolding is_dropped_write kept_writes is_only
  kept_writes_lem = kept_column z.w (is_only z d) (is_write z d) (λ c e. and_left (is_write z d c) _ e) (write-used z d)

  -- they have places in the struct's queues
  pub few_copies : length (by_epoch z d (kept_copies z d)) ≤ 64
  unfolding rebuilt
  few_copies = omega (arith, length-map (by_epoch z d (kept_copies z d)) (kept_read z d), few_reads_recovered z d formed 0, limits.r_high)

  pub few_writes : length (by_epoch z d (kept_writes z d)) ≤ 64
  unfolding rebuilt
  few_writes = omega (arith, length-map (by_epoch z d (kept_writes z d)) (kept_write z d), few_writes_recovered z d formed 0, limits.w_high)
