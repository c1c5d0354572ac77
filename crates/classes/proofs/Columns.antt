-- Columns that are worked out from columns are those of recovery's choices.
use Prim.Native.Nat.{ℕ, suc, ◌+◌, ◌≤◌, ◌<◌}
use mathlib.Core.Path.{◌≡◌, refl, sym, ap, ap₂, fun_ext, ◌∙◌}
use mathlib.Core.Bool.{Bool, true, false, not, ◌&&◌, ◌||◌, true≢false}
use mathlib.Core.List.{List, [], ◌∷◌, ◌++◌, map, map-map, append_assoc}
use native.Mathlib.Omega.{arith}
use native.Mathlib.Decide.{ℕ_discrete, dec_lt}
use lib.ListN.{length}
use lib.Dec.{ltb, eqb}
use borrow.Author.Tests.{eq-eqb, ne_eqb, eqb-true, lt-ltb, ltb-true, not-true}
use Rattle.std.specs.Prelude.{if◌then◌else◌}
use Rattle.lists.specs.Lists.{any, keep, below, member, times}
use Rattle.lists.proofs.Tests.{and_left, and_right, and-true, same_truth}
use Rattle.lists.proofs.Rows.{below_all}
use Rattle.lists.proofs.Counts.{times_self, times_cons, times_append}
use Rattle.lists.proofs.Orders.{kept_in, any_in, in_any, in_kept}
use Rattle.lists.proofs.Filters.{keep_both, map_agree, member_kept, length_sole, sole_member}
use Rattle.model.specs.declared.Sizes.{Sizes}
use Rattle.model.specs.Sizes.{Device, body}
use Rattle.model.specs.Image.{used, epoch_of, back_of, is_write, is_copy, complete}
use Rattle.model.specs.Recover.{buckets, is_newer, among_newest, newest, is_write_of, is_copy_of, is_chosen, is_no_other, is_only, kept_writes, is_dropped_write, flushed, is_remaining, kept_copies, is_dropped_copy, is_old_copy}
use Rattle.model.proofs.Limits.{Limits}
use Rattle.model.proofs.Formed.{Formed}
use Rattle.model.proofs.BucketKinds.{back_below, complete-copy, copy-used, write-used}
use Rattle.model.proofs.RecoverChoice.{in_buckets, from_buckets, chosen_of, chosen_test, only_of, dropped_write}
use Rattle.classes.specs.Columns.{nowhere, in_order, named, column, occurring, last_of_each, is_named, all_but}
use Rattle.classes.proofs.Turns.{occurring-none}
use Rattle.classes.proofs.Orders.{length_filtered, any_order, in_order_lem, from_order, standing, newer_behind, newer_count}

either : (u : Bool) → (if u then nowhere else nowhere) ≡ nowhere
either true = refl
either false = refl

turned : (u : Bool) (b : ℕ) → (if u then nowhere else b) ≡ (if not u then b else nowhere)
turned true b = refl
turned false b = refl

but_not : (u v : Bool) (b : ℕ) → (if u then nowhere else (if v then b else nowhere)) ≡ (if v && not u then b else nowhere)
but_not true true b = refl
but_not true false b = refl
but_not false true b = refl
but_not false false b = refl

-- ---- what stands in a column

module _ (z : Sizes) (d : Device) (t : ℕ → Bool) where
  -- of the back-end bucket b
  abbrev pub stands_for : ℕ → ℕ → Bool
  stands_for b c = t c && eqb (back_of z d c) b

  pub named_is : (b c : ℕ) → b < nowhere → eqb b (named z d t c) ≡ stands_for b c
  named_is b c h = go (t c) (ℕ_discrete b (back_of z d c))
    where
      go : (u : Bool) → Dec (b ≡ back_of z d c) → eqb b (if u then back_of z d c else nowhere) ≡ (u && eqb (back_of z d c) b)
      go true (yes e) = eq-eqb b (back_of z d c) e ∙ sym (eq-eqb (back_of z d c) b (sym e))
      go true (no ne) = ne_eqb b (back_of z d c) ne ∙ sym (ne_eqb (back_of z d c) b (λ e. ne (sym e)))
      go false e = ne_eqb b nowhere (λ q. omega arith)

  pub member-column : (b : ℕ) (l : List ℕ) → b < nowhere → member b (map (named z d t) l) ≡ any (stands_for b) l
  unfolding member any
  member-column b [] h = refl
  member-column b (c ∷ l) h = rw (named_is b c h, member-column b l h)

  pub times-column : (b : ℕ) (l : List ℕ) → b < nowhere → times b (map (named z d t) l) ≡ length (keep (stands_for b) l)
  unfolding times keep
  times-column b [] h = refl
  times-column b (c ∷ l) h = rw (named_is b c h) (go (stands_for b c) (times-column b l h))
    where
      go : (u : Bool) → times b (map (named z d t) l) ≡ length (keep (stands_for b) l)
          → (if u then times b (map (named z d t) l) + 1 else times b (map (named z d t) l)) ≡ length (if u then c ∷ keep (stands_for b) l else keep (stands_for b) l)
      go true r = omega (arith, r)
      go false r = r

module _ (z : Sizes) (d : Device) (limits : Limits z) (formed : Formed z d) where
  pub below-nowhere : (c : ℕ) → c < body z → used z d c ≡ true → back_of z d c < nowhere
  below-nowhere c h u = omega (arith, back_below z d formed limits.p_low c h u, limits.b_high)

  pub is_named_lem : (t : ℕ → Bool) (c : ℕ) → 1 ≤ times c (in_order z d) → is_named (named z d t c) ≡ t c
  is_named_lem t c q = go (t c)
    where
      go : (u : Bool) → not (eqb (if u then back_of z d c else nowhere) nowhere) ≡ u
      go true = let p = in_order_lem z d c q in ap not (ne_eqb (back_of z d c) nowhere (λ e. omega (arith, below-nowhere c p.1 p.0)))
      go false = refl

  -- ---- Write buckets that are alone

  alone : (c : ℕ) → c < body z → is_write z d c ≡ true → eqb (times (back_of z d c) (column z d (is_write z d))) 1 ≡ is_only z d c
  unfolding is_write_of is_only is_no_other
  alone c h w = same_truth _ _ from to
    where
      b : ℕ
      b = back_of z d c

      count : times b (column z d (is_write z d)) ≡ length (buckets z d (is_write_of z d b))
      count = times-column z d (is_write z d) b (in_order z d) (below-nowhere c h (write-used z d c w))
          ∙ sym (length_filtered z d (is_write_of z d b) (λ e q. write-used z d e (and_left (is_write z d e) (eqb (back_of z d e) b) q)))

      mine : (e : ℕ) → is_write z d e ≡ true → back_of z d e ≡ b → is_write_of z d b e ≡ true
      mine e q r = and-true q (eq-eqb (back_of z d e) b r)

      from : eqb (times b (column z d (is_write z d))) 1 ≡ true → is_only z d c ≡ true
      from q = and-true w (below_all (body z) (is_no_other z d c) (λ e he. go e he (is_write_of z d b e) refl))
        where
          go : (e : ℕ) → e < body z → (u : Bool) → is_write_of z d b e ≡ u → (not u || eqb e c) ≡ true
          go e he false r = refl
          go e he true r = eq-eqb e c (sole_member e c (buckets z d (is_write_of z d b)) (sym count ∙ eqb-true _ 1 q)
              (omega (arith, from_buckets z d (is_write_of z d b) e he r))
              (omega (arith, from_buckets z d (is_write_of z d b) c h (mine c w refl))))

      to : is_only z d c ≡ true → eqb (times b (column z d (is_write z d))) 1 ≡ true
      to q = eq-eqb _ 1 (count ∙ length_sole c (buckets z d (is_write_of z d b)) (from_buckets z d (is_write_of z d b) c h (mine c w refl)) (λ y r.
          let p = in_buckets z d (is_write_of z d b) y r in
          (only_of z d c q).no_other y p.1 (and_left (is_write z d y) (eqb (back_of z d y) b) p.0) (eqb-true (back_of z d y) b (and_right (is_write z d y) (eqb (back_of z d y) b) p.0))))

  not-only : (c : ℕ) → is_write z d c ≡ false → is_only z d c ≡ false
  unfolding is_only
  not-only c e = rw e

  pub sole_column : map (occurring 1 (column z d (is_write z d))) (column z d (is_write z d)) ≡ column z d (is_only z d)
  sole_column = map-map _ _ (in_order z d) ∙ map_agree _ _ (in_order z d) (λ c q. go c (in_order_lem z d c q).1 (is_write z d c) refl)
    where
      go : (c : ℕ) → c < body z → (u : Bool) → is_write z d c ≡ u → occurring 1 (column z d (is_write z d)) (named z d (is_write z d) c) ≡ named z d (is_only z d) c
      go c h true e = rw e (ap (λ (t : Bool). if t then back_of z d c else nowhere) (alone c h e))
      go c h false e = rw (e, not-only c e) (either (eqb (times nowhere (column z d (is_write z d))) 1))

  -- ---- the newest copy of each back-end bucket

  not_chosen : (c : ℕ) → complete z d c ≡ false → is_chosen z d c ≡ false
  unfolding is_chosen
  not_chosen c e = rw e

  module _ (before : List ℕ) (c : ℕ) (behind : List ℕ) (split : in_order z d ≡ before ++ (c ∷ behind)) where
    newest-copy : complete z d c ≡ true → not (any (is_copy_of z d (back_of z d c)) behind) ≡ is_chosen z d c
    unfolding is_copy_of is_newer
    newest-copy w = same_truth _ _ from to
      where
        b : ℕ
        b = back_of z d c

        behind_is : keep (is_newer z d c) (in_order z d) ≡ behind
        behind_is = newer_behind z d formed before c behind split

        from : not (any (is_copy_of z d b) behind) ≡ true → is_chosen z d c ≡ true
        from q = chosen_test z d c (record { is_complete = w; is_newest = λ e he k r. go e he k r (dec_lt (epoch_of z d c) (epoch_of z d e)) })
          where
            go : (e : ℕ) → e < body z → complete z d e ≡ true → back_of z d e ≡ b → Dec (epoch_of z d c < epoch_of z d e) → epoch_of z d e ≤ epoch_of z d c
            go e he k r (no u) = omega arith
            go e he k r (yes u) =
                let stands : 1 ≤ times e behind = rw (← behind_is) (omega (arith, in_kept (is_newer z d c) e (in_order z d) (lt-ltb (epoch_of z d c) (epoch_of z d e) u), from_order z d e he (copy-used z d e (complete-copy z d e k)))) in
                absurd (true≢false (sym (in_any (is_copy_of z d b) behind e stands (and-true k (eq-eqb (back_of z d e) b r))) ∙ not-true (any (is_copy_of z d b) behind) q))

        to : is_chosen z d c ≡ true → not (any (is_copy_of z d b) behind) ≡ true
        to q = go (any (is_copy_of z d b) behind) refl
          where
            go : (u : Bool) → any (is_copy_of z d b) behind ≡ u → not u ≡ true
            go false e = refl
            go true e =
                let w = any_in (is_copy_of z d b) behind e in
                let k = kept_in (is_newer z d c) w.0 (in_order z d) (rw behind_is w.1) in
                let p = in_order_lem z d w.0 k.1 in
                absurd (omega (arith, ltb-true (epoch_of z d c) (epoch_of z d w.0) k.0, (chosen_of z d c q).is_newest w.0 p.1 (and_left (complete z d w.0) (eqb (back_of z d w.0) b) w.2) (eqb-true (back_of z d w.0) b (and_right (complete z d w.0) (eqb (back_of z d w.0) b) w.2))))

    newest-named : occurring 0 (map (named z d (complete z d)) behind) (named z d (complete z d) c) ≡ named z d (is_chosen z d) c
    unfolding is_copy_of
    newest-named = occurring-none (map (named z d (complete z d)) behind) (named z d (complete z d) c) ∙ go (complete z d c) refl
      where
        go : (u : Bool) → complete z d c ≡ u
            → (if member (named z d (complete z d) c) (map (named z d (complete z d)) behind) then nowhere else named z d (complete z d) c) ≡ named z d (is_chosen z d) c
        go true e =
            let p = in_order_lem z d c (standing z d formed before c behind split) in
            rw (e, member-column z d (complete z d) (back_of z d c) behind (below-nowhere c p.1 p.0))
            (turned (any (is_copy_of z d (back_of z d c)) behind) (back_of z d c) ∙ ap (λ (t : Bool). if t then back_of z d c else nowhere) (newest-copy e))
        go false e = rw (e, not_chosen c e) (either (member nowhere (map (named z d (complete z d)) behind)))

  last_behind : (before behind : List ℕ) → in_order z d ≡ before ++ behind → last_of_each (map (named z d (complete z d)) behind) ≡ map (named z d (is_chosen z d)) behind
  unfolding last_of_each
  last_behind before [] e = refl
  last_behind before (c ∷ behind) e =
      ap₂ (λ (x : ℕ) (l : List ℕ). x ∷ l) (newest-named before c behind e) (last_behind (before ++ (c ∷ [])) behind (e ∙ sym (append_assoc before (c ∷ []) behind)))

  pub last_column : last_of_each (column z d (complete z d)) ≡ column z d (is_chosen z d)
  last_column = last_behind [] (in_order z d) refl

  -- ---- all but the newest of those that pass a test

  module _ (n : ℕ) (t s : ℕ → Bool) (within : (x : ℕ) → t x ≡ true → used z d x ≡ true) where
    abbrev is_dropped : ℕ → Bool
    is_dropped x = s x && not (member x (newest z d n (buckets z d t)))

    count_named : (l : List ℕ) → ((x : ℕ) → 1 ≤ times x l → 1 ≤ times x (in_order z d)) → length (keep is_named (map (named z d t) l)) ≡ length (keep t l)
    unfolding keep
    count_named [] h = refl
    count_named (c ∷ l) h = rw (is_named_lem t c (h c (omega (arith, times_cons c c l, times_self c)))) (go (t c) (count_named l (λ x q. h x (omega (arith, times_cons x c l)))))
      where
        go : (u : Bool) → length (keep is_named (map (named z d t) l)) ≡ length (keep t l)
            → length (if u then named z d t c ∷ keep is_named (map (named z d t) l) else keep is_named (map (named z d t) l)) ≡ length (if u then c ∷ keep t l else keep t l)
        go true r = ap suc r
        go false r = r

    module _ (before : List ℕ) (c : ℕ) (behind : List ℕ) (split : in_order z d ≡ before ++ (c ∷ behind)) where
      few_newer : member c (newest z d n (buckets z d t)) ≡ (t c && ltb (length (keep t behind)) n)
      unfolding newest among_newest buckets
      few_newer =
          let p = in_order_lem z d c (standing z d formed before c behind split) in
          ap (member c) (sym (keep_both t (among_newest z d n (buckets z d t)) (below (body z))))
          ∙ member_kept (λ x. t x && among_newest z d n (buckets z d t) x) c (body z) p.1
          ∙ ap (λ (m : ℕ). t c && ltb m n) (newer_count z d formed before c behind split t within)

      dropped_named : (if is_named (named z d t c) && ltb (length (keep is_named (map (named z d t) behind))) n then nowhere else named z d s c) ≡ named z d is_dropped c
      dropped_named =
          rw (is_named_lem t c (standing z d formed before c behind split), count_named behind (λ x q. stands x q), few_newer) (but_not (t c && ltb (length (keep t behind)) n) (s c) (back_of z d c))
        where
          stands : (x : ℕ) → 1 ≤ times x behind → 1 ≤ times x (in_order z d)
          stands x q = rw split (omega (arith, times_append x before (c ∷ behind), times_cons x c behind))

    but_behind : (before behind : List ℕ) → in_order z d ≡ before ++ behind → all_but n (map (named z d t) behind) (map (named z d s) behind) ≡ map (named z d is_dropped) behind
    unfolding all_but
    but_behind before [] e = refl
    but_behind before (c ∷ behind) e =
        ap₂ (λ (x : ℕ) (l : List ℕ). x ∷ l) (dropped_named before c behind e) (but_behind (before ++ (c ∷ [])) behind (e ∙ sym (append_assoc before (c ∷ []) behind)))

    but_column : all_but n (column z d t) (column z d s) ≡ column z d is_dropped
    but_column = but_behind [] (in_order z d) refl

  only-write : (c : ℕ) → is_only z d c ≡ true → is_write z d c ≡ true
  unfolding is_only
  only-write c e = and_left (is_write z d c) _ e

  pub dropped_write_column : all_but z.w (column z d (is_only z d)) (column z d (is_write z d)) ≡ column z d (is_dropped_write z d)
  unfolding is_dropped_write kept_writes
  dropped_write_column = but_column z.w (is_only z d) (is_write z d) (λ x e. write-used z d x (only-write x e))

  chosen-used : (c : ℕ) → is_chosen z d c ≡ true → used z d c ≡ true
  chosen-used c e = copy-used z d c (complete-copy z d c (chosen_of z d c e).is_complete)

  remaining_used : (c : ℕ) → is_remaining z d c ≡ true → used z d c ≡ true
  unfolding is_remaining
  remaining_used c e = chosen-used c (and_left (is_chosen z d c) _ e)

  pub dropped_copy_column : all_but z.r (column z d (is_remaining z d)) (column z d (is_chosen z d)) ≡ column z d (is_dropped_copy z d)
  unfolding is_dropped_copy kept_copies
  dropped_copy_column = but_column z.r (is_remaining z d) (is_chosen z d) remaining_used

  -- ---- copies whose back-end bucket no dropped Write bucket is of

  dropped_used : (c : ℕ) → is_dropped_write z d c ≡ true → used z d c ≡ true
  unfolding is_dropped_write
  dropped_used c e = write-used z d c (and_left (is_write z d c) _ e)

  write_of : (b c : ℕ) → is_write z d c ≡ true → is_write_of z d b c ≡ eqb (back_of z d c) b
  unfolding is_write_of
  write_of b c e = rw e

  pub flushed-column : (b : ℕ) → b < nowhere → member b (column z d (is_dropped_write z d)) ≡ flushed z d b
  unfolding flushed
  flushed-column b h =
      member-column z d (is_dropped_write z d) b (in_order z d) h
      ∙ ap (λ (t : ℕ → Bool). any t (in_order z d)) (fun_ext (λ c. go c (is_dropped_write z d c) refl))
      ∙ any_order z d (is_dropped_write z d) (is_write_of z d b) dropped_used
    where
      go : (c : ℕ) (u : Bool) → is_dropped_write z d c ≡ u → (u && eqb (back_of z d c) b) ≡ (u && is_write_of z d b c)
      go c true e = sym (write_of b c (dropped_write z d c e).0)
      go c false e = refl

  pub absent_column : map (occurring 0 (column z d (is_dropped_write z d))) (column z d (is_chosen z d)) ≡ column z d (is_remaining z d)
  unfolding is_remaining
  absent_column = map-map _ _ (in_order z d) ∙ map_agree _ _ (in_order z d) (λ c q. occurring-none (column z d (is_dropped_write z d)) (named z d (is_chosen z d) c) ∙ go c q (is_chosen z d c) refl)
    where
      go : (c : ℕ) → 1 ≤ times c (in_order z d) → (u : Bool) → is_chosen z d c ≡ u
          → (if member (if u then back_of z d c else nowhere) (column z d (is_dropped_write z d)) then nowhere else (if u then back_of z d c else nowhere))
          ≡ (if u && not (flushed z d (back_of z d c)) then back_of z d c else nowhere)
      go c q true e = let p = in_order_lem z d c q in rw (flushed-column (back_of z d c) (below-nowhere c p.1 p.0)) (turned (flushed z d (back_of z d c)) (back_of z d c))
      go c q false e = either (member nowhere (column z d (is_dropped_write z d)))

  -- a copy that is not the one of its back-end bucket
  pub old_named : (c : ℕ) → 1 ≤ times c (in_order z d) → (if is_named (named z d (is_chosen z d) c) then nowhere else named z d (is_copy z d) c) ≡ named z d (is_old_copy z d) c
  unfolding is_old_copy
  old_named c q = rw (is_named_lem (is_chosen z d) c q) (but_not (is_chosen z d c) (is_copy z d c) (back_of z d c))
