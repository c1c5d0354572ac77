-- What the buckets of the read queue and of the write queue are on the chip.
use Prim.Native.Nat.{ℕ, ◌≤◌}
use mathlib.Core.Path.{◌≡◌, sym, ap, ◌∙◌}
use mathlib.Core.Logic.{◌⊎◌, inl, inr, ◌≢◌}
use mathlib.Core.Bool.{Bool, true, false}
use mathlib.Core.Option.{none}
use mathlib.Core.List.{List, [], ◌∷◌, ◌++◌, map}
use lib.Dec.{leb}
use Rattle.lists.specs.Lists.{all, distinct}
use Rattle.model.specs.declared.Sizes.{Sizes}
use Rattle.model.specs.declared.Entry.{Entry}
use Rattle.model.specs.Sizes.{Device}
use Rattle.model.specs.Image.{epoch_of, back_of, is_write}
use Rattle.model.specs.State.{holds, without, backs}
use Rattle.model.proofs.Safe.{gives_of, holds_of}
use Rattle.model.proofs.Show.{Same, epoch_of-same, back_of-same, is_write-same, gives_same, holds_same}
use Rattle.model.proofs.Queues.{Maps, maps_without, distinct_without}
use Rattle.model.proofs.QueuesGrown.{maps_grown, distinct_grown, Keeps, backs-map, maps_map, all_without, all_grown, all_map}

module _ (z : Sizes) where
  unfoldable pub priority_fits : Entry → Bool
  priority_fits e = leb e.priority z.p

  -- each back-end bucket once, with its newest complete copy
  pub record Reads (d : Device) (l : List Entry) : Type 0 where
    pub read_once : distinct (backs l) ≡ true
    pub copies : (b c : ℕ) → Maps l b c → holds_of z d c b ≡ true
    pub newest-copy : (b c : ℕ) → Maps l b c → (x : ℕ) → holds_of z d x b ≡ true → epoch_of z d x ≤ epoch_of z d c

  -- each back-end bucket once, with its newest Write bucket
  pub record Writes (d : Device) (l : List Entry) : Type 0 where
    pub write_once : distinct (backs l) ≡ true
    pub logs : (b c : ℕ) → Maps l b c → (is_write z d c ≡ true) × (back_of z d c ≡ b)
    pub newest_logs : (b c : ℕ) → Maps l b c → (x i : ℕ) → x ≢ c → (gives_of z d x b i ≡ none) ⊎ (epoch_of z d x ≤ epoch_of z d c)
    pub priorities : all priority_fits l ≡ true

  -- ---- another device

  module _ (p_pos : 1 ≤ z.p) (d e : Device) (l : List Entry) (still : (b c : ℕ) → Maps l b c → Same z d e c) where
    pub reads_kept : ((b c : ℕ) → holds b l ≡ true → holds_of z e c b ≡ true → Same z d e c) → Reads d l → Reads e l
    reads_kept others r = record {
      read_once = r.read_once;
      copies = λ b c m. holds_same z p_pos d e c (still b c m) b ∙ r.copies b c m;
      newest-copy = λ b c m x h. newer b c m x (others b x m.held h) h;
    }
      where
        newer : (b c : ℕ) → Maps l b c → (x : ℕ) → Same z d e x → holds_of z e x b ≡ true → epoch_of z e x ≤ epoch_of z e c
        newer b c m x q h =
            let u = epoch_of-same z p_pos d e x q in
            let v = epoch_of-same z p_pos d e c (still b c m) in
            rw (u, v) (r.newest-copy b c m x (sym (holds_same z p_pos d e x q b) ∙ h))

    pub writes_kept : ((b c i : ℕ) → holds b l ≡ true → Same z d e c ⊎ (gives_of z e c b i ≡ none)) → Writes d l → Writes e l
    writes_kept others w = record {
      write_once = w.write_once;
      logs = λ b c m. (is_write-same z p_pos d e c (still b c m) ∙ (w.logs b c m).0, back_of-same z p_pos d e c (still b c m) ∙ (w.logs b c m).1);
      newest_logs = λ b c m x i ne. newer b c m x i (others b x i m.held) (w.newest_logs b c m x i ne);
      priorities = w.priorities;
    }
      where
        newer : (b c : ℕ) → Maps l b c → (x i : ℕ) → Same z d e x ⊎ (gives_of z e x b i ≡ none) → (gives_of z d x b i ≡ none) ⊎ (epoch_of z d x ≤ epoch_of z d c)
            → (gives_of z e x b i ≡ none) ⊎ (epoch_of z e x ≤ epoch_of z e c)
        newer b c m x i (inr n) o = inl n
        newer b c m x i (inl q) (inl n) = inl (gives_same z p_pos d e x q b i ∙ n)
        newer b c m x i (inl q) (inr o) =
            let u = epoch_of-same z p_pos d e x q in
            let v = epoch_of-same z p_pos d e c (still b c m) in
            inr (rw (u, v) o)

  -- ---- another queue

  pub reads_without : (d : Device) (l : List Entry) (b : ℕ) → Reads d l → Reads d (without b l)
  reads_without d l b r = record {
    read_once = distinct_without l b r.read_once;
    copies = λ b' c m. r.copies b' c (maps_without l b b' c m).1;
    newest-copy = λ b' c m. r.newest-copy b' c (maps_without l b b' c m).1;
  }

  pub writes_without : (d : Device) (l : List Entry) (b : ℕ) → Writes d l → Writes d (without b l)
  writes_without d l b w = record {
    write_once = distinct_without l b w.write_once;
    logs = λ b' c m. w.logs b' c (maps_without l b b' c m).1;
    newest_logs = λ b' c m. w.newest_logs b' c (maps_without l b b' c m).1;
    priorities = all_without priority_fits l b w.priorities;
  }

  pub reads_grown : (d : Device) (l : List Entry) (n : Entry) → holds n.back l ≡ false → holds_of z d n.cache n.back ≡ true
      → ((x : ℕ) → holds_of z d x n.back ≡ true → epoch_of z d x ≤ epoch_of z d n.cache) → Reads d l → Reads d (l ++ (n ∷ []))
  reads_grown d l n h k o r = record {
    read_once = distinct_grown n l h r.read_once;
    copies = λ b c m. copy b c (maps_grown n l b c m);
    newest-copy = λ b c m x q. newest b c (maps_grown n l b c m) x q;
  }
    where
      copy : (b c : ℕ) → Maps l b c ⊎ ((n.back ≡ b) × (n.cache ≡ c)) → holds_of z d c b ≡ true
      copy b c (inl m) = r.copies b c m
      copy b c (inr e) = rw (← e.0, ← e.1) k

      newest : (b c : ℕ) → Maps l b c ⊎ ((n.back ≡ b) × (n.cache ≡ c)) → (x : ℕ) → holds_of z d x b ≡ true → epoch_of z d x ≤ epoch_of z d c
      newest b c (inl m) x q = r.newest-copy b c m x q
      newest b c (inr e) x q = rw (← e.1) (o x (rw (← e.0) at q))

  pub writes_grown : (d : Device) (l : List Entry) (n : Entry) → holds n.back l ≡ false → is_write z d n.cache ≡ true → back_of z d n.cache ≡ n.back
      → ((x i : ℕ) → x ≢ n.cache → (gives_of z d x n.back i ≡ none) ⊎ (epoch_of z d x ≤ epoch_of z d n.cache))
      → priority_fits n ≡ true → Writes d l → Writes d (l ++ (n ∷ []))
  writes_grown d l n h k q o t w = record {
    write_once = distinct_grown n l h w.write_once;
    logs = λ b c m. log b c (maps_grown n l b c m);
    newest_logs = λ b c m x i ne. newest b c (maps_grown n l b c m) x i ne;
    priorities = all_grown priority_fits l n w.priorities t;
  }
    where
      log : (b c : ℕ) → Maps l b c ⊎ ((n.back ≡ b) × (n.cache ≡ c)) → (is_write z d c ≡ true) × (back_of z d c ≡ b)
      log b c (inl m) = w.logs b c m
      log b c (inr e) = (rw (← e.1) k, rw (← e.1) (q ∙ e.0))

      newest : (b c : ℕ) → Maps l b c ⊎ ((n.back ≡ b) × (n.cache ≡ c)) → (x i : ℕ) → x ≢ c → (gives_of z d x b i ≡ none) ⊎ (epoch_of z d x ≤ epoch_of z d c)
      newest b c (inl m) x i ne = w.newest_logs b c m x i ne
      newest b c (inr e) x i ne =
          rw (← e.0, ← e.1) (o x i (λ u. ne (u ∙ e.1)))

  -- ---- other priorities

  pub writes_map : (d : Device) (l : List Entry) (f : Entry → Entry) → Keeps f → ((e : Entry) → priority_fits e ≡ true → priority_fits (f e) ≡ true)
      → Writes d l → Writes d (map f l)
  writes_map d l f k t w = record {
    write_once = ap distinct (backs-map f k l) ∙ w.write_once;
    logs = λ b c m. w.logs b c (maps_map f k l b c m);
    newest_logs = λ b c m. w.newest_logs b c (maps_map f k l b c m);
    priorities = all_map priority_fits priority_fits f t l w.priorities;
  }
