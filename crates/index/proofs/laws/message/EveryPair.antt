-- M-100: "stands for every pair". What 4 and 5 ask of each pair is what they ask of each name and of the mask.
use Prim.Native.Nat.{ℕ, ◌+◌, ◌*◌, ◌<◌, ◌≤◌}
use mathlib.Core.Path.{◌≡◌, refl}
use mathlib.Core.Bool.{Bool, true, false}
use mathlib.Core.List.{List, [], ◌∷◌, map}
use mathlib.Core.Logic.{◌↔◌}
use native.Mathlib.Omega.{arith}
use Rattle.index.specs.declared.Kind.{Kind}
use Rattle.index.specs.Block.{IsName}
use Rattle.index.specs.Numbers.{Each}
use Rattle.index.specs.Message.{kind_of, Half, half_count, kind_in, present, mask_with, Named, Masked}
use Rattle.index.specs.Wide.{longest_list, list_length, mask_in, names_from, names, pairs, wide_halves, WideFormed}
use Rattle.index.specs.work.Edits.{half}
use Rattle.index.proofs.laws.message.Halves.{each_join, each_part}
use Rattle.index.proofs.laws.message.NameLists.{some_names}

module _ (K : Kind) (mask : ℕ) (P : Half → Type 0) where
  -- The pairs of one key.
  abbrev row : ℕ → List ℕ → List Half
  row x ys = map (λ y. half K x y mask) ys

  module _ (Q R : ℕ → Type 0) (of : (x y : ℕ) → Q x → R y → P (half K x y mask)) where
    in_row : (x : ℕ) (ys : List ℕ) → Q x → Each R ys → Each P (row x ys)
    in_row x [] q r = tt
    in_row x (y ∷ ys) q r = (of x y q r.0, in_row x ys q r.1)

    in_pairs : (xs ys : List ℕ) → Each Q xs → Each R ys → Each P (pairs K mask xs ys)
    unfolding pairs
    in_pairs [] ys q r = tt
    in_pairs (x ∷ xs) ys q r = each_join P (row x ys) (pairs K mask xs ys) (in_row x ys q.0 r) (in_pairs xs ys q.1 r)

  keys_of : (Q : ℕ → Type 0) → ((x y : ℕ) → P (half K x y mask) → Q x) → (xs : List ℕ) (y : ℕ) (ys : List ℕ)
      → Each P (pairs K mask xs (y ∷ ys)) → Each Q xs
  unfolding pairs
  keys_of Q of [] y ys p = tt
  keys_of Q of (x ∷ xs) y ys p =
      let both = each_part P (row x (y ∷ ys)) (pairs K mask xs (y ∷ ys)) p in
      (of x y both.0.0, keys_of Q of xs y ys both.1)

  row_ids : (R : ℕ → Type 0) → ((x y : ℕ) → P (half K x y mask) → R y) → (x : ℕ) (ys : List ℕ) → Each P (row x ys) → Each R ys
  row_ids R of x [] p = tt
  row_ids R of x (y ∷ ys) p = (of x y p.0, row_ids R of x ys p.1)

  ids_of : (R : ℕ → Type 0) → ((x y : ℕ) → P (half K x y mask) → R y) → (x : ℕ) (xs ys : List ℕ)
      → Each P (pairs K mask (x ∷ xs) ys) → Each R ys
  unfolding pairs
  ids_of R of x xs ys p = row_ids R of x ys (each_part P (row x ys) (pairs K mask xs ys) p).0

any : {A : Type 0} (P : Type 0) → P → (l : List A) → Each (λ a. P) l
any P p [] = tt
any P p (a ∷ l) = (p, any P p l)

module _ (m : List ℕ) (w : WideFormed m) (h : ℕ) (l : h < half_count) where
  abbrev kind : Kind
  kind = kind_of (kind_in m)

  abbrev mask : ℕ
  mask = mask_with m h (mask_in m h)

  pub no_names : present m h ≡ false → (names m (2 * h) ≡ []) × (names m (2 * h + 1) ≡ [])
  unfolding names names_from
  no_names e = let z = w.absent h l e in (rw z.0, rw z.1)

  pub no_pairs : present m h ≡ false → wide_halves m h ≡ []
  unfolding wide_halves pairs
  no_pairs e = rw (no_names e).0

  -- "up to 8 keys and up to 8 ids", whether it is present or absent.
  pub short_lists : (list_length m (2 * h) ≤ longest_list) × (list_length m (2 * h + 1) ≤ longest_list)
  short_lists = go (present m h) refl
    where
      go : (t : Bool) → present m h ≡ t → (list_length m (2 * h) ≤ longest_list) × (list_length m (2 * h + 1) ≤ longest_list)
      go true e = let g = w.lists h l e in (g.0.1, g.1.1)
      go false e = let z = w.absent h l e in (omega (arith, z.0), omega (arith, z.1))

  -- A half that is present has a first key and a first id.
  firsts : present m h ≡ true
      → (x : ℕ) × (xs : List ℕ) × (y : ℕ) × (ys : List ℕ) × (names m (2 * h) ≡ x ∷ xs) × (names m (2 * h + 1) ≡ y ∷ ys)
  unfolding names
  firsts e =
      let g = w.lists h l e in
      let k = some_names m _ _ g.0.0 in
      let i = some_names m _ _ g.1.0 in
      (k.0, k.1, i.0, i.1, k.2, i.2)

  pub pairs_named : Each Named (wide_halves m h) ↔ (Each IsName (names m (2 * h)) × Each IsName (names m (2 * h + 1)))
  unfolding wide_halves Named
  pairs_named = (
    there (present m h) refl,
    λ n. in_pairs kind mask Named IsName IsName (λ x y p q. (p, q)) (names m (2 * h)) (names m (2 * h + 1)) n.0 n.1,
  )
    where
      there : (t : Bool) → present m h ≡ t → Each Named (pairs kind mask (names m (2 * h)) (names m (2 * h + 1)))
          → Each IsName (names m (2 * h)) × Each IsName (names m (2 * h + 1))
      there false e p = let z = no_names e in rw (z.0, z.1) (tt, tt)
      there true e p =
          let (x, xs, y, ys, keys, ids) = firsts e in
          let q = rw (keys, ids) at p in
          rw (keys, ids)
          (keys_of kind mask Named IsName (λ x y n. n.0) (x ∷ xs) y ys q, ids_of kind mask Named IsName (λ x y n. n.1) x xs (y ∷ ys) q)

  pub pairs_masked : present m h ≡ true → Each Masked (wide_halves m h) ↔ Masked (half kind 0 0 mask)
  unfolding wide_halves Masked
  pairs_masked e = (
    λ p.
        let (x, xs, y, ys, keys, ids) = firsts e in
        let q = rw (keys, ids) at p in
        (keys_of kind mask Masked (λ x. Masked (half kind 0 0 mask)) (λ x y n. n) (x ∷ xs) y ys q).0,
    λ n. in_pairs kind mask Masked (λ x. Masked (half kind 0 0 mask)) (λ y. Unit {0}) (λ x y p q. p) (names m (2 * h)) (names m (2 * h + 1)) (any (Masked (half kind 0 0 mask)) n (names m (2 * h))) (any (Unit {0}) tt (names m (2 * h + 1))),
  )
