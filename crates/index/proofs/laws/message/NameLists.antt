-- The lists of names in a wide message: what holds of each name, by its place, and where the lists stand.
use Prim.Native.Nat.{ℕ, zero, suc, ◌+◌, ◌*◌, ◌<◌, ◌≤◌}
use mathlib.Core.Path.{◌≡◌, refl, sym, subst}
use mathlib.Core.List.{List, ◌∷◌}
use native.Mathlib.Omega.{arith}
use native.Mathlib.Numerals.{add-one}
use lib.ListN.{length}
use Rattle.index.specs.Block.{number}
use Rattle.index.specs.Numbers.{Each}
use Rattle.index.specs.Wide.{list_count, list_length, list_offset, list_place, names_from, Rising, WideFormed}
use Rattle.index.specs.work.Pairing.{InPlace}
use Rattle.index.proofs.laws.Range.{listed}

-- The name at place j of the names from byte i on.
abbrev pub name_at : List ℕ → ℕ → ℕ → ℕ
name_at m i j = number m (i + 2 * j)

module _ (m : List ℕ) where
  first : (i : ℕ) → name_at m i 0 ≡ number m i
  first i = let e : i + 2 * 0 ≡ i = omega arith in rw e

  later : (i j : ℕ) → name_at m (i + 2) j ≡ name_at m i (suc j)
  later i j = let e : i + 2 + 2 * j ≡ i + 2 * suc j = omega arith in rw e

  -- ---- each of them

  module _ (P : ℕ → Type 0) where
    pub each_name : (i n : ℕ) → ((j : ℕ) → j < n → P (name_at m i j)) → Each P (names_from m i n)
    unfolding names_from
    each_name i zero f = tt
    each_name i (suc n) f =
        (subst P (first i) (f 0 (omega arith)), each_name (i + 2) n (λ j l. subst P (sym (later i j)) (f (suc j) (omega arith))))

    pub name_each : (i n : ℕ) → Each P (names_from m i n) → (j : ℕ) → j < n → P (name_at m i j)
    unfolding names_from
    name_each i zero e j l = absurd (omega arith)
    name_each i (suc n) e zero l = subst P (sym (first i)) e.0
    name_each i (suc n) e (suc j) l = subst P (later i j) (name_each (i + 2) n e.1 j (omega arith))

  -- ---- they rise where each is below the next

  abbrev Steps : ℕ → ℕ → Type 0
  Steps i n = (j : ℕ) → suc j < n → name_at m i j < name_at m i (suc j)

  above_first : (i n : ℕ) → Steps i n → (j : ℕ) → suc j < n → number m i < name_at m i (suc j)
  above_first i n f zero l = rw (first i) at (f 0 l)
  above_first i n f (suc j) l = omega (arith, above_first i n f j (omega arith), f (suc j) l)

  rising : (i n : ℕ) → Steps i n → Rising (names_from m i n)
  unfolding names_from Rising
  rising i zero f = tt
  rising i (suc n) f = (
    each_name (λ y. number m i < y) (i + 2) n (λ j l. rw (later i j) (above_first i (suc n) f j (omega arith))),
    rising (i + 2) n (λ j l. rw (later i j, later i (suc j)) (f (suc j) (omega arith))),
  )

  steps : (i n : ℕ) → Rising (names_from m i n) → Steps i n
  unfolding names_from Rising
  steps i zero r j l = absurd (omega arith)
  steps i (suc n) r zero l =
      let s = name_each (λ y. number m i < y) (i + 2) n r.0 0 (omega arith) in
      rw (first i, ← later i 0) s
  steps i (suc n) r (suc j) l = rw (← later i j, ← later i (suc j)) (steps (i + 2) n r.1 j (omega arith))

  pub rising_steps : (i n : ℕ) → ((j : ℕ) → j + 1 < n → name_at m i j < name_at m i (j + 1)) → Rising (names_from m i n)
  rising_steps i n f = rising i n (λ j l. subst (λ (k : ℕ). name_at m i j < name_at m i k) (add-one j) (f j (omega arith)))

  pub steps_rising : (i n : ℕ) → Rising (names_from m i n) → (j : ℕ) → j + 1 < n → name_at m i j < name_at m i (j + 1)
  steps_rising i n r j l = subst (λ (k : ℕ). name_at m i j < name_at m i k) (sym (add-one j)) (steps i n r j (omega arith))

  -- ---- where they stand

  -- A list with a name has a first one.
  pub some_names : (i n : ℕ) → 1 ≤ n → (x : ℕ) × (xs : List ℕ) × (names_from m i n ≡ x ∷ xs)
  unfolding names_from
  some_names i zero l = absurd (omega arith)
  some_names i (suc n) l = (number m i, names_from m (i + 2) n, refl)

  pub inside : InPlace m → (q : ℕ) → q < list_count → list_offset m q + 2 * list_length m q ≤ length m
  unfolding list_place
  inside w =
      let at0 = w.offsets 0 (omega arith) in
      let at1 = w.offsets 1 (omega arith) in
      let at2 = w.offsets 2 (omega arith) in
      let at3 = w.offsets 3 (omega arith) in
      let end = w.ends in
      listed (λ q. list_offset m q + 2 * list_length m q ≤ length m) list_count
      (omega (arith, at0, end), (omega (arith, at1, end), (omega (arith, at2, end), (omega (arith, at3, end), tt))))

-- Both are asked of a wide message.
module _ {m : List ℕ} (w : WideFormed m) where
  pub formed_place : InPlace m
  formed_place = record { header = w.header; offsets = w.offsets; ends = w.ends }
