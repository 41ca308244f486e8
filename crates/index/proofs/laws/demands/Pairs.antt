-- A statement counts once in each of its pairs.
use Prim.Native.Nat.{ℕ, ◌+◌, ◌*◌, ◌/◌, ◌%◌, ◌^◌, ◌<◌, ◌≤◌}
use native.Mathlib.Omega.{arith}
use native.Mathlib.Decide.{ℕ_discrete}
use mathlib.Core.Path.{◌≡◌, refl}
use mathlib.Core.Bool.{Bool, cond, true, false, ◌&&◌}
use mathlib.Core.List.{List, [], ◌∷◌, ◌++◌, map}
use lib.Dec.{eqb}
use Rattle.index.specs.declared.Kind.{Kind}
use Rattle.index.specs.Numbers.{Each}
use Rattle.index.specs.Message.{kind_of, kind_number, Half, half_count, kind_in, present, half_at, halves, new, changes, Carried, moves, mask_with}
use Rattle.index.specs.Wide.{names, Rising, WideFormed, mask_in, pairs, wide_halves, names_from, Sent, previous_of, new_of}
use Rattle.index.specs.Wide.Sent.{plain, wide}
use Rattle.index.specs.Calls.{block_needs, sent_needs, Sends}
use Rattle.index.specs.History.{moves_of}
use Rattle.index.specs.work.Edits.{half}
use Rattle.index.proofs.laws.Firsts.{first_passed}
use Rattle.index.proofs.laws.message.HalfLetters.{moves_none}

abbrev pub CountsOnce : List Half → Type 0
CountsOnce hs = (kind : Kind) (x y k : ℕ) → moves_of hs kind x y k ≤ 1

-- ---- one half

moves_once : (h : Half) (kind : Kind) (x y k : ℕ) → moves h kind x y k ≤ 1
unfolding moves
moves_once h kind x y k =
    go (eqb (kind_number h.kind) (kind_number kind) && (eqb h.key x && eqb h.id y))
  where
    go : (t : Bool) → cond t (h.mask / 2 ^ k % 2) 0 ≤ 1
    go true = omega arith
    go false = omega arith

-- ---- every pair of two rising lists

module _ (K : Kind) (mask : ℕ) (kind : Kind) (x y k : ℕ) where
  abbrev row : ℕ → List ℕ → List Half
  row x' ys = map (λ y'. half K x' y' mask) ys

  abbrev of : List Half → ℕ
  of hs = moves_of hs kind x y k

  joined : (hs gs : List Half) → of (hs ++ gs) ≡ of hs + of gs
  unfolding moves_of
  joined [] gs = omega arith
  joined (h ∷ hs) gs = omega (arith, joined hs gs)

  -- Another key, or greater ids only.
  other_key : (x' : ℕ) (ys : List ℕ) → ¬ (x' ≡ x) → of (row x' ys) ≡ 0
  unfolding moves_of
  other_key x' [] n = refl
  other_key x' (y' ∷ ys) n =
      omega (arith, moves_none (half K x' y' mask) kind x y k (λ e. n e.1), other_key x' ys n)

  greater : (x' : ℕ) (ys : List ℕ) → Each (λ z. y < z) ys → of (row x' ys) ≡ 0
  unfolding moves_of
  greater x' [] e = refl
  greater x' (y' ∷ ys) e =
      omega (arith, moves_none (half K x' y' mask) kind x y k (λ q. omega (arith, e.0, q.2)), greater x' ys e.1)

  row_once : (x' : ℕ) (ys : List ℕ) → Rising ys → of (row x' ys) ≤ 1
  unfolding moves_of Rising
  row_once x' [] r = omega arith
  row_once x' (y' ∷ ys) r =
      elim (ℕ_discrete y' y) [
        | yes e ↦
            omega (arith, moves_once (half K x' y' mask) kind x y k, greater x' ys (rw e at r.0))
        | no n ↦
            omega (arith, moves_none (half K x' y' mask) kind x y k (λ q. n q.2), row_once x' ys r.1)
      ]

  greater_keys : (xs ys : List ℕ) → Each (λ z. x < z) xs → of (pairs K mask xs ys) ≡ 0
  unfolding pairs moves_of
  greater_keys [] ys e = refl
  greater_keys (x' ∷ xs) ys e =
      omega (arith, joined (row x' ys) (pairs K mask xs ys), other_key x' ys (λ q. omega (arith, e.0, q)), greater_keys xs ys e.1)

  pairs_once : (xs ys : List ℕ) → Rising xs → Rising ys → of (pairs K mask xs ys) ≤ 1
  unfolding pairs moves_of Rising
  pairs_once [] ys p q = omega arith
  pairs_once (x' ∷ xs) ys p q =
      elim (ℕ_discrete x' x) [
        | yes e ↦
            omega (arith, joined (row x' ys) (pairs K mask xs ys), row_once x' ys q, greater_keys xs ys (rw e at p.0))
        | no n ↦
            omega (arith, joined (row x' ys) (pairs K mask xs ys), other_key x' ys n, pairs_once xs ys p.1 q)
      ]

-- ---- what is sent leaves a statement that counts once

plain_once : (m : List ℕ) → CountsOnce (new m)
unfolding halves moves_of
plain_once m kind x y k = go (present m 1)
  where
    go : (t : Bool) → moves_of (cond t (half_at m 1 ∷ []) []) kind x y k ≤ 1
    go true = omega (arith, moves_once (half_at m 1) kind x y k)
    go false = omega arith

-- An absent half has no names.
half_rising : (m : List ℕ) (h : ℕ) → h < half_count → WideFormed m → Rising (names m (2 * h)) × Rising (names m (2 * h + 1))
unfolding names names_from Rising
half_rising m h l w = go (present m h) refl
  where
    go : (t : Bool) → present m h ≡ t → Rising (names m (2 * h)) × Rising (names m (2 * h + 1))
    go true e = let g = w.lists h l e in (g.0.2, g.1.2)
    go false e = let z = w.absent h l e in rw (z.0, z.1) (tt, tt)

pub counts_once : (b : List ℕ) (m : Sent) (b' : List ℕ) → Sends b m (0, b') → CountsOnce (new_of m)
unfolding Sends sent_needs block_needs wide_halves
counts_once b (plain m) b' h = plain_once m
counts_once b (wide m) b' h =
    let p = first_passed (λ n. (n, b)) (Carried b (changes (previous_of (wide m)) (new_of (wide m))) b) (0, b') (λ o. o.0) (λ n. refl) (sent_needs b (wide m)) (omega arith) refl h in
    let r = half_rising m 1 (omega arith) p.0.1.1.0 in
    λ kind x y k. pairs_once (kind_of (kind_in m)) (mask_with m 1 (mask_in m 1)) kind x y k (names m 2) (names m 3) r.0 r.1
