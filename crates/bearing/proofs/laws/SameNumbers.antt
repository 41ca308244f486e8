-- M-113, "M-109's counts included": blocks that agree have as many M records examined, on each side.
use Prim.Native.Nat.{ℕ, suc, ◌<◌, ◌≤◌}
use mathlib.Core.Path.{◌≡◌, refl, sym, subst}
use mathlib.Core.List.{List}
use native.Mathlib.Omega.{arith}
use Rattle.index.specs.declared.Kind.TheVariants.{Membership}
use Rattle.index.specs.Block.{size, Of, key, id, Good}
use Rattle.index.proofs.laws.block.Records.{once}
use Rattle.rights.specs.Held.{Is}
use Rattle.rights.specs.Examined.{Mark, MarkBefore, Differs, HowMany, Examined, round_count}
use Rattle.rights.specs.Examined.Examined.{before, round}
use Rattle.rights.specs.Near.{Near}
use Rattle.rights.proofs.laws.ByNumber.{at_self, counted, is_at}
use Rattle.rights.proofs.laws.Counting.{no_more}
use Rattle.rights.proofs.laws.walk.MarksAreChains.{up_to}
use Rattle.bearing.specs.EqualAnswers.{Agree}
use Rattle.bearing.proofs.laws.Agreeing.{Start, same_members, agree_back}
use Rattle.bearing.proofs.laws.SameRights.{chain_on}

module _ (b b' : List ℕ) (u o : ℕ) (agree : Agree b b' u o) (w : ℕ) (start : Start u o w) where
  -- ---- the marks

  mark_on : (n x k : ℕ) → n ≤ 31 → Mark b w n x k → Mark b' w n x k
  unfolding Mark
  mark_on n x k h m = (chain_on b b' u o agree w start k n x (omega arith) m).0

  mark_near : (n x k : ℕ) → n ≤ 31 → Mark b w n x k → Near 31 b w x
  unfolding Mark
  mark_near n x k h m = up_to 31 h (chain_on b b' u o agree w start k n x (omega arith) m).1

  before_on : (n x k : ℕ) → n ≤ 31 → MarkBefore b w n x k → MarkBefore b' w n x k
  unfolding MarkBefore
  before_on ℕ.zero x k h m = m
  before_on (suc n) x k h m = mark_on n x k (omega arith) m

-- Two M records of the two blocks have the same key and id.
abbrev Same : List ℕ → List ℕ → ℕ → ℕ → Type 0
Same b b' i j = (i < size b Membership) × (key b i ≡ key b' j) × (id b i ≡ id b' j)

alone : (b b' : List ℕ) → Good b → (i i' j : ℕ) → Same b b' i j → Same b b' i' j → i ≡ i'
alone b b' g i i' j (l, x, y) (l', x', y') =
    once b g Membership i i' (omega arith, omega arith) (omega arith, omega arith) (omega arith)

module _ (b b' : List ℕ) (u o : ℕ) (agree : Agree b b' u o) (w : ℕ) (start : Start u o w) (g : Good b) (g' : Good b') where
  -- ---- the records examined in a round

  -- An M record whose key's mark differs from the round before has one of the same key and id in the other block, whose key's mark does.
  record_on : (n i : ℕ) → n ≤ 31 → i < size b Membership → Differs b w n (key b i)
      → (j : ℕ) × (j < size b' Membership) × Differs b' w n (key b' j) × Same b b' i j
  unfolding Differs Is
  record_on n i h l (k, r, mark, new) =
      let near = mark_near b b' u o agree w start n (key b i) k h mark in
      let of : Of b Membership i = (omega arith, omega arith) in
      let (c, small, some) = is_at g Membership (at_self of) in
      let same = same_members b b' u o agree w start (key b i) (id b i) near c small in
      let (j, at) = counted g' Membership {x = key b i} {y = id b i} c (omega (arith, some, same)) in (
        j,
        omega (arith, at.of.1),
        subst (Differs b' w n) (sym at.has_key) (k, r, mark_on b b' u o agree w start n (key b i) k h mark, λ m. new (before_on b' b u o (agree_back b b' u o agree) w start n (key b i) k h m)),
        (l, sym at.has_key, sym at.has_id),
      )

  few_round : (n c c' : ℕ) → n ≤ 31 → HowMany (λ i. Differs b w n (key b i)) (size b Membership) c
      → HowMany (λ i. Differs b' w n (key b' i)) (size b' Membership) c' → c ≤ c'
  few_round n c c' h = no_more (Same b b') (alone b b' g) (λ i l d. record_on n i h l d)

pub same_numbers : (b b' : List ℕ) (u o w : ℕ) → Agree b b' u o → Start u o w → Good b → Good b' → (r t t' : ℕ) → r ≤ round_count
    → Examined b w r t → Examined b' w r t' → t ≡ t'
same_numbers b b' u o w agree start g g' r t t' h before before = refl
same_numbers b b' u o w agree start g g' r t t' h (round {r = n} {t = s} {n = c} e p) (round {t = s'} {n = c'} e' p') =
    let back = agree_back b b' u o agree in
    omega (
      arith,
      same_numbers b b' u o w agree start g g' n s s' (omega arith) e e',
      few_round b b' u o agree w start g g' n c c' (omega arith) p p',
      few_round b' b u o back w start g' g n c' c (omega arith) p' p,
    )
