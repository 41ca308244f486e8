-- Each number that M-113 gives to a call is given for some input; 4 is the last of `bears`, and 14 the last of `is_near`.
use Prim.Native.Nat.{ℕ}
use mathlib.Core.Path.{◌≡◌, refl}
use mathlib.Core.List.{List, []}
use mathlib.Core.Logic.{inl, inr}
use native.Mathlib.Omega.{arith}
use Rattle.index.specs.Numbers.{Answers, Each}
use Rattle.index.specs.Block.{name_count, IsName, number, Sized}
use Rattle.index.specs.Message.{IsKind}
use Rattle.index.specs.Calls.{block_needs}
use Rattle.index.proofs.laws.Firsts.{refuses, answers_first}
use Rattle.rights.specs.Near.{near_needs, IsNear}
use Rattle.rights.specs.Through.{through_needs}
use Rattle.bearing.specs.Bearing.{record_needs, bears_needs, Bearing}
use Rattle.tight.specs.Blocks.{zeros, nothing}
use Rattle.tight.specs.EachNumber.{BearsGives, AnyNamesGive, EachNameGives, NearGives, AnyReachGives, bears_answers, near_answers, before_names, before_reach}
use Rattle.tight.proofs.NotVacuous.{past_block}
use Rattle.tight.proofs.NotVacuousSlips.{past_names}
use Rattle.tight.proofs.Starred.{◌and◌}
use Rattle.tight.proofs.BearingTable.{memberships_right, elsewhere_right, reaches_right}

-- ---- a requirement that does not hold gives its number

bears_refuses : (b : List ℕ) (u o kind x y : ℕ) {r : ℕ} → (r ≡ 0 → ⊥) → Answers (bears_needs b u o kind x y) r → Bearing b u o kind x y (r, 0)
unfolding Bearing
bears_refuses b u o kind x y some a = refuses (λ n. (n, 0)) _ (bears_needs b u o kind x y) some a

near_refuses : (b : List ℕ) (x z limit : ℕ) {r : ℕ} → (r ≡ 0 → ⊥) → Answers (near_needs b x z limit) r → IsNear b x z limit (r, 0)
unfolding IsNear
near_refuses b x z limit some a = refuses (λ n. (n, 0)) _ (near_needs b x z limit) some a

-- One of the block, or of the names, comes before the limit.
any_limit : (b : List ℕ) (x z : ℕ) {r : ℕ} → (r ≡ 0 → ⊥) → Answers (through_needs b x z) r → AnyReachGives r
unfolding near_needs
any_limit b x z some a = (b, x, z, λ limit. near_refuses b x z limit some (answers_first (through_needs b x z) _ some a))

-- One of the block comes before all others.
module _ (b : List ℕ) {r : ℕ} (some : r ≡ 0 → ⊥) (a : Answers (block_needs b) r) where
  any_names : AnyNamesGive r
  unfolding bears_needs
  any_names = (b, 1, λ u o x y. bears_refuses b u o 1 x y some (answers_first (block_needs b) (record_needs u o 1 x y) some a))

  any_reach : AnyReachGives r
  unfolding through_needs
  any_reach = any_limit b 1 9 some (answers_first (block_needs b) _ some a)

-- A block of no bytes, and one whose header is all zero.
no_bytes : Answers (block_needs []) 1
unfolding block_needs Sized
no_bytes = inl ((λ s. omega (arith, s.0)), refl)

no_header : Answers (block_needs (zeros 16)) 2
unfolding block_needs Sized number
no_header = inr ((omega arith, omega arith), inl ((λ g. omega (arith, g.m_offset)), refl))

-- Kind 0, whatever the names.
no_kind : AnyNamesGive 3
unfolding bears_needs record_needs IsKind
no_kind = (nothing, 0, λ u o x y. bears_refuses nothing u o 0 x y (λ z. omega arith) (past_block _ 3 (inl ((λ k. omega (arith, k.0)), refl))))

-- One of the four names is none.
no_name : (u o kind x y : ℕ) → IsKind kind → (IsName u × IsName o × IsName x × IsName y → ⊥) → Bearing nothing u o kind x y (4, 0)
unfolding bears_needs record_needs
no_name u o kind x y is none = bears_refuses nothing u o kind x y (λ z. omega arith) (past_block _ 4 (inr (is, inl (none, refl))))

pub each_name : (kind : ℕ) → IsKind kind → EachNameGives nothing kind 4 name_count
each_name kind is x y z = (
  no_name name_count x kind y z is (λ n. omega (arith, n.0)),
  no_name x name_count kind y z is (λ n. omega (arith, n.1)),
  no_name x y kind name_count z is (λ n. omega (arith, n.2)),
  no_name x y kind z name_count is (λ n. omega (arith, n.3)),
)

-- The start name_count, whatever the limit; and the limit 33.
no_start : AnyReachGives 4
unfolding through_needs
no_start = any_limit nothing name_count 9 (λ z. omega arith) (past_block _ 4 (inl ((λ n. omega (arith, n.0)), refl)))

pub too_far : IsNear nothing 1 9 33 (14, 0)
unfolding near_needs
too_far = near_refuses nothing 1 9 33 (λ z. omega arith) (past_names _ 14 (inl ((λ l. omega (arith, l)), refl)))

-- ---- each number

pub before_names_lem : Each AnyNamesGive before_names
before_names_lem = any_names [] (λ z. omega arith) no_bytes and any_names (zeros 16) (λ z. omega arith) no_header and no_kind and tt

pub before_reach_lem : Each AnyReachGives before_reach
before_reach_lem = any_reach [] (λ z. omega arith) no_bytes and any_reach (zeros 16) (λ z. omega arith) no_header and no_start and tt

-- For the names 1, 9, 1 and 9, and with the limit 0.
of_names : (n : ℕ) → AnyNamesGive n → BearsGives (n, 0)
of_names n (b, kind, refused) = (b, 1, 9, kind, 1, 9, refused 1 9 1 9)

of_reach : (n : ℕ) → AnyReachGives n → NearGives (n, 0)
of_reach n (b, x, z, refused) = (b, x, z, 0, refused 0)

pub bears_answers_lem : Each BearsGives bears_answers
unfolding IsKind
bears_answers_lem =
    (_, _, _, _, _, _, memberships_right.0.0.0)
    and (_, _, _, _, _, _, elsewhere_right.0.0.0)
    and of_names 1 before_names_lem.0
    and of_names 2 before_names_lem.1.0
    and of_names 3 before_names_lem.1.1.0
    and (_, _, _, _, _, _, (each_name 1 (omega arith, omega arith) 1 9 9).0)
    and tt

pub near_answers_lem : Each NearGives near_answers
near_answers_lem =
    (_, _, _, _, reaches_right.0)
    and (_, _, _, _, reaches_right.1.0)
    and of_reach 1 before_reach_lem.0
    and of_reach 2 before_reach_lem.1.0
    and of_reach 4 before_reach_lem.1.1.0
    and (_, _, _, _, too_far)
    and tt
