-- Each number that M-103 gives to a call is given for some input.
use Prim.Native.Nat.{ℕ, ◌<◌}
use mathlib.Core.Path.{refl}
use mathlib.Core.List.{List, [], ◌∷◌, ◌++◌}
use mathlib.Core.Logic.{inl, inr, ⊎_elim}
use native.Mathlib.Omega.{arith}
use lib.ListN.{length}
use Rattle.index.specs.Letters.{may_have}
use Rattle.index.specs.Numbers.{Answers, Each}
use Rattle.index.specs.Block.{name_count, number, count_at, Sized}
use Rattle.index.specs.Calls.{block_needs}
use Rattle.index.proofs.laws.Answer.{yes_is}
use Rattle.index.proofs.laws.Firsts.{first_all, refuses, answers_first, answers_next}
use Rattle.index.proofs.laws.block.GoodTest.{good_test_lem}
use Rattle.rights.specs.Through.{through_needs, LetsThrough}
use Rattle.rights.proofs.laws.questions.Letting.{all_named}
use Rattle.slips.specs.Slip.{Slip, Shortest}
use Rattle.slips.specs.Calls.{OneRight, check_needs, ChecksSlip, find_needs, FindsSlip}
use Rattle.slips.proofs.laws.Rights.{right_none}
use Rattle.slips.proofs.laws.tests.SlipTest.{slip_says}
use Rattle.tight.specs.Blocks.{zeros, nothing, reads}
use Rattle.tight.specs.EachNumber.{FindGives, CheckGives, LetsGive, find_numbers, check_numbers, lets_numbers}
use Rattle.tight.proofs.NotVacuous.{not_zero, past_block}
use Rattle.tight.proofs.Starred.{◌and◌}
use Rattle.tight.proofs.SlipTable.{named_test_lem, one, find_all, chains_right, through_right}

-- ---- a requirement that does not hold gives its number

module _ (b : List ℕ) (u o r : ℕ) (above : 0 < r) where
  find_gives : (right : ℕ) (us os : List ℕ) → Answers (find_needs b u o right us os) r → FindGives r
  unfolding FindsSlip
  find_gives right us os a = (b, u, o, right, us, os, (0, 0, us, os), refuses _ _ (find_needs b u o right us os) (not_zero b r above) a)

  check_gives : (right : ℕ) (us os : List ℕ) → Answers (check_needs b u o right us os) r → CheckGives r
  unfolding ChecksSlip
  check_gives right us os a = (b, u, o, right, us, os, 0, refuses _ _ (check_needs b u o right us os) (not_zero b r above) a)

  -- One of the block, the user and the object gives it in each of the calls.
  slips_give : Answers (through_needs b u o) r → FindGives r × CheckGives r × LetsGive r
  unfolding find_needs check_needs LetsThrough
  slips_give a = (
    find_gives 1 [] [] (answers_first (through_needs b u o) _ (not_zero b r above) a),
    check_gives 1 [] [] (answers_first (through_needs b u o) _ (not_zero b r above) a),
    (b, u, o, 0, refuses _ _ (through_needs b u o) (not_zero b r above) a),
  )

-- A block of no bytes, one whose header is all zero, and user name_count.
no_bytes : FindGives 1 × CheckGives 1 × LetsGive 1
unfolding through_needs block_needs Sized
no_bytes = slips_give [] 0 0 1 (omega arith) (inl ((λ s. omega (arith, s.0)), refl))

no_header : FindGives 2 × CheckGives 2 × LetsGive 2
unfolding through_needs block_needs Sized number
no_header = slips_give (zeros 16) 0 0 2 (omega arith) (inr ((omega arith, omega arith), inl ((λ g. omega (arith, g.m_offset)), refl)))

no_user : FindGives 4 × CheckGives 4 × LetsGive 4
unfolding through_needs
no_user = slips_give nothing name_count 9 4 (omega arith) (past_block _ 4 (inl ((λ n. omega (arith, n.0)), refl)))

-- ---- what follows the block and the names

pub past_names : (us : List (ℕ × Type 0)) (r : ℕ) → Answers us r → Answers (through_needs nothing 1 9 ++ us) r
unfolding number count_at may_have
past_names us r a = answers_next (through_needs nothing 1 9) us r (all_named nothing 1 9 (named_test_lem nothing 1 9 refl)) a

-- The mask 3 names two rights.
not_one : OneRight 3 → ⊥
not_one = right_none 3 (λ e. omega arith) (λ e. omega arith) (λ e. omega arith) (λ e. omega arith)

two_rights : FindGives 5 × CheckGives 5
unfolding find_needs check_needs
two_rights = (
  find_gives nothing 1 9 5 (omega arith) 3 [] [] (past_names _ 5 (inl (not_one, refl))),
  check_gives nothing 1 9 5 (omega arith) 3 [] [] (past_names _ 5 (inr ((tt, tt), inl (not_one, refl)))),
)

-- "4 (a slip's names too)": a list has the name name_count, and then the mask and the other list do not matter.
no_name : CheckGives 4
unfolding check_needs
no_name = check_gives nothing 1 9 4 (omega arith) 3 (name_count ∷ []) [] (past_names _ 4 (inl ((λ n. omega (arith, n.0.0)), refl)))

-- Lists without a place or a name.
no_places : FindGives 10 × CheckGives 11
unfolding find_needs check_needs
no_places =
    let right = one 1 (omega arith) in (
      find_gives nothing 1 9 10 (omega arith) 2 [] [] (past_names _ 10 (inr (right, inl ((λ l. omega (arith, l.0)), refl)))),
      check_gives nothing 1 9 11 (omega arith) 2 [] [] (past_names _ 11 (inr ((tt, tt), inr (right, inl ((λ l. omega (arith, l.0.0)), refl))))),
    )

-- ---- a slip with a name on each list, which none can have fewer than

some_names : (b : List ℕ) (u o k : ℕ) (us os : List ℕ) → Slip b u o k us os → (0 < length us) × (0 < length os)
some_names b u o k us os s = (s.user_names.some, ⊎_elim (λ n. n.some) (λ z. rw z (omega arith)) s.object_names)

shortest : Shortest (reads 1) 1 9 1 (1 ∷ []) (9 ∷ [])
unfolding number count_at may_have
shortest = record {
  slip = yes_is refl (slip_says (good_test_lem (reads 1) refl) 1 (omega arith) 1 9 (1 ∷ []) (9 ∷ []));
  least = λ us os s. let few = some_names (reads 1) 1 9 1 us os s in omega (arith, few.0, few.1);
}

accepted : FindsSlip (reads 1) 1 9 2 (zeros 33) (zeros 33) (0, 1, 1, 1 ∷ zeros 32, 9 ∷ zeros 32)
unfolding FindsSlip number count_at may_have
accepted =
    first_all _ _ _ (find_needs (reads 1) 1 9 2 (zeros 33) (zeros 33))
    (find_all (reads 1) 1 9 1 (omega arith) (named_test_lem (reads 1) 1 9 refl) (zeros 33) (zeros 33) (omega arith) (omega arith))
    (inl (1 ∷ [], 9 ∷ [], (1, omega arith, refl, shortest), refl))

-- ---- each number

pub find_numbers_lem : Each FindGives find_numbers
find_numbers_lem =
    (reads 1, 1, 9, 2, zeros 33, zeros 33, _, accepted) and no_bytes.0 and no_header.0 and no_user.0 and two_rights.0 and no_places.0 and tt

pub check_numbers_lem : Each CheckGives check_numbers
check_numbers_lem = (_, _, _, _, _, _, _, chains_right.0) and no_bytes.1 and no_header.1 and no_name and two_rights.1 and no_places.1 and tt

pub lets_numbers_lem : Each LetsGive lets_numbers
lets_numbers_lem = (_, _, _, _, through_right.0) and no_bytes.2 and no_header.2 and no_user.2 and tt
