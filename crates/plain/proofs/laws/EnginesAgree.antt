-- M-111: "proved equal to the main walk held to that limit", since both promise the same rights; and the plain engine has one answer.
use Prim.Native.Nat.{ℕ, ◌≤◌}
use mathlib.Core.Path.{◌≡◌}
use mathlib.Core.List.{List}
use native.Mathlib.Omega.{arith}
use Rattle.index.specs.declared.Kind.TheVariants.{Membership}
use Rattle.index.specs.Block.{size}
use Rattle.std.specs.Prelude.{Result}
use Rattle.index.specs.declared.refusals.Refusal.{Refusal}
use Rattle.rights.specs.HeldTo.{HeldTo, AsksTo}
use Rattle.rights.proofs.laws.questions.OneAnswer.{given_same}
use Rattle.rights.proofs.laws.questions.Limits.{one_within, as_other, one_held_to}
use Rattle.plain.specs.Plain.{greatest_limit, most_records, Small, Within, AsksWithin, EnginesAgree}

module _ (b : List ℕ) (u o request limit : ℕ) where
  pub one_plain : (a c : ℕ × ℕ) → Within b u o request limit a → Within b u o request limit c → a ≡ c
  unfolding Within
  one_plain = one_within b u o request limit (Small b limit)

  pub one_asks_within : (r s : Result ℕ Refusal) → AsksWithin b u o request limit r → AsksWithin b u o request limit s → r ≡ s
  unfolding AsksWithin
  one_asks_within = given_same (Within b u o request limit) (Within b u o request limit) one_plain

-- Where 14 is not due, the plain engine's outcome is one of the main walk, so that the outcomes are the same, and with them the answers of the
-- code, as the two public functions promise them.
module _ (b : List ℕ) (u o request limit : ℕ) (few : limit ≤ greatest_limit) (small : size b Membership ≤ most_records) where
  pub as_walked : (a : ℕ × ℕ) → Within b u o request limit a → HeldTo b u o request limit a
  unfolding Within HeldTo
  as_walked = as_other b u o request limit (few, small) (omega (arith, few))

  pub outcomes_agree : (a c : ℕ × ℕ) → Within b u o request limit a → HeldTo b u o request limit c → a ≡ c
  outcomes_agree a c p q = one_held_to b u o request limit a c (as_walked a p) q

pub engines_agree : EnginesAgree
unfolding AsksWithin AsksTo
engines_agree b u o request limit r s few small p q =
    given_same (Within b u o request limit) (HeldTo b u o request limit) (outcomes_agree b u o request limit few small) r s p q
