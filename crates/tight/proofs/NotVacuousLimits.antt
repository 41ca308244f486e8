-- Each number that M-111 gives to a call is given for some input, and 14 is the last.
use Prim.Native.Nat.{ℕ}
use mathlib.Core.Path.{◌≡◌, refl}
use mathlib.Core.List.{[]}
use mathlib.Core.Logic.{inl, inr}
use native.Mathlib.Omega.{arith}
use Rattle.index.specs.Numbers.{Each}
use Rattle.index.specs.Block.{name_count, number, Sized}
use Rattle.index.specs.Calls.{block_needs}
use Rattle.rights.specs.HeldTo.{limit_needs, HeldWithin}
use Rattle.rights.specs.Questions.{ask_needs}
use Rattle.rights.proofs.laws.questions.Requiring.{refused_every}
use Rattle.tight.specs.Blocks.{zeros, nothing}
use Rattle.tight.specs.Limits.{Engine}
use Rattle.tight.specs.EachNumber.{EngineGives, AskGives, AnyLimitGives, before_limit, ask_numbers, engine_numbers}
use Rattle.tight.proofs.NotVacuous.{past_block}
use Rattle.tight.proofs.Starred.{◌and◌}
use Rattle.tight.proofs.LimitTable.{Inside, promises, direct_right, further_right}

-- A block of no bytes, and one whose header is all zero.
no_block : AskGives 1 × AskGives 2
unfolding block_needs Sized number
no_block = (
  ([], 1, 9, 15, inl ((λ s. omega (arith, s.0)), refl)),
  (zeros 16, 1, 9, 15, inr ((omega arith, omega arith), inl ((λ g. omega (arith, g.m_offset)), refl))),
)

-- User name_count, and request 0.
no_question : AskGives 4 × AskGives 5
no_question = (
  (nothing, name_count, 9, 15, past_block (ask_needs name_count 9 15) 4 (inl ((λ n. omega (arith, n.0)), refl))),
  (nothing, 1, 9, 0, past_block (ask_needs 1 9 0) 5 (inr ((omega arith, omega arith), inl ((λ n. omega (arith, n.0)), refl)))),
)

-- All is as it should be.
question : AskGives 0
question = (nothing, 1, 9, 15, past_block (ask_needs 1 9 15) 0 (inr ((omega arith, omega arith), inr ((omega arith, omega arith), refl))))

pub ask_numbers_lem : Each AskGives ask_numbers
ask_numbers_lem = question and no_block.0 and no_block.1 and no_question.0 and no_question.1 and tt

-- Both engines give it then, whatever the limit.
gives : {r : ℕ} → (r ≡ 0 → ⊥) → AskGives r → AnyLimitGives r
unfolding limit_needs
gives {r} some (b, u, o, request, a) = (
  b,
  u,
  o,
  request,
  λ e limit.
      promises e b u o request limit (r, 0)
      (refused_every b u o request 14 (Inside e b limit) (λ n. (n, 0)) (HeldWithin limit b u o request) some a),
)

pub before_limit_lem : Each AnyLimitGives before_limit
before_limit_lem =
    gives (λ e. omega (arith, e)) no_block.0 and gives (λ e. omega (arith, e)) no_block.1
    and gives (λ e. omega (arith, e)) no_question.0 and gives (λ e. omega (arith, e)) no_question.1 and tt

-- Both give it, with the limit 0.
of_engine : {n : ℕ} → AnyLimitGives n → (e : Engine) → EngineGives e n
of_engine (b, u, o, request, refused) e = (b, u, o, request, 0, 0, refused e 0)

-- 14, by the limits 9 and 33. (`crowded` has it of the plain engine by 65 M records too.)
too_long : (e : Engine) → EngineGives e 14
too_long Engine.plain = (_, _, _, _, _, _, further_right.1.0.1)
too_long Engine.walk = (_, _, _, _, _, _, further_right.1.1.1.1.1.1.1.1.1.0 Engine.walk)

pub engine_numbers_lem : (e : Engine) → Each (EngineGives e) engine_numbers
engine_numbers_lem e =
    (_, _, _, _, _, _, direct_right.0 e)
    and of_engine before_limit_lem.0 e
    and of_engine before_limit_lem.1.0 e
    and of_engine before_limit_lem.1.1.0 e
    and of_engine before_limit_lem.1.1.1.0 e
    and too_long e
    and tt
