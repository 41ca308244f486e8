-- `limited::rights_to` meets its contract: the tests, and then the rights held to the limit.
use Rattle.std.proofs.Common.{ℕ, ◌≤◌, refl, inl, arith}
use Rattle.index.proofs.laws.Refusing.{some, means_refused}
use Rattle.rights.specs.Held.{chain_limit}
use Rattle.rights.specs.HeldTo.{limit_needs, HeldTo, AsksTo}
use Rattle.rights.specs.Profiles.{profile_of}
use Rattle.rights.proofs.laws.questions.Requiring.{after_block, without_profile, every_asked, refused_block, refused_every, refused_after, accepts}
use Rattle.rights.proofs.limited.rights_to.Goals as goal

pub returns-in_err-source : goal.returns-in_err-source
unfolding AsksTo HeldTo limit_needs
returns-in_err-source c =
    let a = c.args in
    means_refused (λ (n : ℕ). n) 0 (HeldTo a.block.now a.user a.object a.request a.limit) c.from_residual.result _ c.from_residual.ensures.1
    (refused_block a.block.now a.user a.object a.request 14 (a.limit ≤ chain_limit) (λ n. (n, 0)) _ (some _) c.in_err-source.ensures.number)

pub returns-in_err-question : goal.returns-in_err-question
unfolding AsksTo HeldTo limit_needs
returns-in_err-question c =
    let a = c.args in
    let every = after_block a.block.now _ _ c.in_ok-source.ensures.number
    (without_profile a.user a.object a.request _ c.in_err-question.ensures.number) in
    means_refused (λ (n : ℕ). n) 0 (HeldTo a.block.now a.user a.object a.request a.limit) c.from_residual-in_err-question.result _
    c.from_residual-in_err-question.ensures.1
    (refused_every a.block.now a.user a.object a.request 14 (a.limit ≤ chain_limit) (λ n. (n, 0)) _ (some _) every)

pub returns-then-limit-gt-LAST_LIMIT : goal.returns-then-limit-gt-LAST_LIMIT
unfolding AsksTo HeldTo limit_needs
returns-then-limit-gt-LAST_LIMIT c =
    let every = after_block _ _ _ c.in_ok-source.ensures.number (without_profile _ _ _ _ c.in_ok-question.ensures.number) in
    refused_after _ _ _ _ 14 _ (λ n. (n, 0)) _ (every_asked _ _ _ _ refl every) (λ e. omega (arith, e))
    (inl ((λ l. omega (arith, l, c.if-limit-gt-LAST_LIMIT.true)), refl))

pub returns : goal.returns
unfolding AsksTo HeldTo limit_needs profile_of
returns c =
    let every = after_block _ _ _ c.in_ok-source.ensures.number (without_profile _ _ _ _ c.in_ok-question.ensures.number) in
    let same = c.in_ok-question.ensures.same in
    let limited = rw (c.in_ok-source.ensures.same, same.0, same.1, same.2, same.3) at c.within.ensures.limited in
    accepts _ _ _ _ 14 _ (λ n. (n, 0)) _ (0, c.within.result.rights) (every_asked _ _ _ _ refl every)
    (omega (arith, c.if-limit-gt-LAST_LIMIT.false)) (refl, limited)
