-- `questions::profile_of` meets its contract: the profile of a number, or 15.
use Rattle.std.proofs.Common.{inl, inr, ⊎_elim, refl, arith}
use Rattle.rights.specs.Profiles.{IsProfile, profile_of}
use Rattle.rights.proofs.questions.profile_of.Goals as goal

pub returns-in-0-clause-number : goal.returns-in-0-clause-number
unfolding IsProfile
returns-in-0-clause-number c = inr (inl c.in-0.is, refl)

pub returns-in-0-clause-same : goal.returns-in-0-clause-same
unfolding profile_of
returns-in-0-clause-same c = rw c.in-0.is refl

pub returns-in-1-clause-number : goal.returns-in-1-clause-number
unfolding IsProfile
returns-in-1-clause-number c = inr (inr c.in-1.is, refl)

pub returns-in-1-clause-same : goal.returns-in-1-clause-same
unfolding profile_of
returns-in-1-clause-same c = rw c.in-1.is refl

pub returns-in_default-clause-number : goal.returns-in_default-clause-number
unfolding IsProfile
returns-in_default-clause-number c = inl ((λ p. ⊎_elim (λ e. omega arith) (λ e. omega arith) p), refl)
