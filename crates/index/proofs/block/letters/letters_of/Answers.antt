-- Which letters a kind may have, kind by kind: computed.
use mathlib.Core.Path.{refl}
use Rattle.index.specs.declared.Kind.TheVariants.{Membership, Permission, Filter}
use Rattle.index.specs.Letters.{may_have}
use Rattle.index.proofs.laws.block.MayHave.{letters_test_lem}
use Rattle.index.proofs.block.letters.letters_of.Goals as goal

pub returns-in-Membership : goal.returns-in-Membership
unfolding may_have
returns-in-Membership c = rw c.in-Membership.is (letters_test_lem Membership _ refl)

pub returns-in-Permission : goal.returns-in-Permission
unfolding may_have
returns-in-Permission c = rw c.in-Permission.is (letters_test_lem Permission _ refl)

pub returns-in-Filter : goal.returns-in-Filter
unfolding may_have
returns-in-Filter c = rw c.in-Filter.is (letters_test_lem Filter _ refl)
