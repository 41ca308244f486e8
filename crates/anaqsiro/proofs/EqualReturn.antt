-- M-113, of the calls in C: of two good blocks that agree both questions return the same number.
use Prim.Native.Nat.{ℕ}
use mathlib.Core.Path.{◌≡◌}
use mathlib.Core.List.{List}
use Rattle.index.specs.Block.{Sized, Good}
use Rattle.directory.specs.Directory.{Own}
use Rattle.rights.specs.Questions.{Full, Short, FullBy, ShortBy}
use Rattle.bearing.specs.EqualAnswers.{Agree}
use Rattle.bearing.proofs.laws.EqualAnswers.{same_full, same_short, full_by, short_by}
use Rattle.anaqsiro.specs.Returned.{RightsReturns, MayReturns, RightsByReturns, MayByReturns}
use Rattle.anaqsiro.proofs.OneReturn.{two_answers, two_in_parts}

module _ (b b' : List ℕ) (u o : ℕ) (sized : Sized b) (good : Good b) (sized' : Sized b') (good' : Good b') (agree : Agree b b' u o)
    (profile request r r' : ℕ) where
  pub equal_rights_return : RightsReturns b u o request profile r → RightsReturns b' u o request profile r' → r ≡ r'
  unfolding RightsReturns
  equal_rights_return =
      two_in_parts (Full b u o request profile) (Full b' u o request profile)
      (same_full b b' u o sized good sized' good' agree profile request) r r'

  pub equal_may_return : MayReturns b u o request profile r → MayReturns b' u o request profile r' → r ≡ r'
  unfolding MayReturns
  equal_may_return =
      two_answers (Short b u o request profile) (Short b' u o request profile)
      (same_short b b' u o sized good sized' good' agree profile request) r r'

  -- By the blocks' own directories.
  module _ (d d' : List ℕ) (own : Own b d) (own' : Own b' d') where
    pub equal_rights_by_return : RightsByReturns b d u o request profile r → RightsByReturns b' d' u o request profile r' → r ≡ r'
    unfolding RightsByReturns
    equal_rights_by_return =
        two_in_parts (FullBy b d u o request profile) (FullBy b' d' u o request profile)
        (full_by b b' u o profile (same_full b b' u o sized good sized' good' agree profile) (same_short b b' u o sized good sized' good' agree profile) d d' own own' request) r r'

    pub equal_may_by_return : MayByReturns b d u o request profile r → MayByReturns b' d' u o request profile r' → r ≡ r'
    unfolding MayByReturns
    equal_may_by_return =
        two_answers (ShortBy b d u o request profile) (ShortBy b' d' u o request profile)
        (short_by b b' u o profile (same_full b b' u o sized good sized' good' agree profile) (same_short b b' u o sized good sized' good' agree profile) d d' own own' request) r r'
