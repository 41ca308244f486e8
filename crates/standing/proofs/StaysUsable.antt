-- The block that make leaves is usable, and so is every block after it.
use Prim.Native.Nat.{ℕ}
use native.Mathlib.Omega.{arith}
use mathlib.Core.Path.{◌≡◌}
use mathlib.Core.List.{List}
use lib.ListN.{length}
use Rattle.index.specs.Block.{greatest_length, Sized}
use Rattle.index.specs.Wide.Sent.{plain}
use Rattle.index.specs.Calls.{Message, Made, Makes, make_needs}
use Rattle.index.proofs.laws.Firsts.{first_sure}
use Rattle.index.proofs.laws.message.StaysGood.{stays_good}
use Rattle.standing.specs.Printed.{Fed}
use Rattle.standing.specs.Printed.Fed.{done, piece}
use Rattle.standing.specs.work.Room.{Usable}

pub still_usable : (b m b' : List ℕ) (r : ℕ) → Message b m (r, b') → Usable b → Usable b'
unfolding Sized
still_usable b m b' r h u =
    let s = stays_good b (plain m) (r, b') h u.good in
    record { sized = omega (arith, u.sized, s.1); good = s.0 }

pub fed_usable : {b : List ℕ} {n : ℕ} {input lines b' : List ℕ} → Usable b → Fed b n input lines b' → Usable b'
fed_usable u done = u
fed_usable u (piece r p f) = fed_usable (still_usable _ _ _ r p u) f

module _ (b b' : List ℕ) (r : ℕ) (l : length b ≡ greatest_length) (h : Makes b (r, b')) where
  pub is_made : Made b (r, b')
  unfolding Makes make_needs Sized
  is_made = first_sure (λ n. (n, b)) (Made b) (r, b') (make_needs b) ((omega arith, omega arith), tt) h

  pub made_usable : Usable b'
  unfolding Sized
  made_usable = record { sized = omega (arith, is_made.2); good = is_made.1 }
