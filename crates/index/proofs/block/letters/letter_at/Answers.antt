-- `index::block::letters::letter_at` meets its contract: each entry of the table is right.
use Prim.Native.Nat.{ℕ, ◌*◌, ◌^◌}
use mathlib.Core.Path.{◌≡◌}
use mathlib.Core.List.{List, [], ◌∷◌}
use lib.ListN.{get_or}
use native.Mathlib.Omega.{arith}
use borrow.Author.Rules.{rules}
use Rattle.index.specs.declared.block.letters.Letter.{Letter}
use Rattle.index.specs.Letters.{letter_count, letters}
use Rattle.index.proofs.laws.Range.{Listed, listed}
use Rattle.index.proofs.block.letters.letter_at.Goals as goal

abbrev entry : ℕ → ℕ → Letter
entry m b = record { mask = m; byte = b }

-- The entries of letters with these bytes, the first with the mask m, each with twice the mask of the one before.
abbrev entries : ℕ → List ℕ → List Letter
entries m [] = []
entries m (b ∷ bs) = entry m b ∷ entries (2 * m) bs

abbrev table : List Letter
table = entries 1 letters

abbrev Right : ℕ → Type 0
Right k = ((get_or table k (entry 0 0)).mask ≡ 2 ^ k) × ((get_or table k (entry 0 0)).byte ≡ get_or letters k 0)

all_right : Listed Right letter_count
unfolding letters
all_right = omega arith

pub returns : goal.returns
unfolding letters
returns c = listed Right letter_count all_right c.args.k (search rules)
