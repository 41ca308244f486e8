-- M-113, "What can't bear on my rights": the records that can, and the call that asks whether a record is one. All quotations are from there, but where
-- another paper is named.
use Rattle.std.specs.Prelude.{ℕ, ◌≡◌, List, [], ◌∷◌, ◌++◌, ◌⊎◌, Bool, Result}
use Rattle.index.specs.declared.Kind.{Kind}
use Rattle.index.specs.declared.Kind.TheVariants.{Membership, Permission, Filter}
use Rattle.index.specs.Numbers.{First}
use Rattle.index.specs.Block.{IsName}
use Rattle.index.specs.Message.{IsKind, kind_of}
use Rattle.index.specs.Calls.{block_needs}
use Rattle.index.specs.declared.refusals.Refusal.{Refusal}
use Rattle.rights.specs.Held.{Looked}
use Rattle.rights.specs.Questions.{YesWhen, AnswerMeans}
use Rattle.rights.specs.Near.{Near}

-- In the block b the record of the kind with the key x and the id y, which need not be there, bears on the rights of the user u on the object o. It is
-- one of "these":
unfoldable pub Bears : List ℕ → ℕ → ℕ → Kind → ℕ → ℕ → Type 0
-- "M records, markers too, whose key is reached from user or object by chains of at most 31 records, masks disregarded"
Bears b u o Membership x y = Near 31 b u x ⊎ Near 31 b o x
-- "P records whose key is reached from the object by at most 32, or is 0, and whose id is reached from the user by at most 32"
Bears b u o Permission x y = (Near 32 b o x ⊎ (x ≡ 0)) × Near 32 b u y
-- "F records of the object and of the groups its M records name"
Bears b u o Filter x y = Looked b o x

-- ---- the call

-- 3: "kind not 1 to 3"; 4: "a name above 1023, given by the caller" (both 01).
unfoldable pub record_needs : ℕ → ℕ → ℕ → ℕ → ℕ → List (ℕ × Type 0)
record_needs u o kind x y = (3, IsKind kind) ∷ (4, IsName u × IsName o × IsName x × IsName y) ∷ []

-- Before them come 1 and 2 of the block.
unfoldable pub bears_needs : List ℕ → ℕ → ℕ → ℕ → ℕ → ℕ → List (ℕ × Type 0)
bears_needs b u o kind x y = block_needs b ++ record_needs u o kind x y

-- bears: the number, and 1 for yes, exactly when the record bears, or 0 for no.
unfoldable pub Bearing : List ℕ → ℕ → ℕ → ℕ → ℕ → ℕ → (ℕ × ℕ) → Type 0
Bearing b u o kind x y a = First (λ n. (n, 0)) (bears_needs b u o kind x y) (YesWhen (Bears b u o (kind_of kind) x y)) a

-- What an answer of the code stands for.
unfoldable pub AsksBearing : List ℕ → ℕ → ℕ → ℕ → ℕ → ℕ → Result Bool Refusal → Type 0
AsksBearing b u o kind x y r = AnswerMeans (Bearing b u o kind x y) r
