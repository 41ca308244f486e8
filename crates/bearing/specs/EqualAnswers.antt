-- M-113, "What can't bear on my rights": the theorem, over what the public functions promise, and what it says to her. All quotations are from there.
use Rattle.std.specs.Prelude.{ℕ, ◌<◌, ◌≡◌, List, [], ◌∷◌, ◌++◌, ◌↔◌, Bool, false, Result, Ok}
use Rattle.index.specs.declared.Kind.{Kind}
use Rattle.index.specs.Letters.{letter_count}
use Rattle.index.specs.Numbers.{Each}
use Rattle.index.specs.Block.{Sized, Good, count}
use Rattle.index.specs.Message.{kind_number}
use Rattle.index.specs.Wide.{Sent, previous_of, new_of}
use Rattle.index.specs.Calls.{Sends}
use Rattle.directory.specs.Directory.{Own}
use Rattle.index.specs.declared.refusals.Refusal.{Refusal}
use Rattle.rights.specs.declared.grants.Reach.{Reach}
use Rattle.rights.specs.Questions.{Asks, AsksAll, AsksBy, AsksAllBy}
use Rattle.bearing.specs.Bearing.{Bears, AsksBearing}

-- ---- "they agree"

-- The two blocks have the same record of the kind with the key x and the id y: each of its ten counts, 0 where it is missing; so, of M records,
-- "markers too".
abbrev pub SameRecord : List ℕ → List ℕ → Kind → ℕ → ℕ → Type 0
SameRecord b b' kind x y = (k : ℕ) → k < letter_count → count b kind x y k ≡ count b' kind x y k

-- "they agree on these": on each record that bears. It is said of the first block which records these are.
unfoldable pub Agree : List ℕ → List ℕ → ℕ → ℕ → Type 0
Agree b b' u o = (kind : Kind) (x y : ℕ) → Bears b u o kind x y → SameRecord b b' kind x y

-- Where two blocks agree, the same records bear in both, so that it does not matter in which of the two "reached" is meant,
abbrev pub BearsInBoth : Type 0
BearsInBoth = (b b' : List ℕ) (u o : ℕ) → Agree b b' u o → (kind : Kind) (x y : ℕ) → Bears b u o kind x y ↔ Bears b' u o kind x y

-- and they agree the other way round.
abbrev pub AgreeBack : Type 0
AgreeBack = (b b' : List ℕ) (u o : ℕ) → Agree b b' u o → Agree b' b u o

-- ---- "equal answers to both questions"

-- Whatever the request, what `rights_of` promises to answer of the two blocks is the same, "M-109's counts included", and what `may` promises too.
abbrev pub AnswersEqual : List ℕ → List ℕ → ℕ → ℕ → ℕ → Type 0
AnswersEqual b b' u o profile =
    (request : ℕ)
    → ((r r' : Result Reach Refusal) → Asks b u o request profile r → Asks b' u o request profile r' → r ≡ r')
    × ((r r' : Result Bool Refusal) → AsksAll b u o request profile r → AsksAll b' u o request profile r' → r ≡ r')

-- "For one user, object and profile, prove that two good blocks give equal answers to both questions, M-109's counts included, if they agree on these".
-- They may have any two lengths that blocks may have.
abbrev pub EqualAnswers : Type 0
EqualAnswers =
    (b b' : List ℕ) (u o profile : ℕ) → Sized b → Good b → Sized b' → Good b' → Agree b b' u o → AnswersEqual b b' u o profile

-- The same by directories, each its block's own: `rights_by` and `may_by`.
abbrev pub AnswersEqualBy : List ℕ → List ℕ → List ℕ → List ℕ → ℕ → ℕ → ℕ → Type 0
AnswersEqualBy b d b' d' u o profile =
    (request : ℕ)
    → ((r r' : Result Reach Refusal) → AsksBy b d u o request profile r → AsksBy b' d' u o request profile r' → r ≡ r')
    × ((r r' : Result Bool Refusal) → AsksAllBy b d u o request profile r → AsksAllBy b' d' u o request profile r' → r ≡ r')

abbrev pub EqualAnswersBy : Type 0
EqualAnswersBy =
    (b d b' d' : List ℕ) (u o profile : ℕ) → Sized b → Good b → Sized b' → Good b' → Own b d → Own b' d' → Agree b b' u o
    → AnswersEqualBy b d b' d' u o profile

-- ---- what it says to her

-- Whatever the profile, no answer to a question about the user and the object is another one, without a directory or by the block's own.
abbrev pub NoAnswerMoves : List ℕ → List ℕ → ℕ → ℕ → Type 0
NoAnswerMoves b b' u o =
    (profile : ℕ) → AnswersEqual b b' u o profile × ((d d' : List ℕ) → Own b d → Own b' d' → AnswersEqualBy b d b' d' u o profile)

-- Of the record of the kind with the key x and the id y `bears` promises the answer no.
abbrev pub SaysNo : List ℕ → ℕ → ℕ → Kind → ℕ → ℕ → Type 0
SaysNo b u o kind x y = AsksBearing b u o (kind_number kind) x y (Ok false)

-- A message, plain or wide, about records that do not bear: of the record of each of its halves the call says no.
abbrev pub Elsewhere : List ℕ → ℕ → ℕ → Sent → Type 0
Elsewhere b u o m = Each (λ h. SaysNo b u o h.kind h.key h.id) (previous_of m ++ new_of m)

-- It changes no answer of hers, whether it is accepted or refused.
abbrev pub ChangesNoAnswer : Type 0
ChangesNoAnswer =
    (b : List ℕ) (m : Sent) (n : ℕ) (b' : List ℕ) (u o : ℕ) → Sends b m (n, b') → Elsewhere b u o m → NoAnswerMoves b b' u o

-- Messages, one after the other, as in `Accepted` of `index`, but refused ones too: the block goes from b to b'.
pub data Sending : List ℕ → List Sent → List ℕ → Type 0 where
  nothing : {b : List ℕ} → Sending b [] b
  next : {b b₁ b' : List ℕ} {m : Sent} {ms : List Sent} (n : ℕ) → Sends b m (n, b₁) → Sending b₁ ms b' → Sending b (m ∷ ms) b'

-- What `bears` promises to answer is the same of the two blocks, for every record.
abbrev pub BearingEqual : List ℕ → List ℕ → ℕ → ℕ → Type 0
BearingEqual b b' u o = (kind x y : ℕ) (r r' : Result Bool Refusal) → AsksBearing b u o kind x y r → AsksBearing b' u o kind x y r' → r ≡ r'

-- A whole list can be asked about beforehand: where the call says no of all its messages to the block as it stands before the first, they change no
-- answer of hers, nor which records bear.
abbrev pub AllChangeNoAnswer : Type 0
AllChangeNoAnswer =
    (b : List ℕ) (ms : List Sent) (b' : List ℕ) (u o : ℕ) → Sending b ms b' → Each (Elsewhere b u o) ms
    → NoAnswerMoves b b' u o × BearingEqual b b' u o

-- The same of whatever makes one good block of another, a read of a set or a move of appointments among them: the call says no of each record in which
-- the two differ.
abbrev pub DiffersElsewhere : List ℕ → List ℕ → ℕ → ℕ → Type 0
DiffersElsewhere b b' u o = (kind : Kind) (x y : ℕ) → (SameRecord b b' kind x y → ⊥) → SaysNo b u o kind x y

abbrev pub AnyChangeNoAnswer : Type 0
AnyChangeNoAnswer =
    (b b' : List ℕ) (u o : ℕ) → Sized b → Good b → Sized b' → Good b' → DiffersElsewhere b b' u o
    → NoAnswerMoves b b' u o × BearingEqual b b' u o
