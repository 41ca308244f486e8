-- M-105: "Demand 3's second half counts an appointment as a statement on the days it stands".
use Rattle.std.specs.Prelude.{ℕ, ◌+◌, ◌<◌, ◌≡◌, List, [], ◌∷◌}
use Rattle.index.specs.declared.Kind.{Kind}
use Rattle.index.specs.Letters.{letter_count}
use Rattle.index.specs.Block.{count}
use Rattle.index.specs.Message.{Half}
use Rattle.index.specs.Wide.{previous_of}
use Rattle.index.specs.Calls.{Makes, Sends}
use Rattle.index.specs.History.{Labelled, Statement, left, History, moves_of, tally}
use Rattle.calendar.specs.Dates.{date, last_year, day_number}
use Rattle.appointments.specs.Appointment.{InRange, standing}
use Rattle.appointments.specs.Moves.{Moved}

-- Now the history is a list of messages, labelled as before, and moves from one day to another.
pub data Event : Type 0 where
  message : Labelled → Event
  move : ℕ → ℕ → Event

-- The day "where the last accepted one ended", if one has been accepted.
pub data Last : Type 0 where
  none : Last
  ended : ℕ → Last

-- "each move starts where the last accepted one ended or, while none has been accepted, from a day with none standing"
unfoldable pub Starts : List ℕ → Last → ℕ → Type 0
Starts l Last.none old = standing l old ≡ []
Starts l (Last.ended day) old = old ≡ day

-- The appointments that count then: none before the first accepted move.
unfoldable pub standing_then : List ℕ → Last → List Half
standing_then l Last.none = []
standing_then l (Last.ended day) = standing l day

-- "if the list stays fixed": over the list l, from the block b and the statements s to b' and s'. A message goes as in a history of messages
-- alone. A refused move over this list changes nothing and may stand anywhere, as a refused message may.
pub data Mixed (l : List ℕ) : List ℕ → List Statement → Last → List Event → List ℕ → List Statement → Last → Type 0 where
  nothing : {b : List ℕ} {s : List Statement} {d : Last} → Mixed l b s d [] b s d
  told : {b b₁ b' : List ℕ} {s s₁ s' : List Statement} {d d' : Last} {m : Labelled} {es : List Event}
      → History b s (m ∷ []) b₁ s₁ → Mixed l b₁ s₁ d es b' s' d' → Mixed l b s d (Event.message m ∷ es) b' s' d'
  moved : {b b₁ b' : List ℕ} {s s' : List Statement} {d d' : Last} {old new : ℕ} {es : List Event}
      → Moved b l old new (0, b₁) → Starts l d old → Mixed l b₁ s (Last.ended new) es b' s' d'
      → Mixed l b s d (Event.move old new ∷ es) b' s' d'
  refused : {b b' : List ℕ} {s s' : List Statement} {d d' : Last} {old new r : ℕ} {es : List Event} → 0 < r
      → Moved b l old new (r, b) → Mixed l b s d es b' s' d' → Mixed l b s d (Event.move old new ∷ es) b' s' d'

-- "each count, 0 for a missing record, equals the number of statements standing at that moment with that record and that letter", the
-- appointments that stand among them.
abbrev pub CountsStanding : List ℕ → List ℕ → List Statement → Last → Type 0
CountsStanding l b s d =
    (kind : Kind) (x y k : ℕ) → k < letter_count → count b kind x y k ≡ tally s kind x y k + moves_of (standing_then l d) kind x y k

-- "If the block began empty", then so it is "at that moment": after the events es, whatever more may follow.
abbrev pub SecondHalf : Type 0
SecondHalf =
    (l b₀ b b₁ : List ℕ) (es : List Event) (s₁ : List Statement) (d₁ : Last) → Makes b₀ (0, b)
    → Mixed l b [] Last.none es b₁ s₁ d₁ → CountsStanding l b₁ s₁ d₁

-- And it stays so over another list, if that is taken up on a day on which none of the first stands.
abbrev pub AnotherList : Type 0
AnotherList =
    (l l₂ b₀ b b₁ b₂ : List ℕ) (es es₂ : List Event) (s₁ s₂ : List Statement) (d₁ d₂ : Last) → Makes b₀ (0, b)
    → Mixed l b [] Last.none es b₁ s₁ d₁ → standing_then l d₁ ≡ [] → Mixed l₂ b₁ s₁ Last.none es₂ b₂ s₂ d₂ → CountsStanding l₂ b₂ s₂ d₂

-- There is such a day for every list, the last of the range, and a first move may start there.
abbrev pub LastDayFree : Type 0
LastDayFree = (l : List ℕ) → InRange l → Starts l Last.none (day_number (date last_year 12 31))

-- ---- when is it refused?

-- From such a history no move that starts rightly is refused with 6.
abbrev pub NeverSix : Type 0
NeverSix =
    (l b₀ b b₁ b₂ : List ℕ) (es : List Event) (s₁ : List Statement) (d₁ : Last) (old new : ℕ) → Makes b₀ (0, b)
    → Mixed l b [] Last.none es b₁ s₁ d₁ → Starts l d₁ old → Moved b₁ l old new (6, b₂) → ⊥

-- Nor is a message that "quotes as its previous state just what the last accepted message of the same statement left".
abbrev pub MessageNeverSix : Type 0
MessageNeverSix =
    (l b₀ b b₁ b₂ : List ℕ) (es : List Event) (s₁ : List Statement) (d₁ : Last) (m : Labelled) → Makes b₀ (0, b)
    → Mixed l b [] Last.none es b₁ s₁ d₁ → previous_of m.sent ≡ left m.label s₁ → Sends b₁ m.sent (6, b₂) → ⊥
