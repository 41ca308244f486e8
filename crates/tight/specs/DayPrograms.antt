-- M-105: a program for its calls besides those of Programs, any functions at all. It meets the promises when each of its answers does. The five
-- empty ones that 01 turns away, as these calls could be them, and three that M-105 does.
use Rattle.std.specs.Prelude.{ℕ, ◌+◌, ◌<◌, ◌≤◌, ◌≡◌, List, [], ◌∷◌}
use Rattle.index.specs.declared.Kind.{Kind}
use Rattle.index.specs.Letters.{letter_count}
use Rattle.index.specs.Block.{records, count}
use Rattle.index.specs.Wide.{previous_of}
use Rattle.index.specs.History.{Labelled, Statement, left, after, moves_of, tally}
use Rattle.calendar.specs.declared.Date.{Date}
use Rattle.calendar.specs.Calls.{DayOf, DateOf, AnniversaryOf}
use Rattle.appointments.specs.Appointment.{standing}
use Rattle.appointments.specs.Moves.{Moved}
use Rattle.appointments.specs.Asking.{Stands, NextChange}
use Rattle.appointments.specs.Days.{Event, Last, Starts, standing_then}
use Rattle.tight.specs.Programs.{Program, Meets}

pub record DayProgram : Type 0 where
  pub base : Program
  pub day : (year month day : ℕ) → ℕ × ℕ
  pub date : (day : ℕ) → ℕ × Date
  pub anniversary : (first : Date) (term : ℕ) → ℕ × Date
  pub move : (block list : List ℕ) (old new : ℕ) → ℕ × List ℕ
  pub next : (list : List ℕ) (day : ℕ) → ℕ × ℕ
  pub stands : (appointment : List ℕ) (day : ℕ) → ℕ × ℕ

pub record DayMeets (p : DayProgram) : Type 0 where
  pub base : Meets p.base
  pub day : (y m d : ℕ) → DayOf y m d (p.day y m d)
  pub date : (n : ℕ) → DateOf n (p.date n)
  pub anniversary : (first : Date) (term : ℕ) → AnniversaryOf first term (p.anniversary first term)
  pub move : (b l : List ℕ) (old new : ℕ) → Moved b l old new (p.move b l old new)
  pub next : (l : List ℕ) (n : ℕ) → NextChange l n (p.next l n)
  pub stands : (l : List ℕ) (n : ℕ) → Stands l n (p.stands l n)

-- ---- "Five empty programs have to be turned away."

-- "One that refuses everything": some call of it refuses every input.
pub data RefusesEverything (p : DayProgram) : Type 0 where
  days : ((y m d : ℕ) → 0 < (p.day y m d).0) → RefusesEverything p
  dates : ((n : ℕ) → 0 < (p.date n).0) → RefusesEverything p
  anniversaries : ((first : Date) (term : ℕ) → 0 < (p.anniversary first term).0) → RefusesEverything p
  moves : ((b l : List ℕ) (old new : ℕ) → 0 < (p.move b l old new).0) → RefusesEverything p
  nexts : ((l : List ℕ) (n : ℕ) → 0 < (p.next l n).0) → RefusesEverything p
  standings : ((l : List ℕ) (n : ℕ) → 0 < (p.stands l n).0) → RefusesEverything p

-- "One that grants the same mask always": here, one that gives the same day, date, anniversary, next day or answer wherever it accepts.
pub data AnswersTheSame (p : DayProgram) : Type 0 where
  days : (v : ℕ) → ((y m d : ℕ) → (p.day y m d).0 ≡ 0 → (p.day y m d).1 ≡ v) → AnswersTheSame p
  dates : (v : Date) → ((n : ℕ) → (p.date n).0 ≡ 0 → (p.date n).1 ≡ v) → AnswersTheSame p
  anniversaries : (v : Date) → ((first : Date) (term : ℕ) → (p.anniversary first term).0 ≡ 0 → (p.anniversary first term).1 ≡ v)
      → AnswersTheSame p
  nexts : (v : ℕ) → ((l : List ℕ) (n : ℕ) → (p.next l n).0 ≡ 0 → (p.next l n).1 ≡ v) → AnswersTheSame p
  standings : (v : ℕ) → ((l : List ℕ) (n : ℕ) → (p.stands l n).0 ≡ 0 → (p.stands l n).1 ≡ v) → AnswersTheSame p

-- "One whose messages change nothing": one whose moves do not.
abbrev pub ChangesNothing : DayProgram → Type 0
ChangesNothing p = (b l : List ℕ) (old new : ℕ) → (p.move b l old new).1 ≡ b

-- "one that works at the first message and then only says accepted": a block with two records in it is past its first move.
abbrev pub OnlyTheFirst : DayProgram → Type 0
OnlyTheFirst p = (b l : List ℕ) (old new : ℕ) → 1 < records b → p.move b l old new ≡ (0, b)

-- What the program does with a history of messages and moves over one list.
pub data Handed (p : DayProgram) (l : List ℕ) : List ℕ → List Statement → Last → List Event → List ℕ → List Statement → Last → Type 0 where
  nothing : {b : List ℕ} {s : List Statement} {d : Last} → Handed p l b s d [] b s d
  accepted : {b b' : List ℕ} {m : Labelled} {s s' : List Statement} {d d' : Last} {es : List Event} → (p.base.sends b m.sent).0 ≡ 0
      → previous_of m.sent ≡ left m.label s → Handed p l (p.base.sends b m.sent).1 (after m s) d es b' s' d'
      → Handed p l b s d (Event.message m ∷ es) b' s' d'
  refused : {b b' : List ℕ} {m : Labelled} {s s' : List Statement} {d d' : Last} {es : List Event} → 0 < (p.base.sends b m.sent).0
      → Handed p l (p.base.sends b m.sent).1 s d es b' s' d' → Handed p l b s d (Event.message m ∷ es) b' s' d'
  moved : {b b' : List ℕ} {s s' : List Statement} {d d' : Last} {old new : ℕ} {es : List Event} → (p.move b l old new).0 ≡ 0
      → Starts l d old → Handed p l (p.move b l old new).1 s (Last.ended new) es b' s' d' → Handed p l b s d (Event.move old new ∷ es) b' s' d'
  stayed : {b b' : List ℕ} {s s' : List Statement} {d d' : Last} {old new : ℕ} {es : List Event} → 0 < (p.move b l old new).0
      → Handed p l (p.move b l old new).1 s d es b' s' d' → Handed p l b s d (Event.move old new ∷ es) b' s' d'

-- "One that stores made-up counts, say 1 for any": after some history, some count is not the number of statements and appointments standing.
pub record MakesUpCounts (p : DayProgram) : Type 0 where
  pub lent : List ℕ
  pub made : (p.base.make lent).0 ≡ 0
  pub list : List ℕ
  pub events : List Event
  pub block : List ℕ
  pub statements : List Statement
  pub last : Last
  pub handed : Handed p list (p.base.make lent).1 [] Last.none events block statements last
  pub kind : Kind
  pub key : ℕ
  pub id : ℕ
  pub letter : ℕ
  pub is_letter : letter < letter_count
  pub differs : count block kind key id letter ≡ tally statements kind key id letter + moves_of (standing_then list last) kind key id letter → ⊥

-- ---- M-105

-- "later or earlier": one that only adds when it goes back, so that no count falls.
abbrev pub OnlyAdds : DayProgram → Type 0
OnlyAdds p =
    (b l : List ℕ) (old new : ℕ) → new < old → (kind : Kind) (x y k : ℕ) → count b kind x y k ≤ count (p.move b l old new).1 kind x y k

-- "those standing on the old day only": one that takes all of the old day and adds all of the new, so that it does not accept a move from a day
-- on which an appointment stands that the block does not count.
abbrev pub TakesAll : DayProgram → Type 0
TakesAll p =
    (b l : List ℕ) (old new : ℕ) (kind : Kind) (x y k : ℕ) → k < letter_count → count b kind x y k ≡ 0
    → 0 < moves_of (standing l old) kind x y k → (p.move b l old new).0 ≡ 0 → ⊥

-- "with nothing applied": one that refuses some move, and leaves what it had done of it before.
pub record LeavesHalfDone (p : DayProgram) : Type 0 where
  pub block : List ℕ
  pub list : List ℕ
  pub old : ℕ
  pub new : ℕ
  pub refused : 0 < (p.move block list old new).0
  pub changed : (p.move block list old new).1 ≡ block → ⊥
