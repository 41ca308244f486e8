-- M-105: "Going from one day to any other, later or earlier".
use Rattle.std.specs.Prelude.{ℕ, ◌+◌, ◌<◌, ◌≡◌, List, [], ◌∷◌, ◌++◌, length}
use Rattle.index.specs.declared.Kind.{Kind}
use Rattle.index.specs.Letters.{letter_count}
use Rattle.index.specs.Numbers.{First}
use Rattle.index.specs.Block.{Good, count}
use Rattle.index.specs.Message.{Half, changes, Carried}
use Rattle.index.specs.Calls.{block_needs}
use Rattle.index.specs.History.{moves_of}
use Rattle.calendar.specs.Dates.{IsDay}
use Rattle.appointments.specs.Appointment.{day_needs, standing, standing_only}

-- "Refusals: 1, 2, 4, 5, then 12", with our 3 right after 2; no "day" "outside the range" either.
unfoldable pub move_needs : List ℕ → List ℕ → ℕ → ℕ → List (ℕ × Type 0)
move_needs b l old new = block_needs b ++ (day_needs l old ++ ((12, IsDay new) ∷ []))

-- moved: the number, and the block then. It "takes from the block those standing on the old day only, then adds those on the new day only,
-- in list order"; "then the first of 6, 7, 8 met, with nothing applied".
unfoldable pub Moved : List ℕ → List ℕ → ℕ → ℕ → ℕ × List ℕ → Type 0
Moved b l old new o =
    First (λ n. (n, b)) (move_needs b l old new) (Carried b (changes (standing_only l old new) (standing_only l new old)) b) o

-- What an accepted move leaves, whatever else the block has, the appointments of other lists among it: a good block as long as it was, in which
-- the appointments of the old day make way for those of the new.
pub record Exchanged (l : List ℕ) (old new : ℕ) (b b' : List ℕ) : Type 0 where
  pub good : Good b → Good b'
  pub same_length : length b' ≡ length b
  pub counts : (kind : Kind) (x y k : ℕ) → k < letter_count
      → count b' kind x y k + moves_of (standing l old) kind x y k ≡ count b kind x y k + moves_of (standing l new) kind x y k

-- b' is the block b with these memberships added: a good block as long as b, in which each count is higher by the number of them that have it.
-- There is one such block only (laws/SameBlock).
pub record With (added : List Half) (b b' : List ℕ) : Type 0 where
  pub good : Good b'
  pub same_length : length b' ≡ length b
  pub counts : (kind : Kind) (x y k : ℕ) → k < letter_count
      → count b' kind x y k ≡ count b kind x y k + moves_of added kind x y k

-- "If the block is some good block with the appointments of the old day added, and the call is accepted, it ends as that same block with
-- those of the new day added."
abbrev pub SameBlock : Type 0
SameBlock =
    (l b₀ b b' : List ℕ) (old new : ℕ) → Good b₀ → With (standing l old) b₀ b → Moved b l old new (0, b')
    → With (standing l new) b₀ b'

-- The same by bytes: where both are made by adding, one after the other in list order, the move ends as the second, byte for byte.
abbrev pub SameBytes : Type 0
SameBytes =
    (l b₀ b b' b₁ : List ℕ) (old new : ℕ) → Good b₀ → Carried b₀ (changes [] (standing l old)) b₀ (0, b) → Moved b l old new (0, b')
    → Carried b₀ (changes [] (standing l new)) b₀ (0, b₁) → b' ≡ b₁

-- Accepted moves, one after the other, from a day to the first of these days, from there to the next, and so on to the last of them.
pub data Journey (l : List ℕ) : List ℕ → ℕ → List ℕ → List ℕ → ℕ → Type 0 where
  there : {b : List ℕ} {day : ℕ} → Journey l b day [] b day
  by : {b b₁ b' : List ℕ} {day next last : ℕ} {days : List ℕ} → Moved b l day next (0, b₁) → Journey l b₁ next days b' last
      → Journey l b day (next ∷ days) b' last

-- "Going from one day to any other", by whatever days in between, ends the same, byte for byte. With no days at all on one side: there and back
-- ends as the block was.
abbrev pub AnyWay : Type 0
AnyWay =
    (l b b₁ b₂ : List ℕ) (old new : ℕ) (days others : List ℕ) → Good b → Journey l b old days b₁ new → Journey l b old others b₂ new
    → b₁ ≡ b₂
