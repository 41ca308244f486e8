-- M-103: a program for its calls, and for what they ask of the filters and exclusive groups: any functions at all. It meets the promises when each of
-- its answers does. The wrong ones that are turned away.
use Rattle.std.specs.Prelude.{ℕ, ◌<◌, ◌≡◌, List}
use Rattle.index.specs.declared.Kind.TheVariants.{Membership, Permission}
use Rattle.index.specs.Letters.{letter_count}
use Rattle.index.specs.Block.{count}
use Rattle.rights.specs.Through.{LetsThrough}
use Rattle.slips.specs.Calls.{ChecksSlip, Outcome, FindsSlip}

-- A call on a block, a user, an object, a right and two lists.
abbrev pub Call : Type 0 → Type 0
Call O = (block : List ℕ) (user object right : ℕ) (users objects : List ℕ) → O

pub record SlipProgram : Type 0 where
  pub find : Call Outcome
  pub check : Call (ℕ × ℕ)
  pub lets : (block : List ℕ) (user object : ℕ) → ℕ × ℕ

pub record SlipMeets (p : SlipProgram) : Type 0 where
  pub find : (b : List ℕ) (u o right : ℕ) (us os : List ℕ) → FindsSlip b u o right us os (p.find b u o right us os)
  pub check : (b : List ℕ) (u o right : ℕ) (us os : List ℕ) → ChecksSlip b u o right us os (p.check b u o right us os)
  pub lets : (b : List ℕ) (u o : ℕ) → LetsThrough b u o (p.lets b u o)

-- "One that refuses everything": some call of it refuses every input.
pub data RefusesEverything (p : SlipProgram) : Type 0 where
  finds : ((b : List ℕ) (u o right : ℕ) (us os : List ℕ) → 0 < (p.find b u o right us os).0) → RefusesEverything p
  checks : ((b : List ℕ) (u o right : ℕ) (us os : List ℕ) → 0 < (p.check b u o right us os).0) → RefusesEverything p
  lets : ((b : List ℕ) (u o : ℕ) → 0 < (p.lets b u o).0) → RefusesEverything p

-- "One that grants the same mask always": here, one that gives the same yes or no, or lets the same rights through, wherever it accepts.
pub data AnswersTheSame (p : SlipProgram) : Type 0 where
  checks : (answer : ℕ)
      → ((b : List ℕ) (u o right : ℕ) (us os : List ℕ) → (p.check b u o right us os).0 ≡ 0 → (p.check b u o right us os).1 ≡ answer)
      → AnswersTheSame p
  lets : (mask : ℕ) → ((b : List ℕ) (u o : ℕ) → (p.lets b u o).0 ≡ 0 → (p.lets b u o).1 ≡ mask) → AnswersTheSame p

-- "A slip is found exactly when the right is held": one that never finds any.
abbrev pub FindsNone : SlipProgram → Type 0
FindsNone p = (b : List ℕ) (u o right : ℕ) (us os : List ℕ) → (p.find b u o right us os).1 ≡ 0

-- One that never writes one of the lent lists.
pub data WritesNoList (p : SlipProgram) : Type 0 where
  users : ((b : List ℕ) (u o right : ℕ) (us os : List ℕ) → (p.find b u o right us os).3 ≡ us) → WritesNoList p
  objects : ((b : List ℕ) (u o right : ℕ) (us os : List ℕ) → (p.find b u o right us os).4 ≡ os) → WritesNoList p

-- "with the filters": one whose check pays no heed to them. On two blocks in which every letter of an M or a P record counts the same, filters aside,
-- it gives the same answer.
abbrev pub SameButFilters : List ℕ → List ℕ → Type 0
SameButFilters b b' =
    (x y k : ℕ) → k < letter_count → (count b Membership x y k ≡ count b' Membership x y k) × (count b Permission x y k ≡ count b' Permission x y k)

abbrev pub IgnoresFilters : SlipProgram → Type 0
IgnoresFilters p =
    (b b' : List ℕ) → SameButFilters b b' → (u o right : ℕ) (us os : List ℕ) → (p.check b u o right us os).1 ≡ (p.check b' u o right us os).1
