-- M-113: a program for `bears`, and for `is_near`, which it asks: any functions at all. It meets the promises when each of its answers does. The wrong
-- ones that are turned away. All quotations are from there, but where another paper is named.
use Rattle.std.specs.Prelude.{ℕ, suc, ◌<◌, ◌≡◌, List, ◌⊎◌}
use Rattle.index.specs.declared.Kind.TheVariants.{Membership}
use Rattle.index.specs.Letters.{right_count}
use Rattle.rights.specs.Chain.{Chain}
use Rattle.rights.specs.Held.{Is, Carries}
use Rattle.rights.specs.Near.{Near, IsNear}
use Rattle.bearing.specs.Bearing.{Bearing}

-- Each gives the number, and 1 for yes or 0 for no.
pub record BearProgram : Type 0 where
  pub bears : (block : List ℕ) (user object kind key id : ℕ) → ℕ × ℕ
  pub near : (block : List ℕ) (start name limit : ℕ) → ℕ × ℕ

pub record BearMeets (p : BearProgram) : Type 0 where
  pub bears : (b : List ℕ) (u o kind x y : ℕ) → Bearing b u o kind x y (p.bears b u o kind x y)
  pub near : (b : List ℕ) (x z limit : ℕ) → IsNear b x z limit (p.near b x z limit)

-- "One that refuses everything" (01): one of the two refuses every input.
pub data RefusesEverything (p : BearProgram) : Type 0 where
  bears : ((b : List ℕ) (u o kind x y : ℕ) → 0 < (p.bears b u o kind x y).0) → RefusesEverything p
  near : ((b : List ℕ) (x z limit : ℕ) → 0 < (p.near b x z limit).0) → RefusesEverything p

-- One that says the same always, wherever it accepts: of records of one kind at least, 1 to 3; or of names.
pub data SaysTheSame (p : BearProgram) : Type 0 where
  memberships : (answer : ℕ) → ((b : List ℕ) (u o x y : ℕ) → (p.bears b u o 1 x y).0 ≡ 0 → (p.bears b u o 1 x y).1 ≡ answer) → SaysTheSame p
  permissions : (answer : ℕ) → ((b : List ℕ) (u o x y : ℕ) → (p.bears b u o 2 x y).0 ≡ 0 → (p.bears b u o 2 x y).1 ≡ answer) → SaysTheSame p
  filters : (answer : ℕ) → ((b : List ℕ) (u o x y : ℕ) → (p.bears b u o 3 x y).0 ≡ 0 → (p.bears b u o 3 x y).1 ≡ answer) → SaysTheSame p
  near : (answer : ℕ) → ((b : List ℕ) (x z limit : ℕ) → (p.near b x z limit).0 ≡ 0 → (p.near b x z limit).1 ≡ answer) → SaysTheSame p

-- ---- what bears, otherwise: wherever it accepts

-- One that says yes of a record of the kind wherever Way holds, and one that says yes of it only there.
abbrev pub YesWherever : (List ℕ → ℕ → ℕ → ℕ → ℕ → Type 0) → ℕ → BearProgram → Type 0
YesWherever Way kind p = (b : List ℕ) (u o x y : ℕ) → (p.bears b u o kind x y).0 ≡ 0 → Way b u o x y → (p.bears b u o kind x y).1 ≡ 1

abbrev pub YesOnly : (List ℕ → ℕ → ℕ → ℕ → ℕ → Type 0) → ℕ → BearProgram → Type 0
YesOnly Way kind p = (b : List ℕ) (u o x y : ℕ) → (p.bears b u o kind x y).0 ≡ 0 → (p.bears b u o kind x y).1 ≡ 1 → Way b u o x y

-- "at most 31": one that has 32 for an M record, from the user or from the object; and one that has 30.
pub data OtherLimit (p : BearProgram) : Type 0 where
  user_32 : YesWherever (λ b u o x y. Near 32 b u x) 1 p → OtherLimit p
  object_32 : YesWherever (λ b u o x y. Near 32 b o x) 1 p → OtherLimit p
  only_30 : YesOnly (λ b u o x y. Near 30 b u x ⊎ Near 30 b o x) 1 p → OtherLimit p

-- "at most 32": one that has 33 for a P record, from the object or from the user; and one that has 31.
pub data OtherGrantLimit (p : BearProgram) : Type 0 where
  object_33 : YesWherever (λ b u o x y. Near 33 b o x × Near 32 b u y) 2 p → OtherGrantLimit p
  user_33 : YesWherever (λ b u o x y. Near 32 b o x × Near 33 b u y) 2 p → OtherGrantLimit p
  only_31 : YesOnly (λ b u o x y. Near 31 b o x × Near 31 b u y) 2 p → OtherGrantLimit p

-- "from user or object": one that looks at one side only of an M record; and "and", one that looks at one side only of a P record.
pub data OneSide (p : BearProgram) : Type 0 where
  user_only : YesOnly (λ b u o x y. Near 31 b u x) 1 p → OneSide p
  object_only : YesOnly (λ b u o x y. Near 31 b o x) 1 p → OneSide p
  key_enough : YesWherever (λ b u o x y. Near 32 b o x) 2 p → OneSide p
  id_enough : YesWherever (λ b u o x y. Near 32 b u y) 2 p → OneSide p

-- "or is 0": one that leaves name 0 out; and one that has it reached from every object, as the key of an M record too.
pub data OtherZero (p : BearProgram) : Type 0 where
  left_out : YesOnly (λ b u o x y. Near 32 b o x) 2 p → OtherZero p
  followed : YesWherever (λ b u o x y. x ≡ 0) 1 p → OtherZero p

-- "F records of the object and of the groups its M records name": one that leaves the groups out; and one that goes on to theirs.
pub data OtherFilters (p : BearProgram) : Type 0 where
  own_only : YesOnly (λ b u o x y. x ≡ o) 3 p → OtherFilters p
  further : YesWherever (λ b u o x y. Near 2 b o x) 3 p → OtherFilters p

-- "masks disregarded": one that disregards them not, and follows only chains that carry a right; and M-107, "one with marker counts alone gives no chain
-- of any kind": one that follows such records.
pub data OtherRecords (p : BearProgram) : Type 0 where
  carried : YesOnly (λ b u o x y. (k : ℕ) × (k < right_count) × (Chain (Carries b k) 31 u x ⊎ Chain (Carries b k) 31 o x)) 1 p → OtherRecords p
  markers : YesWherever (λ b u o x y. Chain (Is b Membership) 31 u x) 1 p → OtherRecords p

-- ---- what is reached, otherwise

-- One that has a record more, or a record fewer, than the limit, whatever the limit is.
pub data OtherNearLimit (p : BearProgram) : Type 0 where
  one_more : ((b : List ℕ) (x z limit : ℕ) → (p.near b x z limit).0 ≡ 0 → Near (suc limit) b x z → (p.near b x z limit).1 ≡ 1) → OtherNearLimit p
  one_fewer : ((b : List ℕ) (x z limit : ℕ) → (p.near b x z (suc limit)).0 ≡ 0 → (p.near b x z (suc limit)).1 ≡ 1 → Near limit b x z)
      → OtherNearLimit p

-- One that takes 33, and never gives 14.
abbrev pub TakesAny : BearProgram → Type 0
TakesAny p = (b : List ℕ) (x z limit : ℕ) → (p.near b x z limit).0 ≡ 14 → ⊥

-- One that follows records with marker counts alone.
abbrev pub FollowsMarkers : BearProgram → Type 0
FollowsMarkers p =
    (b : List ℕ) (x z limit : ℕ) → (p.near b x z limit).0 ≡ 0 → Chain (Is b Membership) limit x z → (p.near b x z limit).1 ≡ 1
