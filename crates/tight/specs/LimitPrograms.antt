-- M-111: a program for the two engines: any function at all for each. It meets the promises when each of its answers does. The wrong ones that are
-- turned away: in each case it is enough that one of the engines is such.
use Rattle.std.specs.Prelude.{ℕ, suc, ◌<◌, ◌≤◌, ◌≡◌, List}
use Rattle.index.specs.declared.Kind.TheVariants.{Membership}
use Rattle.index.specs.Letters.{In}
use Rattle.index.specs.Block.{size}
use Rattle.rights.specs.declared.Profile.TheVariants.{Ordinary}
use Rattle.rights.specs.Groups.{Open}
use Rattle.rights.specs.Held.{chain_limit}
use Rattle.rights.specs.Questions.{Limited}
use Rattle.plain.specs.Plain.{greatest_limit, most_records}
use Rattle.tight.specs.Limits.{Engine, Promises}

-- Each gives the number and the rights.
abbrev pub LimitProgram : Type 0
LimitProgram = (engine : Engine) (block : List ℕ) (user object request limit : ℕ) → ℕ × ℕ

abbrev pub LimitMeets : LimitProgram → Type 0
LimitMeets p = (e : Engine) (b : List ℕ) (u o request limit : ℕ) → Promises e b u o request limit (p e b u o request limit)

-- "One that refuses everything".
abbrev pub RefusesEverything : LimitProgram → Type 0
RefusesEverything p = (e : Engine) × ((b : List ℕ) (u o request limit : ℕ) → 0 < (p e b u o request limit).0)

-- "One that grants the same mask always", wherever it accepts.
abbrev pub GrantsTheSame : LimitProgram → Type 0
GrantsTheSame p =
    (e : Engine) × (mask : ℕ) × ((b : List ℕ) (u o request limit : ℕ) → (p e b u o request limit).0 ≡ 0 → (p e b u o request limit).1 ≡ mask)

-- "for a chain limit": one that gives the rights for another limit than it was asked.
abbrev pub HoldsTo : (ℕ → ℕ) → LimitProgram → Type 0
HoldsTo other p =
    (e : Engine)
    × ((b : List ℕ) (u o request limit : ℕ) → (p e b u o request limit).0 ≡ 0
    → Limited Ordinary (other limit) b u o request (p e b u o request limit).1)

-- Always 32, as in the full question; and always one record more.
abbrev pub StaysAt32 : LimitProgram → Type 0
StaysAt32 p = HoldsTo (λ limit. chain_limit) p

abbrev pub OneMore : LimitProgram → Type 0
OneMore p = HoldsTo suc p

-- "marker chains too": one that has another limit for these. What it gives rights on is always an object that is open to the user with that limit.
abbrev pub OpensTo : (ℕ → ℕ) → LimitProgram → Type 0
OpensTo other p = (e : Engine) × ((b : List ℕ) (u o request limit k : ℕ) → In k (p e b u o request limit).1 → Open (other limit) b u o)

abbrev pub MarkersStayAt32 : LimitProgram → Type 0
MarkersStayAt32 p = OpensTo (λ limit. chain_limit) p

abbrev pub OneMoreMarker : LimitProgram → Type 0
OneMoreMarker p = OpensTo suc p

-- "14 for a limit above 8 or more than 64 M records": one that never gives 14 for the limit; and a plain engine that never gives it for the records.
pub data TakesAny (p : LimitProgram) : Type 0 where
  limits : (e : Engine) → ((b : List ℕ) (u o request limit : ℕ) → size b Membership ≤ most_records → (p e b u o request limit).0 ≡ 14 → ⊥) → TakesAny p
  records : ((b : List ℕ) (u o request limit : ℕ) → limit ≤ greatest_limit → (p Engine.plain b u o request limit).0 ≡ 14 → ⊥) → TakesAny p
