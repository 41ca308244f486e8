-- 01, "The rights": a chain of records, through whichever records it may go.
use Rattle.std.specs.Prelude.{ℕ, suc}

-- A chain of at most n records leads from x to z, "key to id"; "no records at all means" that z is x. "A chain may repeat
-- names". Link says which records it may go through.
pub data Chain (Link : ℕ → ℕ → Type 0) : ℕ → ℕ → ℕ → Type 0 where
  here : {n x : ℕ} → Chain Link n x x
  through : {n x z : ℕ} (y : ℕ) → Link x y → Chain Link n y z → Chain Link (suc n) x z
