-- For proofs only: what the P records that are reached from both sides grant and bar, by the marks of the sides and by their chains.
use Rattle.std.specs.Prelude.{ℕ, List}
use Rattle.index.specs.declared.Kind.TheVariants.{Permission}
use Rattle.index.specs.Block.{DeniedAt}
use Rattle.rights.specs.declared.Profile.{Profile}
use Rattle.rights.specs.declared.Profile.TheVariants.{Ordinary, Strict}
use Rattle.rights.specs.Held.{Net, Reached}
use Rattle.rights.specs.Profiles.{Denies}
use Rattle.rights.specs.work.Marks.{Marked}

-- There are names g and s that have right k in their marks, and of the P record with the key g and the id s Q holds for it.
unfoldable pub Between : List ℕ → List ℕ → (ℕ → ℕ → ℕ → Type 0) → ℕ → Type 0
Between users objects Q k = (g : ℕ) × (s : ℕ) × Marked objects k g × Marked users k s × Q g s k

-- The same, where chains of at most n records for that right lead from the user and from the object to them.
unfoldable pub Led : ℕ → List ℕ → ℕ → ℕ → (ℕ → ℕ → ℕ → Type 0) → ℕ → Type 0
Led n b u o Q k = (s : ℕ) × (g : ℕ) × Reached n b u o k s g × Q g s k

-- A denial, in a profile: in the ordinary one none counts across records.
abbrev pub Bars : Profile → Type 0 → Type 0
Bars Ordinary Denial = ⊥
Bars Strict Denial = Denial

-- Of record i, and of the P record with the key g and the id s.
abbrev pub BarsAt : Profile → List ℕ → ℕ → ℕ → Type 0
BarsAt p b i k = Bars p (DeniedAt b i k)

abbrev pub BarsBy : Profile → List ℕ → ℕ → ℕ → ℕ → Type 0
BarsBy p b g s k = Bars p (Denies b g s k)

-- Between the marks right k is granted, and in the profile not barred.
unfoldable pub GrantsIn : Profile → List ℕ → List ℕ → List ℕ → ℕ → Type 0
GrantsIn p b users objects k = Between users objects (Net b Permission) k × (Between users objects (BarsBy p b) k → ⊥)

-- Right k on the object is granted to the user, and in the profile not barred, whatever the filters and her groups.
unfoldable pub GrantedIn : Profile → ℕ → List ℕ → ℕ → ℕ → ℕ → Type 0
GrantedIn p n b u o k = Led n b u o (Net b Permission) k × (Led n b u o (BarsBy p b) k → ⊥)

-- The rights that no later record can change, of those granted and those barred so far: in the ordinary profile the granted ones, in the strict
-- one only the barred ones.
abbrev pub fixed_in : Profile → ℕ → ℕ → ℕ
fixed_in Ordinary found barred = found
fixed_in Strict found barred = barred
