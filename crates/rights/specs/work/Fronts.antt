-- For proofs only: M-108: "In each round only the records of names whose marks grew in the round before need be looked at." Those
-- names are on a list, and their first records are looked up once.
use Rattle.std.specs.Prelude.{ℕ, ◌+◌, ◌<◌, ◌≤◌, ◌≡◌, List, ◌⊎◌, ◌↔◌, length, get_or}
use Rattle.index.specs.declared.Kind.TheVariants.{Membership}
use Rattle.index.specs.Letters.{right_count, Mask}
use Rattle.index.specs.Block.{name_count, IsName, size, Of, key, id}
use Rattle.rights.specs.declared.walk.Carry.{Carry}
use Rattle.rights.specs.Examined.{HowMany}
use Rattle.rights.specs.work.Marks.{Marked, Carried, Brings, Grew}
use Rattle.directory.specs.Directory.{StartsAt}
use Rattle.rights.specs.work.Lookup.{wide}

-- ---- the names whose marks grew

-- A list has room for each name, and for one that is put at its end and may not stay.
abbrev pub list_length : ℕ
list_length = name_count + 1

-- z is one of the first n names.
abbrev pub Among : List ℕ → ℕ → ℕ → Type 0
Among names n z = (j : ℕ) × (j < n) × (get_or names j 0 ≡ z)

-- None of the first n names stands before itself.
abbrev pub Once : List ℕ → ℕ → Type 0
Once names n = (j : ℕ) → j < n → Among names j (get_or names j 0) → ⊥

-- No mark has shrunk; the names of the list are those whose marks grew, and none of them stands there twice.
pub record Front (old ms names : List ℕ) : Type 0 where
  pub above : (z : ℕ) → get_or old z 0 ≤ get_or ms z 0
  pub listed : (z : ℕ) → Among names (length names) z ↔ Grew old ms z
  pub once : Once names (length names)

-- The marks ms have what the records bring from the old marks.
unfoldable pub Settled : List ℕ → Carry → List ℕ → List ℕ → Type 0
Settled b carry old ms = (k z : ℕ) → k < right_count → Brings b carry old k z → Marked ms k z

-- The list has names, each once.
pub record Named (names : List ℕ) : Type 0 where
  pub each : (j : ℕ) → j < length names → IsName (get_or names j 0)
  pub once : Once names (length names)

-- ---- their first records

-- For each name where its M records start, or a number that says that it has not been looked up.
pub record Firsts (b firsts : List ℕ) : Type 0 where
  pub names : length firsts ≡ name_count
  pub each : (z : ℕ) → IsName z → (get_or firsts z 0 + 1 ≡ wide) ⊎ StartsAt b Membership z (get_or firsts z 0)

-- Place j of the list has a name that stands at none before it, and it is known where that name's M records start.
pub record Turn (b names firsts : List ℕ) (j : ℕ) : Type 0 where
  pub inside : j < length names
  pub named : IsName (get_or names j 0)
  pub new : Among names j (get_or names j 0) → ⊥
  pub of_firsts : length firsts ≡ name_count
  pub starts : StartsAt b Membership (get_or names j 0) (get_or firsts (get_or names j 0) 0)

-- ---- what their records bring

-- One of the M records that D holds of brings right k to z.
abbrev pub Brought : List ℕ → Carry → List ℕ → (ℕ → Type 0) → ℕ → ℕ → Type 0
Brought b carry ms D k z =
    (i : ℕ) × D i × Of b Membership i × (id b i ≡ z) × Carried b carry k (key b i) (id b i) × Marked ms k (key b i)

-- The marks ms, with what those records bring.
abbrev pub Spread : List ℕ → Carry → List ℕ → (ℕ → Type 0) → List ℕ → Type 0
Spread b carry ms D to = (z : ℕ) → Mask (get_or to z 0) (λ k. Marked ms k z ⊎ Brought b carry ms D k z)

-- Record i is of one of the first j names.
abbrev pub Through : List ℕ → List ℕ → ℕ → ℕ → Type 0
Through b names j i = Among names j (key b i)

-- A round that is through with the first j names: the marks, and the list of those that grew.
pub record Swept (b : List ℕ) (carry : Carry) (ms names : List ℕ) (j : ℕ) (to next : List ℕ) : Type 0 where
  pub brought : Spread b carry ms (Through b names j) to
  pub front : Front ms to next

-- The first j names have n M records.
abbrev pub Counted : List ℕ → List ℕ → ℕ → ℕ → Type 0
Counted b names j n = HowMany (Through b names j) (size b Membership) n
