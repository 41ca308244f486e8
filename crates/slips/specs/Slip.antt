-- M-103, "A slip that says why": what a slip is. All quotations are from there, but where another request is named. A slip is two lists of names.
use Rattle.std.specs.Prelude.{ℕ, ◌+◌, ◌-◌, ◌<◌, ◌≤◌, ◌≡◌, List, [], ◌∷◌, ◌⊎◌, length, get_or}
use Rattle.index.specs.declared.Kind.TheVariants.{Permission}
use Rattle.rights.specs.Groups.{Open}
use Rattle.rights.specs.Held.{Net, Carries, Passes, chain_limit}

-- "more than 33 names": a chain of at most 32 records has one name more, since it begins with the name that it leads from.
abbrev pub most_names : ℕ
most_names = chain_limit + 1

-- The name that a list ends at.
abbrev pub last : List ℕ → ℕ
last names = get_or names (length names - 1) 0

-- "the names on the user's chain": the list begins with x, and from each name on it to the next there is a link. They are the names on a chain
-- (rights, `Chain`) of at most 32 records from x to the last of them.
pub record Names (Link : ℕ → ℕ → Type 0) (x : ℕ) (names : List ℕ) : Type 0 where
  pub some : 1 ≤ length names
  pub few : length names ≤ most_names
  pub starts : get_or names 0 0 ≡ x
  pub linked : (i : ℕ) → i + 1 < length names → Link (get_or names i 0) (get_or names (i + 1) 0)

-- "(or 0 by itself)": name 0, which counts for every object, and no name after it.
abbrev pub ZeroAlone : List ℕ → Type 0
ZeroAlone names = names ≡ 0 ∷ []

-- "For a user, object and one right, produce a slip": the lists us and os are one for the user u, the object o and right k. Its "chains and grant,
-- with the filters, meet the rules".
pub record Slip (b : List ℕ) (u o k : ℕ) (us os : List ℕ) : Type 0 where
  -- "the names on the user's chain, the names on the object's chain (or 0 by itself)"
  pub user_names : Names (Carries b k) u us
  pub object_names : Names (Carries b k) o os ⊎ ZeroAlone os
  -- "which end at the granting P record"
  pub grant : Net b Permission (last os) (last us) k
  -- M-102: "the right must be in the net mask of every F record keyed by the object or by any group its M records name"
  pub filters : Passes b o k
  -- M-107: "Slips check this too."
  pub exclusive : Open chain_limit b u o

-- It is one, and none has fewer names, both lists taken together. (02 does not ask for this; so each of its chains is a shortest one to where it ends.)
pub record Shortest (b : List ℕ) (u o k : ℕ) (us os : List ℕ) : Type 0 where
  pub slip : Slip b u o k us os
  pub least : (us' os' : List ℕ) → Slip b u o k us' os' → length us + length os ≤ length us' + length os'
