-- For proofs only: how the finder walks. For each name how many records the shortest chain from the start has, and the name before it on that chain.
use Rattle.std.specs.Prelude.{ℕ, ◌+◌, ◌<◌, ◌≤◌, ◌≡◌, cond, List, ◌⊎◌, length, get_or, eqb, Option, Some, None}
use Rattle.index.specs.declared.Kind.TheVariants.{Membership, Permission}
use Rattle.index.specs.Block.{name_count, IsName, from, Of, key, id, NetAt}
use Rattle.rights.specs.Held.{Carries, chain_limit}
use Rattle.rights.specs.work.Fronts.{Once}
use Rattle.slips.specs.declared.finding.Best.{Best}

-- Stands for the steps to a name that is not reached. Two sums of steps are below it just when both names are reached.
abbrev pub far : ℕ
far = chain_limit + chain_limit + 1

-- The steps to a name.
abbrev pub at : List ℕ → ℕ → ℕ
at steps x = get_or steps x 0

-- One record leads to y from the name before it, which is one step nearer; and y is at most m steps away.
pub record Led (b : List ℕ) (k m : ℕ) (steps before : List ℕ) (y : ℕ) : Type 0 where
  pub named : IsName (get_or before y 0)
  pub step : at steps y ≡ at steps (get_or before y 0) + 1
  pub carried : Carries b k (get_or before y 0) y
  pub within : at steps y ≤ m

-- How y is reached from the start: it is the start, or it is not, or by such a record.
abbrev pub Back : List ℕ → ℕ → ℕ → ℕ → List ℕ → List ℕ → ℕ → Type 0
Back b k start m steps before y = (y ≡ start) ⊎ ((at steps y ≡ far) ⊎ Led b k m steps before y)

-- The walk is done: no record leads further, up to chains of 32.
pub record Walk (b : List ℕ) (k start : ℕ) (steps before : List ℕ) : Type 0 where
  pub starts : at steps start ≡ 0
  pub near : (j : ℕ) → Of b Membership j → NetAt b j k → at steps (key b j) < chain_limit → at steps (id b j) ≤ at steps (key b j) + 1
  pub back : (y : ℕ) → IsName y → Back b k start chain_limit steps before y

-- ---- the list of the names that are reached, in the order in which they are

-- The first len of the list are names that are reached, none twice.
pub record Listed (steps order : List ℕ) (len : ℕ) : Type 0 where
  pub names : length steps ≡ name_count
  pub room : length order ≡ name_count
  pub each : (p : ℕ) → p < len → IsName (get_or order p 0)
  pub seen : (p : ℕ) → p < len → at steps (get_or order p 0) < far
  pub once : Once order len

-- The list has become longer, by names behind the first len.
abbrev pub Longer : List ℕ → ℕ → List ℕ → ℕ → Type 0
Longer order len order' len' = (len ≤ len') × ((q : ℕ) → q < len → get_or order' q 0 ≡ get_or order q 0)

-- z stands at a place from lo up to hi.
abbrev pub Within : List ℕ → ℕ → ℕ → ℕ → Type 0
Within order lo hi z = (p : ℕ) × (lo ≤ p) × (p < hi) × (get_or order p 0 ≡ z)

-- M record j has been looked at in this round: it is of a name at a place from lo up to p, or of the one at p and before number i.
abbrev pub Done : List ℕ → List ℕ → ℕ → ℕ → ℕ → ℕ → Type 0
Done b order lo p i j = Within order lo p (key b j) ⊎ ((key b j ≡ get_or order p 0) × (j < i))

-- Round n, of the names that are n steps away, which stand from lo up to hi: those that came in it stand from hi up to len.
pub record Trails (b : List ℕ) (k start n lo hi p i : ℕ) (steps before order : List ℕ) (len : ℕ) : Type 0 where
  pub names : length steps ≡ name_count
  pub names_before : length before ≡ name_count
  pub starts : at steps start ≡ 0
  pub near : (j : ℕ) → Of b Membership j → NetAt b j k → (at steps (key b j) < n) ⊎ ((at steps (key b j) ≡ n) × Done b order lo p i j)
      → at steps (id b j) ≤ at steps (key b j) + 1
  pub back : (y : ℕ) → IsName y → Back b k start (n + 1) steps before y
  pub now : (z : ℕ) → IsName z → at steps z ≡ n → Within order lo hi z
  pub at_now : (q : ℕ) → lo ≤ q → q < hi → at steps (get_or order q 0) ≡ n
  pub next : (z : ℕ) → IsName z → at steps z ≡ n + 1 → Within order hi len z
  pub at_next : (q : ℕ) → hi ≤ q → q < len → at steps (get_or order q 0) ≡ n + 1
  pub inside : (p ≤ hi) × (hi ≤ len)

-- Where the M records of each name begin: at the first of them. Of a name that has none nothing is said.
pub record Begin (b firsts : List ℕ) (i j : ℕ) : Type 0 where
  pub low : i ≤ get_or firsts (key b j) 0
  pub high : get_or firsts (key b j) 0 ≤ j
  pub own : key b (get_or firsts (key b j) 0) ≡ key b j

abbrev pub Begins : List ℕ → List ℕ → ℕ → Type 0
Begins b firsts i = (j : ℕ) → Of b Membership j → i ≤ j → Begin b firsts i j

-- ---- the granting record

-- The steps to a name of the object's side: name 0 is there by itself.
abbrev pub at_object : List ℕ → ℕ → ℕ
at_object steps g = cond (eqb g 0) 0 (at steps g)

-- Those to both names of P record i.
abbrev pub between : List ℕ → List ℕ → List ℕ → ℕ → ℕ
between b us os i = at us (id b i) + at_object os (key b i)

-- Of the P records before number i that grant right k, the best has the fewest steps between, if any has its names reached.
pub record Nearest (b : List ℕ) (k : ℕ) (us os : List ℕ) (i : ℕ) (best : Best) : Type 0 where
  pub few : best.steps ≤ far
  pub least : (j : ℕ) → from b Permission ≤ j → j < i → NetAt b j k → best.steps ≤ between b us os j
  pub there : best.steps < far → Of b Permission best.at × NetAt b best.at k × (between b us os best.at ≡ best.steps)

-- The P record that grants right k with the fewest steps between, if any does.
unfoldable pub Granted : List ℕ → ℕ → List ℕ → List ℕ → Option ℕ → Type 0
Granted b k us os (Some i) =
    Of b Permission i × NetAt b i k × (between b us os i < far)
    × ((j : ℕ) → Of b Permission j → NetAt b j k → between b us os i ≤ between b us os j)
Granted b k us os None = (j : ℕ) → Of b Permission j → NetAt b j k → far ≤ between b us os j

-- ---- the names written

-- From each name that is reached, but for the start, a name that is one step nearer is known.
abbrev pub Backs : List ℕ → List ℕ → Type 0
Backs steps before =
    (y : ℕ) → IsName y → 0 < at steps y → at steps y ≤ chain_limit
    → IsName (get_or before y 0) × (at steps y ≡ at steps (get_or before y 0) + 1)

-- The names on the way to a name stand at the front of the list from place n on, each behind the one that is known before it, and the places past it are
-- as they were.
pub record Traced (steps before : List ℕ) (to n : ℕ) (names names' : List ℕ) : Type 0 where
  pub same_length : length names' ≡ length names
  pub ends : get_or names' (at steps to) 0 ≡ to
  pub named : (i : ℕ) → n ≤ i → i ≤ at steps to → IsName (get_or names' i 0)
  pub away : (i : ℕ) → n ≤ i → i ≤ at steps to → at steps (get_or names' i 0) ≡ i
  pub behind : (i : ℕ) → n ≤ i → i < at steps to → get_or names' i 0 ≡ get_or before (get_or names' (i + 1) 0) 0
  pub past : (i : ℕ) → at steps to < i → get_or names' i 0 ≡ get_or names i 0

-- The same of a name of the object's side: name 0 stands by itself.
pub record ObjectTraced (steps before : List ℕ) (g : ℕ) (names names' : List ℕ) : Type 0 where
  pub same_length : length names' ≡ length names
  pub zero : g ≡ 0 → get_or names' 0 0 ≡ 0
  pub chain : (g ≡ 0 → ⊥) → Traced steps before g 0 names names'
  pub past : (i : ℕ) → at_object steps g < i → get_or names' i 0 ≡ get_or names i 0

-- No name is further away than one that is not reached.
abbrev pub Short : List ℕ → Type 0
Short steps = (x : ℕ) → IsName x → at steps x ≤ far
