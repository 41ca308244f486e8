-- For proofs only: what the small questions of the engine ask of a record by its number, and of a chain.
use Rattle.std.specs.Prelude.{ℕ, ◌-◌, ◌<◌, ◌≡◌, List, ◌⊎◌}
use Rattle.index.specs.declared.Kind.TheVariants.{Permission}
use Rattle.index.specs.Letters.{marker_x, marker_n}
use Rattle.index.specs.Block.{Of, key, id, count_at, NetAt}
use Rattle.rights.specs.Chain.{Chain}
use Rattle.rights.specs.Groups.{Member, WithoutN}
use Rattle.rights.specs.Held.{Carries}
use Rattle.plain.specs.declared.reaching.Link.{Link}
use Rattle.plain.specs.declared.reaching.Link.TheVariants as link

-- ---- one record

-- M record i is a membership; one without N; and one that can be the last of a chain to a group of hers.
abbrev pub MemberAt : List ℕ → ℕ → Type 0
MemberAt b i = (k : ℕ) × (k < marker_x) × (0 < count_at b i k)

abbrev pub WithoutAt : List ℕ → ℕ → Type 0
WithoutAt b i = MemberAt b i × (count_at b i marker_n ≡ 0)

abbrev pub ClosesAt : List ℕ → ℕ → Type 0
ClosesAt b i = WithoutAt b i × (0 < count_at b i marker_x)

-- ---- chains

-- The records that a chain of such links may go through.
abbrev pub Linked : List ℕ → Link → ℕ → ℕ → Type 0
Linked b (link.Right right) x y = Carries b right.place x y
Linked b link.WithoutN x y = WithoutN b x y
Linked b link.Member x y = Member b x y

-- One of the first n M records leads on from x, to an id from which a chain of at most m records leads to z.
abbrev pub Onward : List ℕ → Link → ℕ → ℕ → ℕ → ℕ → Type 0
Onward b link m x z n = (i : ℕ) × (i < n) × (key b i ≡ x) × Linked b link x (id b i) × Chain (Linked b link) m (id b i) z

-- ---- a right, the filters and the groups

-- P record i grants right k on o to u.
abbrev pub GrantsAt : List ℕ → ℕ → ℕ → ℕ → ℕ → ℕ → Type 0
GrantsAt b u o k n i = NetAt b i k × Chain (Carries b k) n u (id b i) × (Chain (Carries b k) n o (key b i) ⊎ (key b i ≡ 0))

-- Some P record does.
abbrev pub Granted : List ℕ → ℕ → ℕ → ℕ → ℕ → Type 0
Granted b u o k n = (i : ℕ) × Of b Permission i × GrantsAt b u o k n i

-- M record i says that o is a member of the group y.
abbrev pub NamesAt : List ℕ → ℕ → ℕ → ℕ → Type 0
NamesAt b o y i = (id b i ≡ y) × (key b i ≡ o) × Member b o (id b i)

-- M record i makes its id a group of hers, with chains of at most n records.
abbrev pub HersAt : List ℕ → ℕ → ℕ → ℕ → Type 0
HersAt b u n i = (0 < n) × ClosesAt b i × Chain (WithoutN b) (n - 1) u (key b i)
