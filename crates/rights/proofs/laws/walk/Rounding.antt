-- One round, record by record, over the records of the names whose marks grew in the round before.
use Prim.Native.Nat.{ℕ, ◌+◌, ◌-◌, ◌<◌, ◌≤◌}
use mathlib.Core.Path.{◌≡◌, refl, sym, subst, ◌∙◌}
use mathlib.Core.List.{List}
use mathlib.Core.Logic.{◌⊎◌, ◌↔◌, inl, inr, ⊎_elim}
use native.Mathlib.Omega.{arith}
use native.Mathlib.Nat.{eq-or-lt_of_le}
use native.Mathlib.Decide.{ℕ_discrete}
use lib.ListN.{length, get_or, set}
use lib.Seq.{get_or-set_same, get_or-set_other}
use lib.Bits.{bit_or, bit_and}
use Rattle.index.specs.declared.Kind.TheVariants.{Membership}
use Rattle.index.specs.Letters.{right_count, Mask}
use Rattle.index.specs.Block.{size, key, id, Of, Good}
use Rattle.index.specs.work.Places.{At}
use Rattle.index.proofs.laws.block.Masks.{mask_map, mask_limited, mask_either, mask_self}
use Rattle.rights.specs.declared.walk.Carry.{Carry}
use Rattle.rights.specs.declared.walk.Carry.TheVariants as carry
use Rattle.rights.specs.Groups.{WithoutN}
use Rattle.rights.specs.Held.{Carries}
use Rattle.rights.specs.Examined.{HowMany}
use Rattle.rights.specs.work.Marks.{Marked, Marks, Carried, Brings, Round, Read}
use Rattle.rights.specs.work.Fronts.{Among, Front, Settled, Brought, Spread, Through}
use Rattle.rights.proofs.laws.Counting.{count_map, count_span}
use Rattle.rights.proofs.laws.ByNumber.{net_where}
use Rattle.rights.proofs.laws.held.Members.{member_where}
use Rattle.directory.specs.Directory.{StartsAt}
use Rattle.rights.proofs.laws.walk.Fronts.{among_more, front_same}
use Rattle.rights.proofs.laws.walk.Looking.{Own, keyed}

-- What carries a right is an M record.
carried_where : {b : List ℕ} → Good b → (carry : Carry) (k x y : ℕ) → Carried b carry k x y → (i : ℕ) × At b Membership x y i
unfolding Carries WithoutN
carried_where g carry.Rights k x y c = let w = net_where g Membership k c in (w.0, w.1)
carried_where g carry.WithoutN k x y c = member_where g c.0
carried_where g carry.Member k x y c = member_where g c

module _ (b : List ℕ) (carry : Carry) (ms : List ℕ) where
  pub spread_none : (D : ℕ → Type 0) → Marks ms → ((i : ℕ) → D i → ⊥) → Spread b carry ms D ms
  spread_none D marks none z =
      mask_map (mask_self (get_or ms z 0) (marks.small z)) (λ k. Marked ms k z ⊎ Brought b carry ms D k z)
      (λ k h. ((λ i. inl i), (λ s. ⊎_elim (λ i. i) (λ w. absurd (none w.0 w.1)) s)))

  -- The same records, said otherwise.
  pub spread_map : (D E : ℕ → Type 0) (to : List ℕ) → ((i : ℕ) → Of b Membership i → D i ↔ E i)
      → Spread b carry ms D to → Spread b carry ms E to
  spread_map D E to same inv z =
      mask_map (inv z) (λ k. Marked ms k z ⊎ Brought b carry ms E k z)
      (λ k h. (
        (λ s. ⊎_elim (λ m. inl m) (λ w. inr (w.0, (same w.0 w.2).0 w.1, w.2, w.3, w.4, w.5)) s),
        (λ s. ⊎_elim (λ m. inl m) (λ w. inr (w.0, (same w.0 w.2).1 w.1, w.2, w.3, w.4, w.5)) s),
      ))

  -- Record n too.
  module _ (D : ℕ → Type 0) (to : List ℕ) (n net : ℕ) (of : Of b Membership n)
      (told : Mask net (λ k. Carried b carry k (key b n) (id b n))) (inv : Spread b carry ms D to) where
    abbrev With : ℕ → Type 0
    With i = D i ⊎ (i ≡ n)

    -- It alone brings right k to z.
    abbrev Alone : ℕ → ℕ → ℕ → Type 0
    Alone k z i = (id b i ≡ z) × Carried b carry k (key b i) (id b i) × Marked ms k (key b i)

    wider : (k z : ℕ) → Marked ms k z ⊎ Brought b carry ms D k z → Marked ms k z ⊎ Brought b carry ms With k z
    wider k z = ⊎_elim (λ m. inl m) (λ w. inr (w.0, inl w.1, w.2, w.3, w.4, w.5))

    last : (k z : ℕ) → Brought b carry ms With k z → Brought b carry ms D k z ⊎ Alone k z n
    last k z w =
        ⊎_elim (λ d. inl (w.0, d, w.2, w.3, w.4, w.5)) (λ e. inr (subst (λ (i : ℕ). Alone k z i) e (w.3, w.4, w.5))) w.1

    at_id : Mask (bit_or (get_or to (id b n) 0) (bit_and net (get_or ms (key b n) 0))) (λ k. Marked ms k (id b n) ⊎ Brought b carry ms With k (id b n))
    at_id =
        mask_map (mask_either (inv (id b n)) (mask_limited told (get_or ms (key b n) 0))) _
        (λ k h. (
          (λ s. ⊎_elim (wider k (id b n)) (λ p. inr (n, inr refl, of, refl, p.0, p.1)) s),
          (λ s. ⊎_elim (λ m. inl (inl m)) (λ w. ⊎_elim (λ v. inl (inr v)) (λ v. inr (v.1, v.2)) (last k (id b n) w)) s),
        ))

    elsewhere : (z : ℕ) → (z ≡ id b n → ⊥) → Mask (get_or to z 0) (λ k. Marked ms k z ⊎ Brought b carry ms With k z)
    elsewhere z ne =
        mask_map (inv z) _
        (λ k h. (
          wider k z,
          (λ s. ⊎_elim (λ m. inl m) (λ w. ⊎_elim (λ v. inr v) (λ v. absurd (ne (sym v.0))) (last k z w)) s),
        ))

    -- With key and id as the code has them.
    pub spread_set : (x y : ℕ) → x ≡ key b n → y ≡ id b n → y < length to
        → Spread b carry ms (λ i. D i ⊎ (i ≡ n)) (set to y (bit_or (get_or to y 0) (bit_and net (get_or ms x 0))))
    spread_set x y is_key is_id inside z =
        let v = bit_or (get_or to y 0) (bit_and net (get_or ms x 0)) in
        elim (ℕ_discrete z y) [
          | yes e ↦ rw (e, get_or-set_same to y v 0 inside, is_key, is_id) at_id
          | no ne ↦ rw (get_or-set_other to y z v 0 ne) (elsewhere z (λ e. ne (e ∙ sym is_id)))
        ]

-- ---- the records of one name more

-- The records of the first j names, and those from f up to i.
abbrev pub Upto : List ℕ → List ℕ → ℕ → ℕ → ℕ → ℕ → Type 0
Upto b names j f i n = Through b names j n ⊎ ((f ≤ n) × (n < i))

module _ (b names : List ℕ) (j f : ℕ) where
  -- None of them yet.
  pub upto_none : (i : ℕ) → Of b Membership i → Through b names j i ↔ Upto b names j f f i
  upto_none i of = ((λ t. inl t), (λ u. ⊎_elim (λ t. t) (λ p. absurd (omega (arith, p.0, p.1))) u))

  -- With record n.
  pub upto_more : (n : ℕ) → f ≤ n → (i : ℕ) → Of b Membership i → (Upto b names j f n i ⊎ (i ≡ n)) ↔ Upto b names j f (n + 1) i
  upto_more n l i of = (
    (λ s. ⊎_elim (λ u. ⊎_elim (λ t. inl t) (λ p. inr (p.0, omega (arith, p.1))) u) (λ e. inr (omega arith, omega arith)) s),
    (λ u.
        ⊎_elim (λ t. inl (inl t))
        (λ p. ⊎_elim (λ e. inr e) (λ q. inl (inr (p.0, q))) (eq-or-lt_of_le {n = i} {m = n} (omega (arith, p.1)))) u),
  )

  -- All records of name j.
  pub upto_all : (e : ℕ) → ((i : ℕ) → ((f ≤ i) × (i < e)) ↔ (Of b Membership i × (key b i ≡ get_or names j 0))) → (i : ℕ)
      → Of b Membership i → Upto b names j f e i ↔ Through b names (j + 1) i
  upto_all e keyed i of = (
    (λ u. (among_more names j (key b i)).1 (⊎_elim (λ t. inl t) (λ p. inr (sym ((keyed i).0 p).1)) u)),
    (λ a. ⊎_elim (λ t. inl t) (λ q. inr ((keyed i).1 (of, sym q))) ((among_more names j (key b i)).0 a)),
  )

-- The records of name j, from its first up to e, where the next is not its own, or is none, are all that it has.
all_of : {b : List ℕ} (names : List ℕ) (j f e : ℕ) → StartsAt b Membership (get_or names j 0) f → Good b → f ≤ e → e ≤ size b Membership
    → Own b (get_or names j 0) f e → (e ≡ size b Membership) ⊎ (key b e ≡ get_or names j 0 → ⊥) → (i : ℕ) → Of b Membership i
    → Upto b names j f e i ↔ Through b names (j + 1) i
all_of {b} names j f e starts g l h own stop =
    upto_all b names j f e
    (keyed Membership (get_or names j 0) f e starts g l (omega arith) own (⊎_elim (λ q. inl (omega arith)) (λ ne. inr ne) stop))

-- With them the round is through with it.
pub through_more : {b : List ℕ} (carry : Carry) (ms names : List ℕ) (j f e : ℕ) (to : List ℕ) → Good b
    → StartsAt b Membership (get_or names j 0) f → f ≤ e → e ≤ size b Membership → Own b (get_or names j 0) f e
    → (e ≡ size b Membership) ⊎ (key b e ≡ get_or names j 0 → ⊥) → Spread b carry ms (Upto b names j f e) to
    → Spread b carry ms (Through b names (j + 1)) to
through_more {b} carry ms names j f e to g starts l h own stop =
    spread_map b carry ms (Upto b names j f e) (Through b names (j + 1)) to (all_of names j f e starts g l h own stop)

-- They are none of those before, as the name stands on the list once, and so many more.
pub counted_more : {b : List ℕ} (names : List ℕ) (j f e : ℕ) {c : ℕ} → Good b → StartsAt b Membership (get_or names j 0) f → f ≤ e
    → e ≤ size b Membership → Own b (get_or names j 0) f e → (e ≡ size b Membership) ⊎ (key b e ≡ get_or names j 0 → ⊥)
    → (Among names j (get_or names j 0) → ⊥) → HowMany (Through b names j) (size b Membership) c
    → HowMany (Through b names (j + 1)) (size b Membership) (c + (e - f))
counted_more {b} names j f e {c} g starts l h own stop new counted =
    let q : f + (e - f) ≡ e = omega arith in
    count_map (λ i s. all_of names j f e starts g l h own stop i (omega arith, omega arith))
    (subst (λ (d : ℕ). HowMany (λ i. Through b names j i ⊎ ((f ≤ i) × (i < d))) (size b Membership) (c + (e - f))) q
    (count_span f (e - f) (omega arith) (λ i a s t. new (rw (own i a (omega arith)) at t)) counted))

-- ---- a whole round

pub settled_next : (b : List ℕ) (carry : Carry) (ms ms₁ : List ℕ) → Round b carry ms ms₁ → Settled b carry ms ms₁
unfolding Round Settled
settled_next b carry ms ms₁ r k z h s = ((r z).1 k h).1 s

module _ (b : List ℕ) (carry : Carry) {old ms names : List ℕ} (front : Front old ms names)
    (settled : Settled b carry old ms) where
  -- The records of the other names bring nothing new.
  pub front_round : Good b → (ms₁ : List ℕ) → Spread b carry ms (Through b names (length names)) ms₁ → Round b carry ms ms₁
  unfolding Round Settled
  front_round g ms₁ inv z =
      mask_map (inv z) (λ k. Brings b carry ms k z)
      (λ k h. (
        (λ s.
            ⊎_elim (λ m. inl m)
            (λ w. inr (key b w.0, w.5, subst (λ (y : ℕ). Carried b carry k (key b w.0) y) w.3 w.4)) s),
        (λ s.
            ⊎_elim (λ m. inl m) (λ t. any k h t.0 t.1 t.2 (ℕ_discrete (get_or old t.0 0) (get_or ms t.0 0))) s),
      ))
    where
      any : (k : ℕ) → k < right_count → (x : ℕ) → Marked ms k x → Carried b carry k x z → Dec (get_or old x 0 ≡ get_or ms x 0)
          → Marked ms k z ⊎ Brought b carry ms (Through b names (length names)) k z
      any k h x m c (yes e) = inl (settled k z h (inr (x, rw e m, c)))
      any k h x m c (no ne) =
          let w = carried_where g carry k x z c in
          let at = w.1 in
          inr (
            w.0,
            rw at.has_key ((front.listed x).1 ne),
            at.of,
            at.has_id,
            rw (at.has_key, at.has_id) c,
            rw at.has_key m,
          )

  -- They are the records that a round examines.
  pub front_read : {c : ℕ} → HowMany (Through b names (length names)) (size b Membership) c → Read b old ms c
  front_read = count_map (λ i l. front.listed (key b i))

  -- Where no mark grew, a round changes nothing.
  pub still_round : length names ≡ 0 → Marks ms → Round b carry ms ms
  unfolding Round Settled
  still_round none marks z =
      mask_map (mask_self (get_or ms z 0) (marks.small z)) (λ k. Brings b carry ms k z)
      (λ k h. (
        (λ m. inl m),
        (λ s. ⊎_elim (λ m. m) (λ t. settled k z h (inr (t.0, rw (same t.0) t.1, t.2))) s),
      ))
    where
      same : (x : ℕ) → get_or old x 0 ≡ get_or ms x 0
      same x = front_same front x (λ a. omega (arith, a.1))
