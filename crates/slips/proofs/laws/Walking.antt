-- The walk of one side for one right: a record that is looked at, those of a name, a round, and the rounds.
use Prim.Native.Nat.{ℕ, ◌+◌, ◌<◌, ◌≤◌}
use mathlib.Core.Path.{◌≡◌, sym, ap, subst, ◌∙◌}
use mathlib.Core.List.{List}
use mathlib.Core.Logic.{◌⊎◌, inl, inr, ⊎_elim}
use native.Mathlib.Omega.{arith}
use native.Mathlib.Decide.{ℕ_discrete}
use lib.ListN.{length, get_or, set, replicate, length-set, length-replicate, get_or-replicate}
use lib.Seq.{get_or-set_same, get_or-set_other}
use Rattle.index.specs.declared.Kind.TheVariants.{Membership}
use Rattle.index.specs.Letters.{right_count}
use Rattle.index.specs.Block.{name_count, IsName, size, Of, key, id, NetAt, Good}
use Rattle.index.proofs.laws.Range.{lt_or_le}
use Rattle.directory.proofs.Numbered.{key_name, id_name, keys_rise}
use Rattle.rights.specs.Held.{Carries, chain_limit}
use Rattle.rights.proofs.laws.ByNumber.{at_self, net_at}
use Rattle.rights.proofs.laws.walk.Fronts.{at_set}
use Rattle.slips.specs.work.Trails.{far, at, Led, Walk, Listed, Within, Done, Trails, Begins}
use Rattle.slips.proofs.laws.Listing.{place, within_set, set_within}

module _ {b : List ℕ} {k start n lo hi p i : ℕ} {steps before order : List ℕ} {len : ℕ} (t : Trails b k start n lo hi p i steps before order len) where
  -- The same trails, where other records have been looked at.
  pub looked : (p' i' : ℕ) → p' ≤ hi
      → ((j : ℕ) → Of b Membership j → NetAt b j k → at steps (key b j) ≡ n → Done b order lo p' i' j → Done b order lo p i j ⊎ (at steps (id b j) ≤ n + 1))
      → Trails b k start n lo hi p' i' steps before order len
  looked p' i' h other = record {
    names = t.names;
    names_before = t.names_before;
    starts = t.starts;
    near = λ j of net c.
        ⊎_elim (λ l. t.near j of net (inl l))
        (λ q. ⊎_elim (λ d. t.near j of net (inr (q.0, d))) (λ l. omega (arith, q.0)) (other j of net q.0 q.1)) c;
    back = t.back;
    now = t.now;
    at_now = t.at_now;
    next = t.next;
    at_next = t.at_next;
    inside = (h, t.inside.1);
  }

  -- A name that is reached is at most n + 1 steps away.
  pub near_by : (y : ℕ) → IsName y → (at steps y ≡ far → ⊥) → at steps y ≤ n + 1
  near_by y h ne =
      ⊎_elim (λ e. omega (arith, ap (at steps) e, t.starts)) (λ s. ⊎_elim (λ e. absurd (ne e)) (λ l. l.within) s) (t.back y h)

-- ---- a record that is looked at

module _ {b : List ℕ} (g : Good b) {k start n lo hi p i : ℕ} {steps before order : List ℕ} {len : ℕ} (small : n < chain_limit) (of : Of b Membership i)
    (at_p : key b i ≡ get_or order p 0) (low : lo ≤ p) (high : p < hi) (t : Trails b k start n lo hi p i steps before order len) where
  -- Those that are done are those before it, and it.
  one_more : (j : ℕ) → Done b order lo p (i + 1) j → Done b order lo p i j ⊎ (j ≡ i)
  one_more j d =
      ⊎_elim (λ w. inl (inl w))
      (λ q. elim (ℕ_discrete j i) [ yes e ↦ inr e | no ne ↦ inl (inr (q.0, omega (arith, q.1, ne))) ]) d

  -- Its id is reached.
  module _ (kr : k < right_count) (net : NetAt b i k) {x y : ℕ} (ex : x ≡ key b i) (ey : y ≡ id b i) (there : at steps y ≡ far)
      (l : Listed steps order len) where
    abbrev steps' : List ℕ
    steps' = set steps y (n + 1)

    abbrev before' : List ℕ
    before' = set before y x

    abbrev order' : List ℕ
    order' = set order len y

    name : IsName y
    name = omega (arith, id_name g Membership of)

    new : at steps' y ≡ n + 1
    new = get_or-set_same steps y (n + 1) 0 (omega (arith, name, t.names))

    old : (z : ℕ) → (z ≡ y → ⊥) → at steps' z ≡ at steps z
    old z ne = get_or-set_other steps y z (n + 1) 0 ne

    -- A name that is not as far is another one.
    other : {z : ℕ} → at steps z < far → z ≡ y → ⊥
    other l e = omega (arith, ap (at steps) e, there)

    -- The key is n steps away.
    here : at steps x ≡ n
    here = ap (at steps) (ex ∙ at_p) ∙ t.at_now p low high

    at_place : (q : ℕ) → q < len → get_or order' q 0 ≡ get_or order q 0
    at_place q h = at_set order len y q h

    end : get_or order' len 0 ≡ y
    end = get_or-set_same order len y 0 (omega (arith, place l name there, l.room))

    near' : (j : ℕ) → Of b Membership j → NetAt b j k
        → (at steps' (key b j) < n) ⊎ ((at steps' (key b j) ≡ n) × Done b order' lo p (i + 1) j) → at steps' (id b j) ≤ at steps' (key b j) + 1
    near' j ofj netj c =
        elim (ℕ_discrete (key b j) y) [
          | yes e ↦ absurd (⊎_elim (λ l. omega (arith, ap (at steps') e, new)) (λ p. omega (arith, ap (at steps') e, new, p.0)) c)
          | no ne ↦
              let same = old (key b j) ne in
              elim (ℕ_discrete (id b j) y) [
                | yes e ↦
                    ⊎_elim (λ l. absurd (omega (arith, t.near j ofj netj (inl (omega (arith, same))), ap (at steps) e, there, same)))
                    (λ q. omega (arith, ap (at steps') e, new, q.0)) c
                | no nid ↦
                    ⊎_elim (λ l. omega (arith, t.near j ofj netj (inl (omega (arith, same))), same, old (id b j) nid))
                    (λ q. omega (arith, t.near j ofj netj (inr (sym same ∙ q.0, done j nid q.1)), same, old (id b j) nid)) c
              ]
        ]
      where
        done : (j : ℕ) → (id b j ≡ y → ⊥) → Done b order' lo p (i + 1) j → Done b order lo p i j
        done j nid d =
            ⊎_elim (λ w. inl (set_within order len y lo p (key b j) (omega (arith, t.inside)) w))
            (λ q.
            elim (ℕ_discrete j i) [
              | yes e ↦ absurd (nid (ap (id b) e ∙ sym ey))
              | no ne ↦ inr (q.0 ∙ at_place p (omega (arith, t.inside)), omega (arith, q.1, ne))
            ])
            d

    carries : Carries b k (key b i) (id b i)
    unfolding Carries
    carries = (net_at g Membership k kr (at_self of)).0 net

    led : Led b k (n + 1) steps' before' y
    led =
        let e : get_or before' y 0 ≡ x = get_or-set_same before y x 0 (omega (arith, name, t.names_before)) in
        record {
          named = rw e (omega (arith, key_name g Membership of));
          step = rw (e, new, old x (other (omega (arith, here))), here);
          carried = rw (e, ex, ey) carries;
          within = omega (arith, new);
        }

    kept : (z : ℕ) → (z ≡ y → ⊥) → Led b k (n + 1) steps before z → Led b k (n + 1) steps' before' z
    kept z ne l =
        let e : get_or before' z 0 ≡ get_or before z 0 = get_or-set_other before y z x 0 ne in
        record {
          named = rw e l.named;
          step = rw (e, old z ne, old (get_or before z 0) (other (omega (arith, l.step, l.within)))) l.step;
          carried = rw e l.carried;
          within = omega (arith, old z ne, l.within);
        }

    pub reached : Trails b k start n lo hi p (i + 1) steps' before' order' (len + 1)
    reached = record {
      names = length-set steps y (n + 1) ∙ t.names;
      names_before = length-set before y x ∙ t.names_before;
      starts = old start (other (omega (arith, t.starts))) ∙ t.starts;
      near = near';
      back = λ z h.
          elim (ℕ_discrete z y) [
            | yes e ↦ inr (inr (subst (Led b k (n + 1) steps' before') (sym e) led))
            | no ne ↦ ⊎_elim (λ e. inl e) (λ s. inr (⊎_elim (λ e. inl (old z ne ∙ e)) (λ l. inr (kept z ne l)) s)) (t.back z h)
          ];
      now = λ z h e.
          let ne : z ≡ y → ⊥ = λ q. omega (arith, ap (at steps') q, new) in
          within_set order len y lo hi z t.inside.1 (t.now z h (sym (old z ne) ∙ e));
      at_now = λ q lo hi.
          let e = t.at_now q lo hi in
          rw (at_place q (omega (arith, t.inside))) (old (get_or order q 0) (other (omega arith)) ∙ e);
      next = λ z h e.
          elim (ℕ_discrete z y) [
            | yes q ↦ (len, t.inside.1, omega arith, end ∙ sym q)
            | no ne ↦
                let w = t.next z h (sym (old z ne) ∙ e) in
                (w.0, w.1, omega (arith, w.2), at_place w.0 w.2 ∙ w.3)
          ];
      at_next = λ q low high.
          elim (ℕ_discrete q len) [
            | yes e ↦ rw (e, end) new
            | no ne ↦
                let e = t.at_next q low (omega (arith, ne)) in
                rw (at_place q (omega (arith, ne))) (old (get_or order q 0) (other (omega arith)) ∙ e)
          ];
      inside = (omega (arith, t.inside), omega (arith, t.inside));
    }

-- ---- the records of a name

module _ {b : List ℕ} (g : Good b) {k start n lo hi p : ℕ} {steps before order : List ℕ} {len : ℕ} (low : lo ≤ p) (high : p < hi) {firsts : List ℕ}
    (begins : Begins b firsts 0) {x : ℕ} (at_p : x ≡ get_or order p 0) where
  -- Record i is of another name, or past the last: all of them are before it.
  pub to_last : {i : ℕ} → get_or firsts x 0 ≤ i → (i < size b Membership → key b i ≡ x → ⊥) → Trails b k start n lo hi p i steps before order len
      → Trails b k start n lo hi (p + 1) 0 steps before order len
  to_last {i} from stop t = looked t (p + 1) 0 (omega arith) (λ j of net e d. inl (done j of d))
    where
      own : (j : ℕ) → Of b Membership j → key b j ≡ x → j < i
      own j of e =
          ⊎_elim (λ (l : j < i). l)
          (λ l.
          let begin = begins j of (omega arith) in
          let f : get_or firsts (key b j) 0 ≡ get_or firsts x 0 = ap (λ (z : ℕ). get_or firsts z 0) e in
          let ofi : Of b Membership i = (omega arith, omega (arith, of.1)) in
          let off : Of b Membership (get_or firsts x 0) = (omega arith, omega (arith, of.1)) in
          absurd
          (stop (omega (arith, ofi.1))
          (omega (arith, keys_rise g Membership (get_or firsts x 0) i from off ofi, keys_rise g Membership i j l ofi of, rw f at begin.own))))
          (lt_or_le j i)

      up_to : (j : ℕ) → Of b Membership j → Within order lo (p + 1) (key b j) → Done b order lo p i j
      up_to j of (q, l, h, e) =
          elim (ℕ_discrete q p) [
            | yes w ↦
                let here : key b j ≡ get_or order p 0 = sym e ∙ ap (λ (q : ℕ). get_or order q 0) w in
                inr (here, own j of (here ∙ sym at_p))
            | no ne ↦ inl (q, l, omega (arith, ne), e)
          ]

      done : (j : ℕ) → Of b Membership j → Done b order lo (p + 1) 0 j → Done b order lo p i j
      done j of d = ⊎_elim (λ w. up_to j of w) (λ q. absurd (omega (arith, q.1))) d

-- ---- the rounds

-- No name is reached yet but for the start.
abbrev first : ℕ → List ℕ
first start = set (replicate name_count far) start 0

module _ {start : ℕ} (h : IsName start) where
  zero : at (first start) start ≡ 0
  zero = get_or-set_same (replicate name_count far) start 0 0 (omega (arith, length-replicate {A = ℕ} name_count far))

  others : (y : ℕ) → IsName y → (y ≡ start → ⊥) → at (first start) y ≡ far
  others y n ne = get_or-set_other (replicate name_count far) start y 0 0 ne ∙ get_or-replicate name_count y far 0 n

module _ (b : List ℕ) (k : ℕ) {start : ℕ} (order : List ℕ) (h : IsName start) (long : length order ≡ name_count) where
  place_0 : get_or (set order 0 start) 0 0 ≡ start
  place_0 = get_or-set_same order 0 start 0 (omega (arith, long))

  at_first : (p : ℕ) → p < 1 → get_or (set order 0 start) p 0 ≡ start
  at_first p l = let e : p ≡ 0 = omega arith in ap (λ (q : ℕ). get_or (set order 0 start) q 0) e ∙ place_0

  pub begun_list : Listed (first start) (set order 0 start) 1
  begun_list = record {
    names = length-set (replicate name_count far) start 0 ∙ length-replicate name_count far;
    room = length-set order 0 start ∙ long;
    each = λ p l. omega (arith, at_first p l, h);
    seen = λ p l. omega (arith, ap (at (first start)) (at_first p l), zero h);
    once = λ j l a. omega (arith, a.1);
  }

  pub begun : {before : List ℕ} → length before ≡ name_count → Trails b k start 0 0 1 0 0 (first start) before (set order 0 start) 1
  begun names = record {
    names = begun_list.names;
    names_before = names;
    starts = zero h;
    near = λ j of net c. absurd (⊎_elim (λ l. omega arith) (λ q. ⊎_elim (λ w. omega (arith, w.2)) (λ d. omega (arith, d.1)) q.1) c);
    back = λ y n. elim (ℕ_discrete y start) [ yes e ↦ inl e | no ne ↦ inr (inl (others h y n ne)) ];
    now = λ z n e.
        elim (ℕ_discrete z start) [
          | yes q ↦ (0, omega arith, omega arith, place_0 ∙ sym q)
          | no ne ↦ absurd (omega (arith, others h z n ne))
        ];
    at_now = λ q low high. ap (at (first start)) (at_first q high) ∙ zero h;
    next = λ z n e.
        absurd
        (elim (ℕ_discrete z start) [
          | yes q ↦ omega (arith, ap (at (first start)) q, zero h)
          | no ne ↦ omega (arith, others h z n ne)
        ]);
    at_next = λ q low high. absurd (omega arith);
    inside = (omega arith, omega arith);
  }

module _ {b : List ℕ} (g : Good b) {k start n lo hi p i : ℕ} {steps before order : List ℕ} {len : ℕ} (t : Trails b k start n lo hi p i steps before order len) where
  more : (m : ℕ) {y : ℕ} → at steps y ≤ m → Led b k (n + 1) steps before y → Led b k m steps before y
  more m w l = record { named = l.named; step = l.step; carried = l.carried; within = w }

  -- All names of the round are through: the next may begin.
  pub next_round : n < chain_limit → p ≡ hi → Trails b k start (n + 1) hi len hi 0 steps before order len
  next_round small e = record {
    names = t.names;
    names_before = t.names_before;
    starts = t.starts;
    near = λ j of net c.
        ⊎_elim
        (λ l.
        t.near j of net
        (⊎_elim (λ (h : at steps (key b j) < n). inl h)
        (λ h. let same : at steps (key b j) ≡ n = omega arith in inr (same, inl (rw e (t.now (key b j) (key_name g Membership of) same))))
        (lt_or_le (at steps (key b j)) n)))
        (λ q. absurd (⊎_elim (λ w. omega (arith, w.1, w.2)) (λ d. omega (arith, d.1)) q.1)) c;
    back = λ y h. ⊎_elim (λ e. inl e) (λ s. inr (⊎_elim (λ e. inl e) (λ l. inr (more (n + 1 + 1) (omega (arith, l.within)) l)) s)) (t.back y h);
    now = t.next;
    at_now = t.at_next;
    next = λ z h e. absurd (omega (arith, near_by t z h (λ f. omega arith)));
    at_next = λ q low high. absurd (omega arith);
    inside = (t.inside.1, omega arith);
  }

  -- No name has come, and each that a chain of 32 may still go on from is through: none comes later.
  pub no_more : len ≡ hi → n ≤ chain_limit → ((z : ℕ) → IsName z → at steps z ≡ n → n < chain_limit → Within order lo p z) → Walk b k start steps before
  no_more none few through = record {
    starts = t.starts;
    near = λ j of net l.
        let up = still (key b j) (key_name g Membership of) (λ e. omega arith) in
        t.near j of net
        (⊎_elim (λ (h : at steps (key b j) < n). inl h)
        (λ h. let same : at steps (key b j) ≡ n = omega arith in inr (same, inl (through (key b j) (key_name g Membership of) same (omega arith))))
        (lt_or_le (at steps (key b j)) n));
    back = λ y h.
        ⊎_elim (λ e. inl e)
        (λ s. inr (⊎_elim (λ e. inl e) (λ l. inr (more chain_limit (omega (arith, still y h (λ e. omega (arith, l.within)))) l)) s)) (t.back y h);
  }
    where
      still : (y : ℕ) → IsName y → (at steps y ≡ far → ⊥) → at steps y ≤ n
      still y h ne =
          elim (ℕ_discrete (at steps y) (n + 1)) [
            | yes e ↦ absurd (let w = t.next y h e in omega (arith, w.1, w.2))
            | no not ↦ omega (arith, near_by t y h ne, not)
          ]
