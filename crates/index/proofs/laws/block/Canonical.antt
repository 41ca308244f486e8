-- A good block is fixed by its length and its counts.
use Prim.Native.Nat.{ℕ, zero, suc, ◌+◌, ◌-◌, ◌*◌, ◌/◌, ◌%◌, ◌<◌, ◌≤◌}
use mathlib.Core.Path.{◌≡◌, refl, ◌∙◌, sym, ap, subst}
use mathlib.Core.List.{List}
use mathlib.Core.Logic.{◌⊎◌, inl, inr, ⊎_elim}
use native.Mathlib.Nat.{eq-or-lt_of_le, le_of_suc-le-suc}
use native.Mathlib.Omega.{arith}
use lib.ListN.{length, get_or}
use lib.Seq.{ext_get_or}
use Rattle.index.specs.declared.Kind.{Kind}
use Rattle.index.specs.declared.Kind.TheVariants.{Membership, Permission, Filter}
use Rattle.index.specs.Letters.{letter_count}
use Rattle.index.specs.Block.{number, size, from, records, place, key, id, count_at, count, Of, Good, header_length, record_length}
use Rattle.index.specs.work.Places.{spot, At}
use Rattle.index.proofs.laws.Range.{lt_or_le}
use Rattle.index.proofs.laws.block.Bytes.{count_number}
use Rattle.index.proofs.laws.block.Records.{of_records, kind_of_lem, rises, once, where_is, count_at_lem, count_none}

abbrev Counts : List ℕ → List ℕ → Type 0
Counts b b' = (kind : Kind) (x y k : ℕ) → k < letter_count → count b kind x y k ≡ count b' kind x y k

-- The n-th records of the kind, if one block has one, are those of one key and id.
abbrev Agree : List ℕ → List ℕ → Kind → ℕ → Type 0
Agree b b' kind n = n < size b kind → (n < size b' kind) × (spot b (from b kind + n) ≡ spot b' (from b' kind + n))

-- The n-th record of b is there in b', and not before the n-th.
meets : (b b' : List ℕ) → Good b → Good b' → Counts b b' → (kind : Kind) (n : ℕ) → ((m : ℕ) → m < n → Agree b' b kind m)
    → n < size b kind → (n' : ℕ) × (n ≤ n') × (n' < size b' kind) × (spot b (from b kind + n) ≡ spot b' (from b' kind + n'))
meets b b' g g' same kind n all l =
    let i = from b kind + n in
    let o : Of b kind i = omega arith in
    let a : At b kind (key b i) (id b i) i = record { of = o; has_key = refl; has_id = refl } in
    let c = g.counted i (of_records kind b i o) in
    ⊎_elim
    (λ p.
    let j = p.0 in
    let q = p.1 in
    let m = j - from b' kind in
    let e : from b' kind + m ≡ j = omega (arith, q.of.0) in
    let s : spot b i ≡ spot b' (from b' kind + m) = rw e (omega (arith, q.has_key, q.has_id)) in
    ⊎_elim
    (λ h.
    let z = all m h (omega (arith, q.of.1)) in
    absurd (omega (arith, once b g kind (from b kind + m) i (omega arith) o (sym z.1 ∙ sym s))))
    (λ h. (m, h, omega (arith, q.of.1), s))
    (lt_or_le m n))
    (λ none.
    absurd
    (omega
    (arith, c.2, count_at_lem g kind (key b i) (id b i) i c.0 a, same kind (key b i) (id b i) c.0 c.1, count_none b' kind (key b i) (id b i) c.0 none)))
    (where_is b' (key b i) (id b i) kind)

-- Records later in a part do not stand lower.
not_lower : (b : List ℕ) → Good b → (kind : Kind) (n m : ℕ) → n ≤ m → m < size b kind → spot b (from b kind + n) ≤ spot b (from b kind + m)
not_lower b g kind n m l h =
    ⊎_elim (λ e. rw e (omega arith))
    (λ k. omega (arith, rises b g kind (from b kind + n) (from b kind + m) (omega arith) (omega arith) (omega arith)))
    (eq-or-lt_of_le l)

back : (b b' : List ℕ) → Counts b b' → Counts b' b
back b b' same kind x y k l = sym (same kind x y k l)

next : (b b' : List ℕ) → Good b → Good b' → Counts b b' → (kind : Kind) (n : ℕ) → ((m : ℕ) → m < n → Agree b b' kind m)
    → ((m : ℕ) → m < n → Agree b' b kind m) → Agree b b' kind n
next b b' g g' same kind n p q l =
    let u = meets b b' g g' same kind n q l in
    let h : n < size b' kind = omega (arith, u.1, u.2) in
    let v = meets b' b g' g (back b b' same) kind n p h in (
      h,
      omega (arith, u.3, v.3, not_lower b g kind n v.0 v.1 v.2, not_lower b' g' kind n u.0 u.1 u.2),
    )

module _ {b b' : List ℕ} (g : Good b) (g' : Good b') (same : Counts b b') where
  agree : (kind : Kind) (n m : ℕ) → m < n → Agree b b' kind m × Agree b' b kind m
  agree kind zero m l = absurd (omega arith)
  agree kind (suc n) m l =
      let p : (k : ℕ) → k < n → Agree b b' kind k = λ k h. (agree kind n k h).0 in
      let q : (k : ℕ) → k < n → Agree b' b kind k = λ k h. (agree kind n k h).1 in
      ⊎_elim
      (λ e.
      subst (λ (k : ℕ). Agree b b' kind k × Agree b' b kind k) (sym e)
      (next b b' g g' same kind n p q, next b' b g' g (back b b' same) kind n q p))
      (λ h. agree kind n m h)
      (eq-or-lt_of_le (le_of_suc-le-suc l))

  sizes : (kind : Kind) → size b kind ≡ size b' kind
  sizes kind =
      ⊎_elim
      (λ h. absurd (omega (arith, ((agree kind (size b kind + 1) (size b kind) (omega arith)).1 h).0)))
      (λ h.
      ⊎_elim (λ e. sym e)
      (λ k. absurd (omega (arith, ((agree kind (size b' kind + 1) (size b' kind) (omega arith)).0 k).0)))
      (eq-or-lt_of_le h))
      (lt_or_le (size b kind) (size b' kind))

  froms : (kind : Kind) → from b kind ≡ from b' kind
  froms Membership = refl
  froms Permission = sizes Membership
  froms Filter = omega (arith, sizes Membership, sizes Permission)

  all : records b ≡ records b'
  all = omega (arith, sizes Membership, sizes Permission, sizes Filter)

  -- Record i is the same in both.
  named : (kind : Kind) (i : ℕ) → Of b kind i → (key b i ≡ key b' i) × (id b i ≡ id b' i)
  named kind i o =
      let n = i - from b kind in
      let e : from b kind + n ≡ i = omega arith in
      let e' : from b' kind + n ≡ i = omega (arith, froms kind) in
      let s = ((agree kind (n + 1) n (omega arith)).0 (omega arith)).1 in
      let z : spot b i ≡ spot b' i = ap (spot b) (sym e) ∙ s ∙ ap (spot b') e' in
      let l = of_records kind b i o in
      let d = g.ids i l in
      let d' = g'.ids i (omega (arith, all)) in
      omega arith

  counts : (kind : Kind) (i : ℕ) → Of b kind i → (k : ℕ) → k < letter_count → count_at b i k ≡ count_at b' i k
  counts kind i o k l =
      let n = named kind i o in
      sym (count_at_lem g kind (key b i) (id b i) i k (record { of = o; has_key = refl; has_id = refl }))
      ∙ same kind (key b i) (id b i) k l
      ∙ count_at_lem g' kind (key b i) (id b i) i k
      (record { of = omega (arith, froms kind, sizes kind); has_key = sym n.0; has_id = sym n.1 })

  -- The two bytes of a number.
  two : (t u : ℕ) → number b t ≡ number b' t → (u ≡ t) ⊎ (u ≡ t + 1) → get_or b u 0 ≡ get_or b' u 0
  unfolding number
  two t u e =
      let h = g.bytes t in
      let k = g.bytes (t + 1) in
      let h' = g'.bytes t in
      let k' = g'.bytes (t + 1) in
      ⊎_elim (λ q. rw q (omega arith)) (λ q. rw q (omega arith))

  half : (t u : ℕ) → 2 * (u / 2) ≡ t → number b t ≡ number b' t → get_or b u 0 ≡ get_or b' u 0
  half t u q e = two t u e (⊎_elim (λ h. inl (omega arith)) (λ h. inr (omega arith)) (lt_or_le (u % 2) 1))

  head : (q : ℕ) → q < header_length / 2 → number b (2 * q) ≡ number b' (2 * q)
  head zero l = sizes Membership
  head (suc zero) l = sizes Permission
  head (suc (suc zero)) l = sizes Filter
  head (suc (suc (suc zero))) l = g.zero_at_6 ∙ sym g'.zero_at_6
  head (suc (suc (suc (suc zero)))) l = g.m_offset ∙ sym g'.m_offset
  head (suc (suc (suc (suc (suc zero))))) l = omega (arith, g.p_offset, g'.p_offset, sizes Membership)
  head (suc (suc (suc (suc (suc (suc zero)))))) l = omega (arith, g.f_offset, g'.f_offset, sizes Membership, sizes Permission)
  head (suc (suc (suc (suc (suc (suc (suc zero))))))) l = omega (arith, g.end_offset, g'.end_offset, all)
  head (suc (suc (suc (suc (suc (suc (suc (suc q)))))))) l = absurd (omega arith)

  field : (i : ℕ) → i < records b → (q : ℕ) → q < 2 + letter_count → number b (place i + 2 * q) ≡ number b' (place i + 2 * q)
  field i l q h =
      let o = kind_of_lem b i l in
      let n = named o.0 i o.1 in
      let at : (t : ℕ) → number b t ≡ number b' t → t ≡ place i + 2 * q → number b (place i + 2 * q) ≡ number b' (place i + 2 * q) =
      λ t e z. subst (λ (u : ℕ). number b u ≡ number b' u) z e in
      ⊎_elim (λ k. at (place i) n.0 (omega arith))
      (λ k.
      ⊎_elim (λ m. at (place i + 2) n.1 (omega arith))
      (λ m. at (place i + 4 + 2 * (q - 2)) (sym (count_number b i (q - 2) (omega arith)) ∙ counts o.0 i o.1 (q - 2) (omega arith)
      ∙ count_number b' i (q - 2) (omega arith)) (omega arith))
      (lt_or_le q 2))
      (lt_or_le q 1)

  byte : (u : ℕ) → get_or b u 0 ≡ get_or b' u 0
  byte u =
      ⊎_elim (λ h. half (2 * (u / 2)) u refl (head (u / 2) (omega arith)))
      (λ h.
      ⊎_elim
      (λ k.
      half (place ((u - header_length) / record_length) + 2 * ((u - header_length) % record_length / 2)) u (omega arith)
      (field ((u - header_length) / record_length) (omega arith) ((u - header_length) % record_length / 2) (omega arith)))
      (λ k. g.tail u k ∙ sym (g'.tail u (omega (arith, all))))
      (lt_or_le u (place (records b))))
      (lt_or_le u header_length)

  pub canonical : length b ≡ length b' → b ≡ b'
  canonical e = ext_get_or 0 b b' e (λ u _. byte u)
