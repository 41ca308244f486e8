-- What the P records that are reached from both sides grant and bar, name by name and record by record.
use Prim.Native.Nat.{ℕ, ◌+◌, ◌-◌, ◌<◌, ◌≤◌}
use mathlib.Core.Path.{◌≡◌, subst}
use mathlib.Core.List.{List}
use mathlib.Core.Logic.{◌↔◌, inl, inr, ⊎_elim}
use native.Mathlib.Omega.{arith}
use native.Mathlib.Nat.{eq-or-lt_of_le}
use lib.ListN.{get_or}
use lib.Bits.{bit_or, bit_and, or_zero_r}
use Rattle.index.specs.declared.Kind.TheVariants.{Permission}
use Rattle.index.specs.Letters.{right_count, all_rights, In, Mask}
use Rattle.index.specs.Block.{from, Of, key, id, Good, NetAt}
use Rattle.index.proofs.laws.Range.{lt_or_le}
use Rattle.index.proofs.laws.block.Masks.{in_and, in_zero, mask_map, mask_none, mask_either, mask_limited, mask_less}
use Rattle.rights.specs.declared.Profile.{Profile}
use Rattle.rights.specs.declared.Profile.TheVariants.{Ordinary, Strict}
use Rattle.rights.specs.work.Between.{Between, BarsAt, GrantsIn, fixed_in}
use Rattle.rights.proofs.laws.ByNumber.{at_self, Told, told_net, told_bars}

-- The rights requested that are in the marks of both the key and the id of record j.
abbrev reached_at : List ℕ → List ℕ → List ℕ → ℕ → ℕ → ℕ
reached_at b us os q j = bit_and (bit_and (get_or os (key b j) 0) (get_or us (id b j) 0)) q

-- Of record j, Q holds for right k, which is one of these.
abbrev pub Meets : (ℕ → ℕ → Type 0) → List ℕ → List ℕ → List ℕ → ℕ → ℕ → ℕ → Type 0
Meets Q b us os q j k = Q j k × In k (reached_at b us os q j)

reached_in : (b us os : List ℕ) (q j k : ℕ)
    → In k (reached_at b us os q j) ↔ (In k (get_or os (key b j) 0) × In k (get_or us (id b j) 0) × In k q)
reached_in b us os q j k = (
  (λ i.
      let p = (in_and (bit_and (get_or os (key b j) 0) (get_or us (id b j) 0)) q k).0 i in
      let m = (in_and (get_or os (key b j) 0) (get_or us (id b j) 0) k).0 p.0 in
      (m.0, m.1, p.1)),
  (λ p. (in_and _ q k).1 ((in_and _ _ k).1 (p.0, p.1), p.2)),
)

-- None at a key without a mark.
unmarked : (Q : ℕ → ℕ → Type 0) (b us os : List ℕ) (q j k : ℕ) → get_or os (key b j) 0 ≡ 0 → Meets Q b us os q j k → ⊥
unmarked Q b us os q j k none m = in_zero k (rw none at ((reached_in b us os q j k).0 m.1).0)

-- r is the mask of the rights for which this is so of some P record before i.
pub record Gathered (Q : ℕ → ℕ → Type 0) (b us os : List ℕ) (q i r : ℕ) : Type 0 where
  pub mask : Mask r (λ k. (j : ℕ) × Of b Permission j × (j < i) × Meets Q b us os q j k)

gathered_none : (Q : ℕ → ℕ → Type 0) (b us os : List ℕ) (q : ℕ) → Gathered Q b us os q (from b Permission) 0
gathered_none Q b us os q = record { mask = mask_none _ (λ k w. omega (arith, w.1.0, w.2)) }

module _ {Q : ℕ → ℕ → Type 0} {b us os : List ℕ} {q i r : ℕ} (so_far : Gathered Q b us os q i r) where
  -- With record i.
  gathered_more : {v : ℕ} → Of b Permission i → Mask v (Meets Q b us os q i) → Gathered Q b us os q (i + 1) (bit_or r v)
  gathered_more of told = record {
    mask = mask_map (mask_either so_far.mask told) _
        (λ k h. (
          (λ t. ⊎_elim (λ w. (w.0, w.1, omega (arith, w.2), w.3)) (λ m. (i, of, omega arith, m)) t),
          (λ w.
              ⊎_elim (λ e. inr (subst (λ (j : ℕ). Meets Q b us os q j k) e w.3)) (λ l. inl (w.0, w.1, l, w.3))
              (eq-or-lt_of_le {n = w.0} {m = i} (omega (arith, w.2)))),
        ));
  }

  -- Without it, where its key has no mark.
  gathered_skip : Of b Permission i → get_or os (key b i) 0 ≡ 0 → Gathered Q b us os q (i + 1) r
  gathered_skip of none = rw or_zero_r at (gathered_more of (mask_none (Meets Q b us os q i) (λ k. unmarked Q b us os q i k none)))

  module _ {P : ℕ → ℕ → ℕ → Type 0} (told : Told b Q P) where
    -- What was gathered is between the marks, and requested,
    gathered_some : (k : ℕ) → k < right_count → In k r → Between us os P k × In k q
    unfolding Between
    gathered_some k h m =
        let w = (so_far.mask.1 k h).0 m in
        let j = w.0 in
        let in_all = (reached_in b us os q j k).0 w.3.1 in
        ((key b j, id b j, in_all.0, in_all.1, (told.at k h (at_self w.1)).0 w.3.0), in_all.2)

    -- and it is all of that, where no record from i on has a mark at its key.
    gathered_all : ((j : ℕ) → Of b Permission j → i ≤ j → get_or os (key b j) 0 ≡ 0) → Mask r (λ k. Between us os P k × In k q)
    unfolding Between
    gathered_all none =
        mask_map so_far.mask (λ k. Between us os P k × In k q)
        (λ k h. (
          (λ w. gathered_some k h ((so_far.mask.1 k h).1 w)),
          (λ (t, asked).
              let w = told.where_is k t.4 in
              let of = w.1.of in
              let meets : Meets Q b us os q w.0 k =
              ((told.at k h w.1).1 t.4, (reached_in b us os q w.0 k).1 (rw w.1.has_key t.2, rw w.1.has_id t.3, asked)) in (
                w.0,
                of,
                ⊎_elim (λ l. l) (λ l. absurd (unmarked Q b us os q w.0 k (none w.0 of l) meets)) (lt_or_le w.0 i),
                meets,
              )),
        ))

-- The search at name x and record i: what the P records before i grant, and bar in the profile; and those from i on whose key is below x
-- have no mark there.
pub record Searched (p : Profile) (b us os : List ℕ) (q x i found barred : ℕ) : Type 0 where
  pub low : from b Permission ≤ i
  pub granted : Gathered (NetAt b) b us os q i found
  pub denied : Gathered (BarsAt p b) b us os q i barred
  pub after : (j : ℕ) → Of b Permission j → i ≤ j → key b j < x → get_or os (key b j) 0 ≡ 0

pub searched_none : (p : Profile) (b us os : List ℕ) (q x : ℕ) → ((j : ℕ) → Of b Permission j → x ≤ key b j)
    → Searched p b us os q x (from b Permission) 0 0
searched_none p b us os q x above =
    record {
      low = omega arith;
      granted = gathered_none (NetAt b) b us os q;
      denied = gathered_none (BarsAt p b) b us os q;
      after = λ j of l h. absurd (omega (arith, above j of));
    }

module _ {p : Profile} {b us os : List ℕ} {q x i found barred : ℕ} (s : Searched p b us os q x i found barred) where
  -- The next name, where the records from i on are not of x, or x has no mark.
  pub next_name : ((j : ℕ) → Of b Permission j → i ≤ j → key b j ≡ x → get_or os x 0 ≡ 0) → Searched p b us os q (x + 1) i found barred
  next_name none = record {
    low = s.low;
    granted = s.granted;
    denied = s.denied;
    after = λ j of l h.
        ⊎_elim (λ e. rw e (none j of l e)) (λ h. s.after j of l h) (eq-or-lt_of_le {n = key b j} {m = x} (omega arith));
  }

  module _ (of : Of b Permission i) where
    -- The next record, with what this one grants and bars, if it is of x; its id is y.
    pub next_record : {v w y : ℕ} → x ≡ key b i → y ≡ id b i → Mask v (λ k. NetAt b i k × In k (bit_and (bit_and (get_or os x 0) (get_or us y 0)) q))
        → Mask w (λ k. BarsAt p b i k × In k (bit_and (bit_and (get_or os x 0) (get_or us y 0)) q))
        → Searched p b us os q x (i + 1) (bit_or found v) (bit_or barred w)
    next_record is_key is_id grants bars = record {
      low = omega (arith, of.0);
      granted = gathered_more s.granted of (rw (← is_key, ← is_id) grants);
      denied = gathered_more s.denied of (rw (← is_key, ← is_id) bars);
      after = λ j oj l h. s.after j oj (omega arith) h;
    }

    -- The next record, where this one is of a name that was passed.
    pub skip_record : key b i < x → Searched p b us os q x (i + 1) found barred
    skip_record below =
        let none = s.after i of (omega arith) below in
        record {
          low = omega (arith, of.0);
          granted = gathered_skip s.granted of none;
          denied = gathered_skip s.denied of none;
          after = λ j oj l h. s.after j oj (omega arith) h;
        }

  -- Those that were found and not barred: right where the two masks are right about each right requested.
  module _ (g : Good b) where
    abbrev Answer : Type 0
    Answer = Mask (bit_and found (all_rights - barred)) (λ k. GrantsIn p b us os k × In k q)

    -- All names were seen.
    pub seen_all : ((j : ℕ) → Of b Permission j → key b j < x) → Answer
    unfolding GrantsIn
    seen_all all =
        let none : (j : ℕ) → Of b Permission j → i ≤ j → get_or os (key b j) 0 ≡ 0 = λ j of l. s.after j of l (all j of) in
        let left = mask_less (gathered_all s.denied (told_bars g p) none) in
        mask_map (mask_limited (gathered_all s.granted (told_net g) none) (all_rights - barred)) _
        (λ k h. (
          (λ t. ((t.0.0, λ d. (left.1 k h).0 t.1 (d, t.0.1)), t.0.1)),
          (λ t. ((t.0.0, t.1), (left.1 k h).1 (λ d. t.0.1 d.0))),
        ))

    -- No later record can change a right requested.
    pub fixed_all : fixed_in p found barred ≡ q → Answer
    unfolding GrantsIn Between
    fixed_all = go p s
      where
        each : (n : ℕ) → n ≡ q → (k : ℕ) → In k q → In k n
        each n all k i = rw all i

        go : (p : Profile) → Searched p b us os q x i found barred → fixed_in p found barred ≡ q
            → Mask (bit_and found (all_rights - barred)) (λ k. GrantsIn p b us os k × In k q)
        go Ordinary s all =
            mask_map (mask_limited s.granted.mask (all_rights - barred)) _
            (λ k h. (
              (λ t. let w = gathered_some s.granted (told_net g) k h ((s.granted.mask.1 k h).1 t.0) in ((w.0, λ d. d.4), w.1)),
              (λ t. ((s.granted.mask.1 k h).0 (each found all k t.1), ((mask_less s.denied.mask).1 k h).1 (λ w. w.3.0))),
            ))
        go Strict s all =
            mask_map (mask_limited s.granted.mask (all_rights - barred)) _
            (λ k h. (
              (λ t.
                  let w = gathered_some s.granted (told_net g) k h ((s.granted.mask.1 k h).1 t.0) in
                  absurd (((mask_less s.denied.mask).1 k h).0 t.1 ((s.denied.mask.1 k h).0 (each barred all k w.1)))),
              (λ t. absurd (t.0.1 (gathered_some s.denied (told_bars g Strict) k h (each barred all k t.1)).0)),
            ))
