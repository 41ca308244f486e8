-- M-103: the wrong programs that are turned away.
use Prim.Native.Nat.{ℕ, ◌<◌}
use mathlib.Core.Path.{◌≡◌, refl, ap, ◌∙◌}
use mathlib.Core.List.{List, [], ◌∷◌, ◌++◌}
use mathlib.Core.Logic.{◌⊎◌, inl, inr, ⊎_elim}
use native.Mathlib.Omega.{arith}
use lib.ListN.{length, get_or, drop}
use Rattle.index.specs.Letters.{letter_count}
use Rattle.index.specs.Block.{number, count_at, count_from, count}
use Rattle.rights.specs.Through.{LetsThrough}
use Rattle.rights.proofs.laws.questions.Letting.{one_through}
use Rattle.rights.specs.Held.{chain_limit}
use Rattle.slips.specs.Slip.{most_names, Slip}
use Rattle.slips.specs.Calls.{ChecksSlip, Outcome, Found}
use Rattle.slips.proofs.laws.OneSlip.{one_check}
use Rattle.tight.specs.Blocks.{zeros, nothing}
use Rattle.tight.specs.Slips.{both_sides, two_ways, filtered, unfiltered}
use Rattle.tight.specs.SlipPrograms.{SlipProgram, SlipMeets, RefusesEverything, AnswersTheSame, FindsNone, WritesNoList, SameButFilters, IgnoresFilters}
use Rattle.tight.proofs.Marked.{Same, same_at}
use Rattle.tight.proofs.SlipTable.{chains_right, closed_right, ways_right, through_right}

-- ---- where a slip is found, each list begins with a name of its own

front : (vs l : List ℕ) → 0 < length vs → get_or (vs ++ drop (length vs) l) 0 0 ≡ get_or vs 0 0
front [] l some = absurd (omega arith)
front (x ∷ vs) l some = refl

module _ {b : List ℕ} {u o right : ℕ} {us os : List ℕ} {a : Outcome} (f : Found b u o right us os a) where
  slip : Slip b u o f.2.0 f.0 f.1
  slip = f.2.3.slip

  pub found_some : (a.0 ≡ 0) × (0 < a.1)
  found_some = (ap (λ (a : Outcome). a.0) f.3, rw f.3 slip.user_names.some)

  pub user_first : get_or a.3 0 0 ≡ u
  user_first = ap (λ (a : Outcome). get_or a.3 0 0) f.3 ∙ front f.0 us slip.user_names.some ∙ slip.user_names.starts

  pub object_first : (get_or a.4 0 0 ≡ o) ⊎ (get_or a.4 0 0 ≡ 0)
  object_first =
      let at = ap (λ (a : Outcome). get_or a.4 0 0) f.3 in
      ⊎_elim (λ n. inl (at ∙ front f.1 os n.some ∙ n.starts)) (λ z. inr (rw z at at)) slip.object_names

-- ---- two blocks that differ in a filter

first : Same unfiltered filtered letter_count 0
unfolding number count_at
first = refl

same_but_filters : SameButFilters unfiltered filtered
unfolding number count_from count
same_but_filters x y k l = (refl, rw (same_at unfiltered filtered letter_count 0 first k l))

module _ (p : SlipProgram) (meets : SlipMeets p) where
  checks : {b : List ℕ} {u o right : ℕ} {us os : List ℕ} {a : ℕ × ℕ} → ChecksSlip b u o right us os a → p.check b u o right us os ≡ a
  checks {b} {u} {o} {right} {us} {os} {a} h = one_check b u o right us os (p.check b u o right us os) a (meets.check b u o right us os) h

  lets : {b : List ℕ} {u o : ℕ} {a : ℕ × ℕ} → LetsThrough b u o a → p.lets b u o ≡ a
  lets {b} {u} {o} {a} h = one_through b u o (p.lets b u o) a (meets.lets b u o) h

  -- One of the two ways is found. The lists that are lent begin with other names.
  abbrev users : List ℕ
  users = zeros most_names

  abbrev objects : List ℕ
  objects = 1 ∷ zeros chain_limit

  found : Found two_ways 1 9 2 users objects (p.find two_ways 1 9 2 users objects)
  found = (ways_right.0 users objects (omega arith) (omega arith) _ (meets.find two_ways 1 9 2 users objects)).0

  pub not_refusing : RefusesEverything p → ⊥
  not_refusing (RefusesEverything.finds r) = omega (arith, r two_ways 1 9 2 users objects, (found_some found).0)
  not_refusing (RefusesEverything.checks r) = omega (arith, rw (checks chains_right.0) at (r both_sides 1 9 2 (1 ∷ 2 ∷ []) (9 ∷ 7 ∷ [])))
  not_refusing (RefusesEverything.lets r) = omega (arith, rw (lets through_right.0) at (r nothing 1 9))

  -- Yes to one slip and no to another; all rights on the block of 40 bytes, and U alone by the filter.
  pub not_the_same : AnswersTheSame p → ⊥
  not_the_same (AnswersTheSame.checks answer same) =
      let yes = rw (checks chains_right.0) at (same both_sides 1 9 2 (1 ∷ 2 ∷ []) (9 ∷ 7 ∷ [])) in
      let no = rw (checks chains_right.1.0) at (same both_sides 1 9 2 (2 ∷ []) (9 ∷ 7 ∷ [])) in
      omega (arith, yes refl, no refl)
  not_the_same (AnswersTheSame.lets mask same) =
      let all = rw (lets through_right.0) at (same nothing 1 9) in
      let one = rw (lets through_right.1.0) at (same filtered 1 9) in
      omega (arith, all refl, one refl)

  pub not_none : FindsNone p → ⊥
  not_none none = omega (arith, none two_ways 1 9 2 users objects, (found_some found).1)

  pub not_idle : WritesNoList p → ⊥
  not_idle (WritesNoList.users keeps) =
      omega (arith, user_first found, ap (λ (l : List ℕ). get_or l 0 0) (keeps two_ways 1 9 2 users objects))
  not_idle (WritesNoList.objects keeps) =
      let same = ap (λ (l : List ℕ). get_or l 0 0) (keeps two_ways 1 9 2 users objects) in
      ⊎_elim (λ e. omega (arith, same)) (λ e. omega (arith, same)) (object_first found)

  -- R is closed by the filter of 9, and open without it.
  pub heeds_filters : IgnoresFilters p → ⊥
  heeds_filters same =
      let e = same unfiltered filtered same_but_filters 1 9 2 (1 ∷ []) (9 ∷ []) in
      omega (arith, rw (checks closed_right.1.1.0, checks closed_right.0) at e)
