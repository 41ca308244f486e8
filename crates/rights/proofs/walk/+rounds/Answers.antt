-- `walk::rounds` meets its contract. A round and those after it are one round more; where no mark grew, the marks stand for all
-- rounds that are left, and nothing more is examined.
use borrow.Author.Tests.{eqb-true}
use Rattle.std.proofs.Common.{ℕ, suc, ◌+◌, ◌-◌, ◌≡◌, List, length, refl, sym, subst, ◌∙◌, arith}
use Rattle.index.specs.declared.Kind.TheVariants.{Membership}
use Rattle.index.specs.Block.{Good, size, key}
use Rattle.rights.specs.declared.walk.Carry.{Carry}
use Rattle.rights.specs.work.Marks.{Marks, Round, Grew, Walked}
use Rattle.rights.specs.work.Marks.Walked.{done, next}
use Rattle.rights.specs.work.Fronts.{Front, Settled, Swept, Counted}
use Rattle.rights.proofs.laws.ByNumber.{few_members}
use Rattle.rights.proofs.laws.Counting.{count_none}
use Rattle.rights.proofs.laws.examined.Examining.{walked_rough}
use Rattle.rights.proofs.laws.walk.Fronts.{front_same, front_named}
use Rattle.rights.proofs.laws.walk.Rounding.{settled_next, front_round, front_read, still_round}
use Rattle.rights.proofs.laws.Known.{is_good}
use Rattle.rights.proofs.walk.+rounds.Goals as goal

-- What a round leaves are marks again.
marks_after : (b : List ℕ) (carry : Carry) {ms ms' : List ℕ} → Marks ms → Round b carry ms ms' → length ms' ≡ length ms → Marks ms'
unfolding Round
marks_after b carry marks r same = record { names = same ∙ marks.names; small = λ z. (r z).0 }

-- A round that changes nothing is as many as are left, and they examine nothing.
still : (b : List ℕ) (carry : Carry) (old ms : List ℕ) (left : ℕ) → ((z : ℕ) → Grew old ms z → ⊥) → Round b carry ms ms
    → Walked b carry left old ms ms 0
still b carry old ms ℕ.zero none r = done
still b carry old ms (suc left) none r =
    next (count_none (λ i. Grew old ms (key b i)) (size b Membership) (λ i l. none (key b i))) r
    (still b carry ms ms left (λ z g. g refl) r)

-- One round over the names whose marks grew, and those that are left after it.
more : {b : List ℕ} {carry : Carry} {old ms names ms₁ after ms₂ : List ℕ} {left n t : ℕ} → Good b → Front old ms names
    → Settled b carry old ms → Swept b carry ms names (length names) ms₁ after → Counted b names (length names) n → (left ≡ 0 → ⊥)
    → Walked b carry (left - 1) ms ms₁ ms₂ t → Walked b carry left old ms ms₂ (n + t)
more {b} {carry} {old} {ms} {ms₁ = ms₁} {ms₂ = ms₂} {left = left} {n = n} {t = t} g front settled swept counted some rest =
    let e : suc (left - 1) ≡ left = omega arith in
    subst (λ (m : ℕ). Walked b carry m old ms ms₂ (n + t)) e
    (next (front_read b carry front settled counted) (front_round b carry front settled g ms₁ swept.brought) rest)

pub returns-then-left-eq0-clause-walked : goal.returns-then-left-eq0-clause-walked
returns-then-left-eq0-clause-walked t c = rw c.if-left-eq0.true done

pub returns-then-is_empty-clause-walked : goal.returns-then-is_empty-clause-walked
returns-then-is_empty-clause-walked t c =
    let a = c.args in
    let front = c.requires.front.0 in
    let none : length a.grown.now ≡ 0 = rw c.as_slice-names.ensures at (eqb-true _ _ (sym c.if-is_empty.ensures)) in
    still a.source.now.block.bytes.now a.carry a.spare.now a.marks.now a.left (λ z g. g (front_same front z (λ m. omega (arith, m.1))))
    (still_round a.source.now.block.bytes.now a.carry front c.requires.front.1 none c.requires.marks.0)

pub keep-requires-clause-named : goal.keep-requires-clause-named
keep-requires-clause-named t c =
    let front = c.requires.front.0 in
    rw c.as_slice-names.ensures (front_named front c.requires.marks.1 c.requires.marks.0.names, front)

pub look_up-requires : goal.look_up-requires
look_up-requires t c =
    (rw c.as_slice-names.ensures (front_named c.requires.front.0 c.requires.marks.1 c.requires.marks.0.names), c.requires.firsts.0)

pub rounds-later-requires : goal.rounds-later-requires
rounds-later-requires t c =
    let a = c.args in
    let b = a.source.now.block.bytes.now in
    let after = c.round-examined.new.to in
    let swept = rw (c.keep.ensures, c.as_slice-names.ensures) at c.round-examined.ensures.swept in
    let round = front_round b a.carry c.requires.front.0 c.requires.front.1 (is_good a.source.now.block) after swept.brought in (
      omega (arith, c.if-left-eq0.false, c.decreases),
      (
        (c.look_up.ensures.firsts, omega (arith, c.requires.firsts.1)),
        (
          (
            marks_after b a.carry c.requires.marks.0 round (c.round-examined.auto.to),
            c.keep.auto.to ∙ c.requires.marks.1,
          ),
          (rw c.keep.ensures swept.front, rw c.keep.ensures (settled_next b a.carry a.marks.now after round)),
        ),
      ),
    )

pub returns-clause-walked : goal.returns-clause-walked
returns-clause-walked t c =
    let e = c.as_slice-names.ensures in
    more (is_good c.args.source.now.block) c.requires.front.0 c.requires.front.1 (rw (c.keep.ensures, e) at c.round-examined.ensures.swept)
    (rw e at c.round-examined.ensures.examined) c.if-left-eq0.false (rw c.keep.ensures at c.rounds-later.ensures.walked)

pub overflow_add-result : goal.overflow_add-result
overflow_add-result t c = omega (arith, walked_rough (few_members (is_good c.args.source.now.block)) (returns-clause-walked t c))
