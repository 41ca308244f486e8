-- Changes one after the other, and the way back.
use Prim.Native.Nat.{ℕ, suc, ◌+◌, ◌-◌, ◌/◌, ◌%◌, ◌<◌, ◌≤◌}
use mathlib.Core.Path.{◌≡◌, refl, ◌∙◌, ap, subst}
use mathlib.Core.List.{List, [], ◌∷◌}
use mathlib.Core.Logic.{◌⊎◌, inl, inr, ⊎_elim}
use native.Mathlib.Omega.{arith}
use native.Mathlib.Numerals.{add-one}
use native.Mathlib.Decide.{ℕ_discrete}
use lib.ListN.{length, drop, get_or}
use lib.Seq.{drop-cons, drop-length}
use Rattle.index.specs.declared.Kind.{Kind}
use Rattle.index.specs.Letters.{letter_count}
use Rattle.index.specs.Block.{count, records, room, Good}
use Rattle.index.specs.Numbers.{Answers}
use Rattle.index.specs.Message.{Half, Change, Changed, taken, added, own_count, change_needs, Carried, packed_kind, packed_half, packed_change, packed_changes}
use Rattle.index.specs.Message.Change.{take, add}
use Rattle.index.specs.work.Edits.{Ready, Step, Prepared, Went}
use Rattle.index.specs.work.Edits.Went.{nothing, next}
use Rattle.index.proofs.laws.block.Bytes.{count_small}
use Rattle.index.proofs.laws.block.Canonical.{canonical}
use Rattle.index.proofs.laws.block.MayHave.{bit_zero}
use Rattle.index.proofs.laws.message.HalfLetters.{change_own}
use Rattle.index.proofs.laws.Firsts.{All, first_map, first_all, first_sure, first_passed, first_refused, refuses}
use Rattle.index.proofs.laws.message.OneMessage.{changes_positive}
use Rattle.index.proofs.laws.block.Records.{of_records, where_is, count_at_lem, count_none}

-- ---- a change, and a run that begins with it

abbrev Done : Change → List ℕ → ℕ × List ℕ → Type 0
Done c b o = (o.0 ≡ 0) × Changed c b o.1

module _ {c : Change} {b : List ℕ} {r : ℕ} {b' : List ℕ} (s : Step c b r b') where
  step_done : r ≡ 0 → All (change_needs c b) × Changed c b b'
  step_done e =
      let p = first_passed (λ n. (n, b)) (Done c b) (r, b') (λ o. o.0) (λ n. refl) (change_needs c b) (changes_positive c b) e s.outcome in
      (p.0, p.1.1)

  step_refused : (r ≡ 0 → ⊥) → Answers (change_needs c b) r × (b' ≡ b)
  step_refused n =
      let p = first_refused (λ n. (n, b)) (Done c b) (r, b') (λ o. o.0) (λ n. refl) (change_needs c b) (λ a. a.0) n s.outcome in
      (p.0, ap (λ (o : ℕ × List ℕ). o.1) p.1)

  -- Whatever came of it, what is ready is so still.
  pub still_ready : {h : Half} → Ready h b → Ready h b'
  still_ready {h} q =
      elim (ℕ_discrete r 0) [
        | yes e ↦
            let d = (step_done e).1 in
            record {
              short = omega (arith, q.short, d.same_length);
              good = d.good;
              key_below = q.key_below;
              id_below = q.id_below;
              masked = q.masked;
            }
        | no n ↦ rw (step_refused n).1 q
      ]

  pub still_prepared : (cs : List ℕ) → Prepared cs b → Prepared cs b'
  still_prepared cs p = λ i l. still_ready (p i l)

-- A run of one change.
pub one_carried : {c : Change} {b : List ℕ} {r : ℕ} {b' : List ℕ} → Step c b r b' → Carried b (c ∷ []) b (r, b')
unfolding Carried
one_carried {c} {b} {r} {b'} s =
    first_map (λ n. (n, b)) (Done c b) (r, b') (λ p. (b₁ : List ℕ) × Changed c b b₁ × Carried b [] b₁ p) (change_needs c b)
    (λ d. (b', d.1, ap (λ (n : ℕ). (n, b')) d.0)) s.outcome

-- ---- a change that was done can be undone, and then the block is what it was

abbrev back : Change → Change
back (take h) = add h
back (add h) = take h

count_below : {b : List ℕ} → Good b → (kind : Kind) (x y k : ℕ) → count b kind x y k < 65536
count_below {b} g kind x y k =
    ⊎_elim (λ p. rw (count_at_lem g kind x y p.0 k p.1) (count_small b p.0 k g.bytes))
    (λ n. rw (count_none b kind x y k n) (omega arith))
    (where_is b x y kind)

-- The half's record is there still, or there is room for it again.
there : (h : Half) {b b₁ : List ℕ} → Good b → Changed (take h) b b₁
    → (((k : ℕ) → k < letter_count → own_count b₁ h k ≡ 0) → records b₁ < records b)
    → ((k : ℕ) × (k < letter_count) × (0 < own_count b₁ h k)) ⊎ (records b₁ < room b₁)
unfolding own_count room
there h {b} {b₁} g d freed =
    ⊎_elim
    (λ p.
    let c = d.good.counted p.0 (of_records h.kind b₁ p.0 p.1.of) in
    inl (c.0, c.1, rw (count_at_lem d.good h.kind h.key h.id p.0 c.0 p.1) c.2))
    (λ n.
    inr (omega (arith, freed (λ k l. count_none b₁ h.kind h.key h.id k n), d.same_length, g.fits)))
    (where_is b₁ h.key h.id h.kind)

back_needs : (c : Change) {b b₁ : List ℕ} → Good b → Step c b 0 b₁ → All (change_needs (back c) b₁)
unfolding change_needs own_count
back_needs (take h) {b} {b₁} g s =
    let d = (step_done s refl).1 in (
      λ k l i.
          omega
          (arith, d.counts h.kind h.key h.id k l, change_own (take h) k, bit_zero k, count_below g h.kind h.key h.id k),
      (there h g d (s.freed refl), tt),
    )
back_needs (add h) {b} {b₁} g s =
    let d = (step_done s refl).1 in
    (λ k l i. omega (arith, d.counts h.kind h.key h.id k l, change_own (add h) k, bit_zero k), tt)

back_moves : (c : Change) (kind : Kind) (x y k : ℕ)
    → (taken (back c) kind x y k ≡ added c kind x y k) × (added (back c) kind x y k ≡ taken c kind x y k)
unfolding taken added
back_moves (take h) kind x y k = (refl, refl)
back_moves (add h) kind x y k = (refl, refl)

undone : (c : Change) {b b₁ b₂ : List ℕ} {r : ℕ} → Good b → Step c b 0 b₁ → Step (back c) b₁ r b₂ → b₂ ≡ b
undone c {b} {b₁} {b₂} {r} g s t =
    let d = (step_done s refl).1 in
    let e = (first_sure (λ n. (n, b₁)) (Done (back c) b₁) (r, b₂) (change_needs (back c) b₁) (back_needs c g s) t.outcome).1 in
    canonical e.good g
    (λ kind x y k l. omega (arith, d.counts kind x y k l, e.counts kind x y k l, back_moves c kind x y k))
    (e.same_length ∙ d.same_length)

-- ---- the changes of a list

-- The numbers of a change and of the one that undoes it.
pub same_half : (m n : ℕ) → m / 2 ≡ n / 2 → packed_half m ≡ packed_half n
unfolding packed_half packed_kind
same_half m n e = rw e

opposite : (m n : ℕ) → m / 2 ≡ n / 2 → m % 2 + n % 2 ≡ 1 → packed_change m ≡ back (packed_change n)
unfolding packed_change
opposite m n e f =
    elim (ℕ_discrete (n % 2) 0) [
      | yes z ↦ let o : m % 2 ≡ 1 = omega arith in rw (z, o, same_half m n e)
      | no z ↦
          let o : n % 2 ≡ 1 = omega arith in
          let p : m % 2 ≡ 0 = omega arith in
          rw (o, p, same_half m n e)
    ]

module _ {b₀ cs : List ℕ} where
  -- What comes of the rest of the list comes of the whole.
  went_on : {i : ℕ} {b : List ℕ} (o : ℕ × List ℕ) → Went b₀ cs i b → i ≤ length cs → Carried b₀ (packed_changes (drop i cs)) b o
      → Carried b₀ (packed_changes cs) b₀ o
  unfolding Carried
  went_on o nothing l p = p
  went_on o (next {i} {b} {b'} w _ s) l p =
      let d = step_done s refl in
      went_on o w (omega arith)
      (rw (drop-cons cs i 0 (omega arith)) (first_all (λ n. (n, b₀)) _ o (change_needs (packed_change (get_or cs i 0)) b) d.0 (b', d.1, p)))

  pub went_all : {i : ℕ} {b : List ℕ} → Went b₀ cs i b → i ≡ length cs → Carried b₀ (packed_changes cs) b₀ (0, b)
  unfolding Carried
  went_all {i} {b} w e = went_on (0, b) w (omega arith) (rw (e, drop-length cs) refl)

  pub went_refused : {i r : ℕ} {b b₁ : List ℕ} → Went b₀ cs i b → i < length cs → Step (packed_change (get_or cs i 0)) b r b₁ → (r ≡ 0 → ⊥)
      → Carried b₀ (packed_changes cs) b₀ (r, b₀)
  unfolding Carried
  went_refused {i} {r} {b} w l s n =
      went_on (r, b₀) w (omega arith)
      (rw (drop-cons cs i 0 l) (refuses (λ n. (n, b₀)) _ (change_needs (packed_change (get_or cs i 0)) b) n (step_refused s n).0))

  -- One more change, and one less.
  pub went_more : {i r : ℕ} {b b₁ : List ℕ} → Went b₀ cs i b → Ready (packed_half (get_or cs i 0)) b → Step (packed_change (get_or cs i 0)) b r b₁ → r ≡ 0
      → Went b₀ cs (i + 1) b₁
  went_more {i} w q s e = rw add-one (next w q (rw e at s))

  went_last : {i : ℕ} {b : List ℕ} → Went b₀ cs (suc i) b
      → (b₁ : List ℕ) × Went b₀ cs i b₁ × Good b₁ × Step (packed_change (get_or cs i 0)) b₁ 0 b
  went_last (next {b} w q s) = (b, w, q.good, s)

  pub went_back : {i r : ℕ} {b b₁ : List ℕ} (n : ℕ) → 0 < i → n / 2 ≡ get_or cs (i - 1) 0 / 2 → n % 2 + get_or cs (i - 1) 0 % 2 ≡ 1
      → Step (packed_change n) b r b₁ → Went b₀ cs i b → Went b₀ cs (i - 1) b₁
  went_back {i} {b = b} n l e f s w =
      let z : i ≡ suc (i - 1) = omega arith in
      let p = went_last (subst (λ (j : ℕ). Went b₀ cs j b) z w) in
      rw (undone (packed_change (get_or cs (i - 1) 0)) p.2 p.3 (rw (opposite n (get_or cs (i - 1) 0) e f) at s)) p.1

  pub went_none : {i : ℕ} {b : List ℕ} → Went b₀ cs i b → i ≡ 0 → b ≡ b₀
  went_none nothing e = refl
  went_none (next w q s) e = absurd (omega arith)

  pub went_same : {i r : ℕ} {b b₁ : List ℕ} {c : Change} → Went b₀ cs i b → Step c b r b₁ → (r ≡ 0 → ⊥) → Went b₀ cs i b₁
  went_same w s n = rw (step_refused s n).1 w
