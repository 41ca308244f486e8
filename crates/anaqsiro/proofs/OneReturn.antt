-- No second number and no second bytes satisfy the promise of the same call, but for which slip is found.
use Prim.Native.Nat.{ℕ, ◌/◌, ◌%◌, ◌≤◌}
use mathlib.Core.Path.{◌≡◌, sym, ap, ◌∙◌}
use mathlib.Core.List.{List, [], ◌∷◌}
use mathlib.Core.Logic.{◌⊎◌, inl, inr, ⊎_elim}
use native.Mathlib.Omega.{arith}
use Rattle.index.specs.declared.Kind.TheVariants.{Membership}
use Rattle.index.specs.Numbers.{Answers}
use Rattle.index.specs.Block.{size}
use Rattle.index.specs.Message.{IsKind, kind_of}
use Rattle.index.specs.Wide.{Sent}
use Rattle.index.specs.Calls.{block_needs, Makes, Sends, WritesSet, ReadsSet}
use Rattle.index.proofs.laws.demands.OneCall.{one_make, one_write, one_read}
use Rattle.index.proofs.laws.block.OneDoor.{one_tested}
use Rattle.index.proofs.laws.OneFirst.{one_first}
use Rattle.index.proofs.laws.message.OneMessage.{one_sent}
use Rattle.directory.specs.By.{MakesDirectory, SendsBy, ReadBy, WriteBy}
use Rattle.directory.proofs.OneBy.{one_made, one_sent_by, one_read_by, one_write_by}
use Rattle.rights.specs.Questions.{Full, Short, FullBy, ShortBy}
use Rattle.rights.specs.HeldTo.{HeldTo}
use Rattle.plain.specs.Plain.{greatest_limit, most_records, Within}
use Rattle.bearing.specs.Bearing.{Bearing}
use Rattle.bearing.proofs.laws.Asking.{one_bearing}
use Rattle.rights.proofs.laws.questions.OneAnswer.{one_full, one_short}
use Rattle.rights.proofs.laws.questions.SameAnswers.{one_full_by, one_short_by}
use Rattle.rights.proofs.laws.questions.Limits.{one_held_to}
use Rattle.plain.proofs.laws.EnginesAgree.{one_plain, as_walked}
use Rattle.slips.specs.Calls.{ChecksSlip, Outcome, Found}
use Rattle.slips.proofs.laws.OneSlip.{one_check, two_finds}
use Rattle.calendar.specs.declared.Date.{Date}
use Rattle.calendar.specs.Calls.{DayOf, DateOf}
use Rattle.calendar.proofs.laws.OneAnswer.{one_day_of, one_date_of}
use Rattle.appointments.specs.Moves.{Moved}
use Rattle.appointments.specs.Asking.{Stands, NextChange}
use Rattle.appointments.proofs.laws.OneAnswer.{one_moved, one_stands, one_next_change}
use Rattle.anaqsiro.specs.Returned.{Packed, Returned, Parts, InParts, MakeReturns, SendsReturns, RightsReturns, MayReturns, WriteReturns, ReadReturns, ChainParts, InChains, FindSlipReturns, CheckSlipReturns, RightsToReturns, PlainReturns, BearsReturns, DirectoryReturns, SendsByReturns, RightsByReturns, MayByReturns, WriteByReturns, ReadByReturns, TestedReturns, SizeReturns, RecordReturns, CountReturns, DayReturns, DateParts, DateReturns, MoveReturns, NextReturns, StandsReturns}

-- The number is the upper half of what is returned, and the value the lower.
pub halves : {n v r : ℕ} → Packed n v r → (n ≡ r / 4294967296) × (v ≡ r % 4294967296)
halves p = (omega arith, omega arith)

-- Two calls have the same outcome; and there is one outcome at most.
abbrev Same : {O : Type 0} → (O → Type 0) → (O → Type 0) → Type 0
Same {O} P Q = (a c : O) → P a → Q c → a ≡ c

abbrev One : {O : Type 0} → (O → Type 0) → Type 0
One Outcome = Same Outcome Outcome

-- So two calls with the same outcome (number, value, and what is left) return the same number and leave the same thing.
module _ {S : Type 0} (P Q : ℕ × ℕ × S → Type 0) (same : Same P Q) (r r₂ : ℕ) (s s₂ : S) where
  two_returns : Returned (λ n v. P (n, v, s)) r → Returned (λ n v. Q (n, v, s₂)) r₂ → (r ≡ r₂) × (s ≡ s₂)
  two_returns (n, v, p, a) (m, w, q, c) =
      let e = same (n, v, s) (m, w, s₂) a c in
      let en : n ≡ m = ap (λ (o : ℕ × ℕ × S). o.0) e in
      let ev : v ≡ w = ap (λ (o : ℕ × ℕ × S). o.1) e in
      (omega arith, ap (λ (o : ℕ × ℕ × S). o.2) e)

-- A call with one outcome returns one number and leaves one thing.
module _ {S : Type 0} (Outcome : ℕ × ℕ × S → Type 0) (one : One Outcome) (r r₂ : ℕ) (s s₂ : S) where
  one_return : Returned (λ n v. Outcome (n, v, s)) r → Returned (λ n v. Outcome (n, v, s₂)) r₂ → (r ≡ r₂) × (s ≡ s₂)
  one_return = two_returns Outcome Outcome one r r₂ s s₂

-- ---- the calls that return a number only

module _ (Outcome : ℕ × List ℕ → Type 0) (one : One Outcome) where
  one_number : One (λ (o : ℕ × ℕ × List ℕ). (o.1 ≡ 0) × Outcome (o.0, o.2))
  one_number a c p q =
      let e = one (a.0, a.2) (c.0, c.2) p.1 q.1 in
      let z : a.1 ≡ c.1 = p.0 ∙ sym q.0 in
      λ i. ((e i).0, z i, (e i).1)

pub one_make_return : (b : List ℕ) (r r₂ : ℕ) (b' b₂' : List ℕ) → MakeReturns b r b' → MakeReturns b r₂ b₂'
    → (r ≡ r₂) × (b' ≡ b₂')
unfolding MakeReturns
one_make_return b = one_return _ (one_number (Makes b) (one_make b))

pub one_sent_return : (b : List ℕ) (m : Sent) (r r₂ : ℕ) (b' b₂' : List ℕ) → SendsReturns b m r b' → SendsReturns b m r₂ b₂'
    → (r ≡ r₂) × (b' ≡ b₂')
unfolding SendsReturns
one_sent_return b m = one_return _ (one_number (Sends b m) (one_sent b m))

-- ---- the calls on sets

module _ (b : List ℕ) (kind x : ℕ) (s : List ℕ) (r r₂ : ℕ) (s' s₂' : List ℕ) where
  pub one_write_return : WriteReturns b kind x s r s' → WriteReturns b kind x s r₂ s₂' → (r ≡ r₂) × (s' ≡ s₂')
  unfolding WriteReturns
  one_write_return = one_return (WritesSet b kind x s) (one_write b kind x s) r r₂ s' s₂'

  pub one_read_return : ReadReturns b kind x s r s' → ReadReturns b kind x s r₂ s₂' → (r ≡ r₂) × (s' ≡ s₂')
  unfolding ReadReturns
  one_read_return = one_return (ReadsSet b kind x s) (one_read b kind x s) r r₂ s' s₂'

-- ---- the questions, which leave all as it was

module _ (P Q : ℕ × ℕ → Type 0) (same : Same P Q) where
  pub two_answers : (r r₂ : ℕ) → Returned (λ n v. P (n, v)) r → Returned (λ n v. Q (n, v)) r₂ → r ≡ r₂
  two_answers r r₂ p q =
      (two_returns (λ (a : ℕ × ℕ × Unit {0}). P (a.0, a.1)) (λ (a : ℕ × ℕ × Unit {0}). Q (a.0, a.1))
      (λ a c s t. let e = same (a.0, a.1) (c.0, c.1) s t in λ i. ((e i).0, (e i).1, tt)) r r₂ tt tt p q).0

module _ (Outcome : ℕ × ℕ → Type 0) (one : One Outcome) where
  one_answer : (r r₂ : ℕ) → Returned (λ n v. Outcome (n, v)) r → Returned (λ n v. Outcome (n, v)) r₂ → r ≡ r₂
  one_answer = two_answers Outcome Outcome one

-- The three parts of a full question's value.
pub apart : {rights user object v : ℕ} → Parts rights user object v
    → (rights ≡ v % 16) × (user ≡ v / 16 % 16384) × (object ≡ v / 262144)
apart p = (omega arith, omega arith, omega arith)

module _ (P Q : ℕ × ℕ × ℕ × ℕ → Type 0) (same : Same P Q) where
  pub two_in_parts : (r r₂ : ℕ) → Returned (InParts P) r → Returned (InParts Q) r₂ → r ≡ r₂
  two_in_parts =
      two_answers (λ a. InParts P a.0 a.1) (λ a. InParts Q a.0 a.1)
      (λ a c p q.
      let e = same (a.0, p.0, p.1, p.2) (c.0, q.0, q.1, q.2) p.4 q.4 in
      let n : a.0 ≡ c.0 = ap (λ (t : ℕ × ℕ × ℕ × ℕ). t.0) e in
      let m : p.0 ≡ q.0 = ap (λ (t : ℕ × ℕ × ℕ × ℕ). t.1) e in
      let i : p.1 ≡ q.1 = ap (λ (t : ℕ × ℕ × ℕ × ℕ). t.2) e in
      let j : p.2 ≡ q.2 = ap (λ (t : ℕ × ℕ × ℕ × ℕ). t.3) e in
      let v : a.1 ≡ c.1 = omega (arith, p.3.is, q.3.is, m, i, j) in
      λ k. (n k, v k))

module _ (Outcome : ℕ × ℕ × ℕ × ℕ → Type 0) (one : One Outcome) where
  one_in_parts : (r r₂ : ℕ) → Returned (InParts Outcome) r → Returned (InParts Outcome) r₂ → r ≡ r₂
  one_in_parts = two_in_parts Outcome Outcome one

module _ (b : List ℕ) (u o request profile : ℕ) where
  pub one_rights_return : (r r₂ : ℕ) → RightsReturns b u o request profile r → RightsReturns b u o request profile r₂ → r ≡ r₂
  unfolding RightsReturns
  one_rights_return =
      one_in_parts (Full b u o request profile) (one_full b u o request profile)

  pub one_may_return : (r r₂ : ℕ) → MayReturns b u o request profile r → MayReturns b u o request profile r₂ → r ≡ r₂
  unfolding MayReturns
  one_may_return = one_answer (Short b u o request profile) (one_short b u o request profile)

-- ---- M-103: slips

-- The two parts of a finder's value.
pub chains_apart : {user object v : ℕ} → ChainParts user object v → (user ≡ v % 256) × (object ≡ v / 256)
chains_apart p = (omega arith, omega arith)

module _ (b : List ℕ) (u o right : ℕ) (us os : List ℕ) where
  pub one_check_return : (r r₂ : ℕ) → CheckSlipReturns b u o right us os r → CheckSlipReturns b u o right us os r₂ → r ≡ r₂
  unfolding CheckSlipReturns
  one_check_return = one_answer (ChecksSlip b u o right us os) (one_check b u o right us os)

  -- What is returned of a found slip.
  abbrev pub FoundReturns : ℕ → List ℕ → List ℕ → Type 0
  FoundReturns r us' os' = Returned (InChains (λ n x y. Found b u o right us os (n, x, y, us', os'))) r

  -- The finder's alone may differ, and only in which slip is found.
  pub two_find_returns : (r r₂ : ℕ) (us₁ us₂ os₁ os₂ : List ℕ) → FindSlipReturns b u o right us os r us₁ os₁
      → FindSlipReturns b u o right us os r₂ us₂ os₂
      → ((r ≡ r₂) × (us₁ ≡ us₂) × (os₁ ≡ os₂)) ⊎ (FoundReturns r us₁ os₁ × FoundReturns r₂ us₂ os₂)
  unfolding FindSlipReturns
  two_find_returns r r₂ us₁ us₂ os₁ os₂ (n, v, p, (x, y, parts, f)) (n₂, v₂, p₂, (x₂, y₂, parts₂, f₂)) =
      ⊎_elim
      (λ e.
      let en : n ≡ n₂ = ap (λ (a : Outcome). a.0) e in
      let ex : x ≡ x₂ = ap (λ (a : Outcome). a.1) e in
      let ey : y ≡ y₂ = ap (λ (a : Outcome). a.2) e in
      inl (omega arith, ap (λ (a : Outcome). a.3) e, ap (λ (a : Outcome). a.4) e))
      (λ found. inr ((n, v, p, (x, y, parts, found.0)), (n₂, v₂, p₂, (x₂, y₂, parts₂, found.1))))
      (two_finds b u o right us os (n, x, y, us₁, os₁) (n₂, x₂, y₂, us₂, os₂) f f₂)

-- ---- M-111: the rights for a chain limit

module _ (b : List ℕ) (u o request limit : ℕ) where
  pub one_rights_to_return : (r r₂ : ℕ) → RightsToReturns b u o request limit r → RightsToReturns b u o request limit r₂ → r ≡ r₂
  unfolding RightsToReturns
  one_rights_to_return = one_answer (HeldTo b u o request limit) (one_held_to b u o request limit)

  pub one_plain_return : (r r₂ : ℕ) → PlainReturns b u o request limit r → PlainReturns b u o request limit r₂ → r ≡ r₂
  unfolding PlainReturns
  one_plain_return = one_answer (Within b u o request limit) (one_plain b u o request limit)

  -- Where 14 is not due of the plain engine, both return the same.
  pub same_return : limit ≤ greatest_limit → size b Membership ≤ most_records → (r r₂ : ℕ) → PlainReturns b u o request limit r
      → RightsToReturns b u o request limit r₂ → r ≡ r₂
  unfolding PlainReturns RightsToReturns
  same_return few small r r₂ p q =
      one_answer (HeldTo b u o request limit) (one_held_to b u o request limit) r r₂
      (p.0, p.1, p.2, as_walked b u o request limit few small (p.0, p.1) p.3) q

-- ---- M-113: what bears

pub one_bears_return : (b : List ℕ) (u o kind x y r r₂ : ℕ) → BearsReturns b u o kind x y r → BearsReturns b u o kind x y r₂ → r ≡ r₂
unfolding BearsReturns
one_bears_return b u o kind x y = one_answer (Bearing b u o kind x y) (one_bearing b u o kind x y)

-- ---- M-106: by a directory

pub one_directory_return : (b d : List ℕ) (r r₂ : ℕ) (d' d₂' : List ℕ) → DirectoryReturns b d r d' → DirectoryReturns b d r₂ d₂'
    → (r ≡ r₂) × (d' ≡ d₂')
unfolding DirectoryReturns
one_directory_return b d = one_return _ (one_number (MakesDirectory b d) (one_made b d))

-- Those that leave a block and a directory.
module _ (Outcome : ℕ × ℕ × List ℕ × List ℕ → Type 0) (one : One Outcome) where
  one_both : (r r₂ : ℕ) (b₁ b₂ d₁ d₂ : List ℕ) → Returned (λ n v. Outcome (n, v, b₁, d₁)) r → Returned (λ n v. Outcome (n, v, b₂, d₂)) r₂
      → (r ≡ r₂) × (b₁ ≡ b₂) × (d₁ ≡ d₂)
  one_both r r₂ b₁ b₂ d₁ d₂ p q =
      let e =
      one_return {S = List ℕ × List ℕ} (λ o. Outcome (o.0, o.1, o.2.0, o.2.1))
      (λ a c s t.
      let e = one (a.0, a.1, a.2.0, a.2.1) (c.0, c.1, c.2.0, c.2.1) s t in
      λ i. ((e i).0, (e i).1, ((e i).2, (e i).3))) r r₂ (b₁, d₁) (b₂, d₂) p q in
      (e.0, ap (λ (s : List ℕ × List ℕ). s.0) e.1, ap (λ (s : List ℕ × List ℕ). s.1) e.1)

module _ (b d : List ℕ) where
  pub one_sent_by_return : (m : Sent) (r r₂ : ℕ) (b₁ b₂ d₁ d₂ : List ℕ) → SendsByReturns b d m r b₁ d₁
      → SendsByReturns b d m r₂ b₂ d₂ → (r ≡ r₂) × (b₁ ≡ b₂) × (d₁ ≡ d₂)
  unfolding SendsByReturns
  one_sent_by_return m = one_both (SendsBy b d m) (one_sent_by b d m)

  module _ (u o request profile : ℕ) where
    pub one_rights_by_return : (r r₂ : ℕ) → RightsByReturns b d u o request profile r → RightsByReturns b d u o request profile r₂ → r ≡ r₂
    unfolding RightsByReturns
    one_rights_by_return = one_in_parts (FullBy b d u o request profile) (one_full_by b u o request profile d)

    pub one_may_by_return : (r r₂ : ℕ) → MayByReturns b d u o request profile r → MayByReturns b d u o request profile r₂ → r ≡ r₂
    unfolding MayByReturns
    one_may_by_return = one_answer (ShortBy b d u o request profile) (one_short_by b u o request profile d)

  module _ (kind x : ℕ) (s : List ℕ) (r r₂ : ℕ) where
    pub one_write_by_return : (s' s₂' : List ℕ) → WriteByReturns b d kind x s r s' → WriteByReturns b d kind x s r₂ s₂'
        → (r ≡ r₂) × (s' ≡ s₂')
    unfolding WriteByReturns
    one_write_by_return = one_return (WriteBy b d kind x s) (one_write_by b d kind x s) r r₂

    pub one_read_by_return : (b₁ b₂ d₁ d₂ : List ℕ) → ReadByReturns b d kind x s r b₁ d₁ → ReadByReturns b d kind x s r₂ b₂ d₂
        → (r ≡ r₂) × (b₁ ≡ b₂) × (d₁ ≡ d₂)
    unfolding ReadByReturns
    one_read_by_return = one_both (ReadBy b d kind x s) (one_read_by b d kind x s) r r₂

-- ---- M-105: appointments

pub one_day_return : (year month day r r₂ : ℕ) → DayReturns year month day r → DayReturns year month day r₂ → r ≡ r₂
unfolding DayReturns
one_day_return year month day = one_answer (DayOf year month day) (one_day_of year month day)

-- The three parts of a date's value.
pub date_apart : {d : Date} {v : ℕ} → DateParts d v → (d.day ≡ v % 32) × (d.month ≡ v / 32 % 16) × (d.year ≡ v / 512)
date_apart p = (omega arith, omega arith, omega arith)

pub one_date_return : (day r r₂ : ℕ) → DateReturns day r → DateReturns day r₂ → r ≡ r₂
unfolding DateReturns
one_date_return day =
    one_answer (λ a. (d : Date) × DateParts d a.1 × DateOf day (a.0, d))
    (λ a c p q.
    let e = one_date_of day (a.0, p.0) (c.0, q.0) p.2 q.2 in
    let n : a.0 ≡ c.0 = ap (λ (o : ℕ × Date). o.0) e in
    let v : a.1 ≡ c.1 =
    omega (
      arith,
      p.1.is,
      q.1.is,
      ap (λ (o : ℕ × Date). o.1.day) e,
      ap (λ (o : ℕ × Date). o.1.month) e,
      ap (λ (o : ℕ × Date). o.1.year) e,
    ) in
    λ i. (n i, v i))

pub one_move_return : (b l : List ℕ) (old new r r₂ : ℕ) (b' b₂' : List ℕ) → MoveReturns b l old new r b' → MoveReturns b l old new r₂ b₂'
    → (r ≡ r₂) × (b' ≡ b₂')
unfolding MoveReturns
one_move_return b l old new = one_return _ (one_number (Moved b l old new) (one_moved b l old new))

pub one_next_return : (l : List ℕ) (day r r₂ : ℕ) → NextReturns l day r → NextReturns l day r₂ → r ≡ r₂
unfolding NextReturns
one_next_return l day = one_answer (NextChange l day) (one_next_change l day)

pub one_stands_return : (l : List ℕ) (day r r₂ : ℕ) → StandsReturns l day r → StandsReturns l day r₂ → r ≡ r₂
unfolding StandsReturns
one_stands_return l day = one_answer (Stands l day) (one_stands l day)

-- ---- the block as it stands

pub one_tested_return : (b : List ℕ) (r r₂ : ℕ) → TestedReturns b r → TestedReturns b r₂ → r ≡ r₂
unfolding TestedReturns
one_tested_return b =
    one_answer (λ a. (a.1 ≡ 0) × Answers (block_needs b) a.0)
    (λ a c p q. let n = one_tested b a.0 c.0 p.1 q.1 in let v = p.0 ∙ sym q.0 in λ i. (n i, v i))

pub one_size_return : (b : List ℕ) (kind r r₂ : ℕ) → SizeReturns b kind r → SizeReturns b kind r₂ → r ≡ r₂
unfolding SizeReturns
one_size_return b kind =
    one_answer _
    (one_first {O = ℕ × ℕ} (λ n. (n, 0)) ((3, IsKind kind) ∷ []) (λ o. o ≡ (0, size b (kind_of kind))) (λ a c p q. p ∙ sym q))

-- A number is one number.
module _ (w : ℕ) where
  one_numbered : (r r₂ : ℕ) → Returned (λ n v. (n ≡ 0) × (v ≡ w)) r → Returned (λ n v. (n ≡ 0) × (v ≡ w)) r₂ → r ≡ r₂
  one_numbered =
      one_answer (λ a. (a.0 ≡ 0) × (a.1 ≡ w))
      (λ a c p q. let n = p.0 ∙ sym q.0 in let v = p.1 ∙ sym q.1 in λ i. (n i, v i))

pub one_record_return : (b : List ℕ) (i r r₂ : ℕ) → RecordReturns b i r → RecordReturns b i r₂ → r ≡ r₂
unfolding RecordReturns
one_record_return b i = one_numbered _

pub one_count_return : (b : List ℕ) (i k r r₂ : ℕ) → CountReturns b i k r → CountReturns b i k r₂ → r ≡ r₂
unfolding CountReturns
one_count_return b i k = one_numbered _
