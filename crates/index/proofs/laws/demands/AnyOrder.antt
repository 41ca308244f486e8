-- Demand 3, first half: the order of accepted messages does not matter.
use Prim.Native.Nat.{ℕ, ◌+◌, ◌<◌}
use native.Mathlib.Omega.{arith}
use mathlib.Core.Path.{◌≡◌, refl, sym, ◌∙◌, ap, ap₂, subst}
use mathlib.Core.List.{List, [], ◌∷◌, Permᴰ}
use lib.ListN.{length}
use Rattle.index.specs.declared.Kind.{Kind}
use Rattle.index.specs.Block.{Good, count}
use Rattle.index.specs.Message.{Change, changes, taken, added, Carried, packed_changes}
use Rattle.index.specs.Letters.{letter_count}
use Rattle.index.specs.Wide.{Sent, previous_of, new_of}
use Rattle.index.specs.Calls.{block_needs, Sends, list_needs, CarriesOut}
use Rattle.index.specs.History.{Accepted}
use Rattle.index.specs.History.Accepted.{nothing, next}
use Rattle.index.proofs.laws.block.Canonical.{canonical}
use Rattle.index.proofs.laws.Firsts.{first_passed}
use Rattle.index.proofs.laws.message.OneMessage.{run_cases, sent_cases}

abbrev pub sum : (Change → ℕ) → List Change → ℕ
sum f [] = 0
sum f (c ∷ cs) = f c + sum f cs

abbrev pub steps_of : Sent → List Change
steps_of m = changes (previous_of m) (new_of m)

abbrev total : (Change → ℕ) → List Sent → ℕ
total f [] = 0
total f (m ∷ ms) = sum f (steps_of m) + total f ms

total_perm : (f : Change → ℕ) {ms ms' : List Sent} → Permᴰ ms ms' → total f ms ≡ total f ms'
total_perm f Permᴰ.nil = refl
total_perm f (Permᴰ.cons e p) = ap₂ (λ m n. sum f (steps_of m) + n) e (total_perm f p)
total_perm f (Permᴰ.swap e₁ e₂) = omega (arith, ap (λ m. sum f (steps_of m)) e₁, ap (λ m. sum f (steps_of m)) e₂)
total_perm f (Permᴰ.trans p q) = total_perm f p ∙ total_perm f q

abbrev pub down : Kind → ℕ → ℕ → ℕ → Change → ℕ
down kind x y k c = taken c kind x y k

abbrev pub up : Kind → ℕ → ℕ → ℕ → Change → ℕ
up kind x y k c = added c kind x y k

-- What the changes leave: a good block as long as it was, with each count balanced.
pub record Balanced (cs : List Change) (b b' : List ℕ) : Type 0 where
  pub good : Good b → Good b'
  pub same_length : length b' ≡ length b
  pub counts : (kind : Kind) (x y k : ℕ) → k < letter_count
      → count b' kind x y k + sum (down kind x y k) cs ≡ count b kind x y k + sum (up kind x y k) cs

pub run_balance : (b : List ℕ) (cs : List Change) (b' : List ℕ) → Carried b cs b (0, b') → Balanced cs b b'
run_balance b cs b' h =
    run_cases (λ _ cs b o. o.0 ≡ 0 → Balanced cs b o.1) b (λ cs c n l z. absurd (omega arith))
    (λ c z. record { good = λ g. g; same_length = refl; counts = λ kind x y k l. refl })
    (λ c cs b b₁ o d p z. let q = p z in
    record {
      good = λ g. q.good d.good;
      same_length = q.same_length ∙ d.same_length;
      counts = λ kind x y k l. omega (arith, q.counts kind x y k l, d.counts kind x y k l);
    })
    cs b (0, b') h refl

pub balance : (b : List ℕ) (m : Sent) (b' : List ℕ) → Sends b m (0, b') → Balanced (steps_of m) b b'
balance b m b' h =
    sent_cases b m (λ o. o.0 ≡ 0 → Balanced (steps_of m) b o.1) (λ n l z. absurd (omega arith))
    (λ o p z. run_balance b (steps_of m) o.1 (subst (λ (n : ℕ). Carried b (steps_of m) b (n, o.1)) z p)) (0, b') h refl

-- The same of a list of changes from a crate above.
pub list_balance : (b cs b' : List ℕ) → CarriesOut b cs (0, b') → Balanced (packed_changes cs) b b'
unfolding CarriesOut list_needs block_needs
list_balance b cs b' h =
    run_balance b (packed_changes cs) b'
    (first_passed (λ n. (n, b)) (Carried b (packed_changes cs) b) (0, b') (λ o. o.0) (λ n. refl) (list_needs b cs) (omega arith) refl h).1

record All (ms : List Sent) (b b' : List ℕ) : Type 0 where
  good : Good b → Good b'
  same_length : length b' ≡ length b
  counts : (kind : Kind) (x y k : ℕ) → k < letter_count
      → count b' kind x y k + total (down kind x y k) ms ≡ count b kind x y k + total (up kind x y k) ms

all : {b b' : List ℕ} {ms : List Sent} → Accepted b ms b' → All ms b b'
all nothing = record { good = λ g. g; same_length = refl; counts = λ kind x y k l. refl }
all (next {b} {b₁} {m = m} h p) =
    let d = balance b m b₁ h in
    let q = all p in
    record {
      good = λ g. q.good (d.good g);
      same_length = q.same_length ∙ d.same_length;
      counts = λ kind x y k l. omega (arith, d.counts kind x y k l, q.counts kind x y k l);
    }

-- "Take any good block and any list of messages. If two orders of that list are both accepted without a refusal, the two
-- blocks end equal, byte for byte."
pub any_order : {b b₁ b₂ : List ℕ} {ms ms' : List Sent} → Good b → Permᴰ ms ms'
    → Accepted b ms b₁ → Accepted b ms' b₂ → b₁ ≡ b₂
any_order g p s t =
    let u = all s in
    let v = all t in
    canonical (u.good g) (v.good g)
    (λ kind x y k l. omega (
      arith,
      u.counts kind x y k l,
      v.counts kind x y k l,
      total_perm (down kind x y k) p,
      total_perm (up kind x y k) p,
    ))
    (u.same_length ∙ sym v.same_length)
