-- M-105: from a history whose moves start rightly neither a move nor a message that quotes what its statement left is refused with 6.
use Prim.Native.Nat.{ℕ, ◌<◌, ◌≤◌}
use mathlib.Core.Path.{◌≡◌, refl, ap}
use mathlib.Core.List.{List, [], ◌∷◌, map}
use mathlib.Core.Logic.◌⊎◌.{inl, inr}
use native.Mathlib.Omega.{arith}
use Rattle.index.specs.declared.Kind.{Kind}
use Rattle.index.specs.Letters.{letter_count}
use Rattle.index.specs.Block.{count}
use Rattle.index.specs.Message.{Half, changes, taken, added, own_count, change_needs, Carried}
use Rattle.index.specs.Message.Change.{take, add}
use Rattle.index.specs.Wide.{Sent, previous_of, new_of}
use Rattle.index.specs.Calls.{block_needs, sent_needs, Sends}
use Rattle.index.specs.History.{moves_of}
use Rattle.index.proofs.laws.OneFirst.{first_cases}
use Rattle.index.proofs.laws.message.HalfLetters.{change_own}
use Rattle.index.proofs.laws.demands.Standing.{apart}
use Rattle.appointments.specs.Appointment.{appointment_needs, day_needs, standing_only}
use Rattle.appointments.specs.Moves.{move_needs, Moved}
use Rattle.appointments.specs.Days.{NeverSix, MessageNeverSix}
use Rattle.appointments.proofs.laws.Picked.{all_there}
use Rattle.appointments.proofs.laws.Moving.{steps}
use Rattle.appointments.proofs.laws.SecondHalf.{so, starts}

-- The block counts all that these halves take.
abbrev pub Has : List ℕ → List Half → Type 0
Has b hs = (kind : Kind) (x y k : ℕ) → k < letter_count → moves_of hs kind x y k ≤ count b kind x y k

-- What is added is never refused with 6.
adds : (gs : List Half) (b₀ b b₂ : List ℕ) → Carried b₀ (map add gs) b (6, b₂) → ⊥
unfolding Carried change_needs
adds [] b₀ b b₂ h = omega (arith, ap (λ (o : ℕ × List ℕ). o.0) h)
adds (g ∷ gs) b₀ b b₂ (inl p) = omega (arith, ap (λ (o : ℕ × List ℕ). o.0) p.1)
adds (g ∷ gs) b₀ b b₂ (inr (p, inl q)) = omega (arith, ap (λ (o : ℕ × List ℕ). o.0) q.1)
adds (g ∷ gs) b₀ b b₂ (inr (p, inr (q, (c, d, r)))) = adds gs b₀ c b₂ r

takes : (hs gs : List Half) (b₀ b b₂ : List ℕ) → Has b hs → Carried b₀ (changes hs gs) b (6, b₂) → ⊥
unfolding Carried changes change_needs taken added moves_of own_count
takes [] gs b₀ b b₂ e h = adds gs b₀ b b₂ h
takes (h ∷ hs) gs b₀ b b₂ e (inl p) = p.0 (λ k l i. omega (arith, i, (change_own (take h) k).0, e h.kind h.key h.id k l))
takes (h ∷ hs) gs b₀ b b₂ e (inr (p, (c, d, r))) =
    takes hs gs b₀ c b₂ (λ kind x y k l. omega (arith, e kind x y k l, d.counts kind x y k l)) r

-- 6 comes from the changes alone.
six : (b l : List ℕ) (old new : ℕ) (o : ℕ × List ℕ) → Moved b l old new o → o.0 ≡ 6 → Carried b (steps l old new) b o
unfolding Moved move_needs block_needs appointment_needs day_needs
six b l old new =
    first_cases (λ o. o.0 ≡ 6 → Carried b (steps l old new) b o) (λ n. n ≡ 6 → ⊥) (λ n. (n, b)) (Carried b (steps l old new) b)
    (λ n q e. absurd (q e)) (λ o c e. c) (move_needs b l old new) (omega arith)

-- A move is not refused with 6 where the block counts all that stands on the old day only.
pub not_six : (b l : List ℕ) (old new : ℕ) (b₂ : List ℕ) → Has b (standing_only l old new) → Moved b l old new (6, b₂) → ⊥
not_six b l old new b₂ e h = takes (standing_only l old new) (standing_only l new old) b b b₂ e (six b l old new (6, b₂) h refl)

pub never_six : NeverSix
never_six l b₀ b b₁ b₂ es s₁ d₁ old new made h q =
    not_six b₁ l old new b₂
    (λ kind x y k lt.
    omega (
      arith,
      (so b₀ made h).counts kind x y k lt,
      ap (λ hs. moves_of hs kind x y k) (starts l d₁ old q),
      all_there kind x y k l old new,
    ))

-- ---- a message

sent_six : (b : List ℕ) (m : Sent) (o : ℕ × List ℕ) → Sends b m o → o.0 ≡ 6 → Carried b (changes (previous_of m) (new_of m)) b o
unfolding Sends sent_needs block_needs
sent_six b m =
    first_cases (λ o. o.0 ≡ 6 → Carried b (changes (previous_of m) (new_of m)) b o) (λ n. n ≡ 6 → ⊥) (λ n. (n, b))
    (Carried b (changes (previous_of m) (new_of m)) b) (λ n q e. absurd (q e)) (λ o c e. c) (sent_needs b m) (omega arith)

pub message_never_six : MessageNeverSix
message_never_six l b₀ b b₁ b₂ es s₁ d₁ m made h q sent =
    let e = so b₀ made h in
    takes (previous_of m.sent) (new_of m.sent) b₁ b₁ b₂
    (λ kind x y k lt.
    omega (arith, e.counts kind x y k lt, ap (λ hs. moves_of hs kind x y k) q, apart kind x y k m.label s₁ e.once))
    (sent_six b₁ m.sent (6, b₂) sent refl)
