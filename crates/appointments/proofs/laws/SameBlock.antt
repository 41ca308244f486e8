-- M-105: a move ends as the same block with the appointments of the new day added, and going by any days ends the same.
use Prim.Native.Nat.{ℕ}
use mathlib.Core.Path.{◌≡◌, refl, sym, ◌∙◌}
use mathlib.Core.List.{List, []}
use native.Mathlib.Omega.{arith}
use Rattle.index.specs.Block.{Good}
use Rattle.index.specs.Message.{Half, Carried, changes}
use Rattle.index.specs.Calls.{block_needs}
use Rattle.index.specs.History.{moves_of}
use Rattle.index.proofs.laws.Firsts.{All, first_passed}
use Rattle.index.proofs.laws.block.Canonical.{canonical}
use Rattle.index.proofs.laws.demands.AnyOrder.{run_balance}
use Rattle.index.proofs.laws.demands.Standing.{downs, ups}
use Rattle.appointments.specs.Appointment.{appointment_needs, day_needs, standing, standing_only}
use Rattle.appointments.specs.Moves.{move_needs, Moved, Exchanged, With, SameBlock, SameBytes, Journey, AnyWay}
use Rattle.appointments.proofs.laws.Picked.{day_balance}
use Rattle.appointments.proofs.laws.Moving.{steps}

-- An accepted move passed its tests, and its changes were carried out.
pub accepted : (b l : List ℕ) (old new : ℕ) (b' : List ℕ) → Moved b l old new (0, b')
    → All (move_needs b l old new) × Carried b (steps l old new) b (0, b')
unfolding Moved move_needs block_needs appointment_needs day_needs
accepted b l old new b' h =
    first_passed (λ n. (n, b)) (Carried b (steps l old new) b) (0, b') (λ o. o.0) (λ n. refl) (move_needs b l old new) (omega arith) refl h

pub exchanged : (b l : List ℕ) (old new : ℕ) (b' : List ℕ) → Moved b l old new (0, b') → Exchanged l old new b b'
exchanged b l old new b' h =
    let e = run_balance b (steps l old new) b' (accepted b l old new b' h).1 in
    record {
      good = e.good;
      same_length = e.same_length;
      counts = λ kind x y k lt.
          omega (
            arith,
            e.counts kind x y k lt,
            downs kind x y k (standing_only l old new) (standing_only l new old),
            ups kind x y k (standing_only l old new) (standing_only l new old),
            day_balance kind x y k l old new,
          );
    }

pub same_block : SameBlock
same_block l b₀ b b' old new g w h =
    let e = exchanged b l old new b' h in
    record {
      good = e.good w.good;
      same_length = e.same_length ∙ w.same_length;
      counts = λ kind x y k lt. omega (arith, e.counts kind x y k lt, w.counts kind x y k lt);
    }

-- "that same block with those of the new day added" is one block, byte for byte.
pub one_with : (hs : List Half) (b b₁ b₂ : List ℕ) → With hs b b₁ → With hs b b₂ → b₁ ≡ b₂
one_with hs b b₁ b₂ p q =
    canonical p.good q.good (λ kind x y k l. p.counts kind x y k l ∙ sym (q.counts kind x y k l)) (p.same_length ∙ sym q.same_length)

-- With none of them added it is the block itself.
pub with_none : (b : List ℕ) → Good b → With [] b b
unfolding moves_of
with_none b g = record { good = g; same_length = refl; counts = λ kind x y k l. omega arith }

-- Memberships that a run of changes adds give the block with them.
pub with_added : (hs : List Half) (b b' : List ℕ) → Good b → Carried b (changes [] hs) b (0, b') → With hs b b'
unfolding moves_of
with_added hs b b' g r =
    let e = run_balance b (changes [] hs) b' r in
    record {
      good = e.good g;
      same_length = e.same_length;
      counts = λ kind x y k l. omega (arith, e.counts kind x y k l, downs kind x y k [] hs, ups kind x y k [] hs);
    }

pub same_bytes : SameBytes
same_bytes l b₀ b b' b₁ old new g p h q =
    one_with (standing l new) b₀ b' b₁ (same_block l b₀ b b' old new g (with_added (standing l old) b₀ b g p) h)
    (with_added (standing l new) b₀ b₁ g q)

-- ---- by days in between

travelled : {l b b' : List ℕ} {old new : ℕ} {days : List ℕ} → Journey l b old days b' new → Exchanged l old new b b'
travelled Journey.there = record { good = λ g. g; same_length = refl; counts = λ kind x y k lt. refl }
travelled {l} (Journey.by {b = b} {b₁ = c} {day = day} {next = next} h j) =
    let e = exchanged b l day next c h in
    let f = travelled j in
    record {
      good = λ g. f.good (e.good g);
      same_length = f.same_length ∙ e.same_length;
      counts = λ kind x y k lt. omega (arith, e.counts kind x y k lt, f.counts kind x y k lt);
    }

pub any_way : AnyWay
any_way l b b₁ b₂ old new days others g p q =
    let e = travelled p in
    let f = travelled q in
    canonical (e.good g) (f.good g) (λ kind x y k lt. omega (arith, e.counts kind x y k lt, f.counts kind x y k lt))
    (e.same_length ∙ sym f.same_length)

-- Going there and back ends as the block was.
pub and_back : (l b b' : List ℕ) (day : ℕ) (days : List ℕ) → Good b → Journey l b day days b' day → b' ≡ b
and_back l b b' day days g j = any_way l b b' b day day days [] g j Journey.there
