-- M-105: demand 3's second half with moves mixed into the history.
use Prim.Native.Nat.{ℕ}
use mathlib.Core.Path.{◌≡◌, refl, sym, ap, ◌∙◌}
use mathlib.Core.List.{List, [], ◌∷◌, ◌++◌}
use mathlib.Core.Logic.◌⊎◌.{inl, inr}
use native.Mathlib.Omega.{arith}
use lib.ListN.{length}
use Rattle.index.specs.Block.{Sized, Good}
use Rattle.index.specs.Calls.{Makes, make_needs}
use Rattle.index.specs.History.{Labelled, Statement, History, moves_of}
use Rattle.index.specs.History.History.{nothing, accepted, refused}
use Rattle.index.proofs.laws.demands.AnyOrder.{balance}
use Rattle.index.proofs.laws.demands.Standing.{CountsWith, holds, made_counts}
use Rattle.appointments.specs.Appointment.{standing}
use Rattle.appointments.specs.Days.{Event, Last, Starts, standing_then, Mixed, SecondHalf, AnotherList}
use Rattle.appointments.proofs.laws.SameBlock.{exchanged}

-- What is so at every moment: each count is the number of statements and of appointments that stand.
abbrev pub So : List ℕ → List ℕ → List Statement → Last → Type 0
So l b s d = CountsWith (λ kind x y k. moves_of (standing_then l d) kind x y k) b s

-- Those that stand where an accepted move starts are those that count.
pub starts : (l : List ℕ) (d : Last) (old : ℕ) → Starts l d old → standing_then l d ≡ standing l old
unfolding Starts standing_then
starts l Last.none old e = sym e
starts l (Last.ended day) old e = ap (standing l) (sym e)

go_on : {l b b' : List ℕ} {s s' : List Statement} {d d' : Last} {es : List Event} → Mixed l b s d es b' s' d' → So l b s d → So l b' s' d'
unfolding standing_then
go_on Mixed.nothing e = e
go_on (Mixed.told h p) e = go_on p (holds h e)
go_on {l} (Mixed.moved {b = b} {b₁ = c} {d = d} {old = old} {new = new} h q p) e =
    go_on p
    (record {
      once = e.once;
      single = e.single;
      counts = λ kind x y k lt.
          omega (
            arith,
            (exchanged b l old new c h).counts kind x y k lt,
            ap (λ hs. moves_of hs kind x y k) (starts l d old q),
            e.counts kind x y k lt,
          );
    })
go_on (Mixed.refused u h p) e = go_on p e

pub so : (b₀ : List ℕ) {l b b₁ : List ℕ} {es : List Event} {s₁ : List Statement} {d₁ : Last} → Makes b₀ (0, b) → Mixed l b [] Last.none es b₁ s₁ d₁
    → So l b₁ s₁ d₁
unfolding standing_then moves_of
so b₀ {b = b} made h = go_on h (made_counts b₀ b made)

pub second_half : SecondHalf
second_half l b₀ b b₁ es s₁ d₁ made h = (so b₀ made h).counts

-- Another list is taken up where none of the first stands.
taken_up : (l l₂ : List ℕ) {b : List ℕ} {s : List Statement} (d : Last) → standing_then l d ≡ [] → So l b s d → So l₂ b s Last.none
unfolding standing_then moves_of
taken_up l l₂ d none e =
    record {
      once = e.once;
      single = e.single;
      counts = λ kind x y k lt. omega (arith, e.counts kind x y k lt, ap (λ hs. moves_of hs kind x y k) none);
    }

pub another_list : AnotherList
another_list l l₂ b₀ b b₁ b₂ es es₂ s₁ s₂ d₁ d₂ made h none more = (go_on more (taken_up l l₂ d₁ none (so b₀ made h))).counts

-- "at that moment": what came before a moment is such a history too.
pub each_moment : {l b b' : List ℕ} {s s' : List Statement} {d d' : Last} (es more : List Event) → Mixed l b s d (es ++ more) b' s' d'
    → (b₁ : List ℕ) × (s₁ : List Statement) × (d₁ : Last) × Mixed l b s d es b₁ s₁ d₁
each_moment [] more h = (_, _, _, Mixed.nothing)
each_moment (e ∷ es) more (Mixed.told h p) = let r = each_moment es more p in (r.0, r.1, r.2, Mixed.told h r.3)
each_moment (e ∷ es) more (Mixed.moved h q p) = let r = each_moment es more p in (r.0, r.1, r.2, Mixed.moved h q r.3)
each_moment (e ∷ es) more (Mixed.refused u h p) = let r = each_moment es more p in (r.0, r.1, r.2, Mixed.refused u h r.3)

-- ---- the block stays one that every call takes

record Same (b b' : List ℕ) : Type 0 where
  good : Good b → Good b'
  same_length : length b' ≡ length b

told_same : {b b₁ : List ℕ} {s : List Statement} {m : Labelled} {s₁ : List Statement} → History b s (m ∷ []) b₁ s₁ → Same b b₁
told_same (accepted {b = b} {b₁ = c} {m = m} h q nothing) =
    let e = balance b m.sent c h in
    record { good = e.good; same_length = e.same_length }
told_same (refused u h nothing) = record { good = λ g. g; same_length = refl }

on : {b c d : List ℕ} → Same b c → Same c d → Same b d
on p q = record { good = λ g. q.good (p.good g); same_length = q.same_length ∙ p.same_length }

mixed_same : {l b b' : List ℕ} {s s' : List Statement} {d d' : Last} {es : List Event} → Mixed l b s d es b' s' d' → Same b b'
mixed_same Mixed.nothing = record { good = λ g. g; same_length = refl }
mixed_same (Mixed.told h p) = on (told_same h) (mixed_same p)
mixed_same {l} (Mixed.moved {b = b} {b₁ = c} {old = old} {new = new} h q p) =
    let e = exchanged b l old new c h in
    on (record { good = e.good; same_length = e.same_length }) (mixed_same p)
mixed_same (Mixed.refused u h p) = mixed_same p

-- From a made block on no move is refused with 1 or 2.
pub stays_good : (b₀ : List ℕ) {l b b₁ : List ℕ} {es : List Event} {s₁ : List Statement} {d₁ : Last} → Makes b₀ (0, b) → Mixed l b [] Last.none es b₁ s₁ d₁
    → Sized b₁ × Good b₁
unfolding Makes make_needs Sized
stays_good b₀ (inl r) h = let z : ◌≡◌ {A = ℕ} 0 1 = ap (λ (o : ℕ × List ℕ). o.0) r.1 in absurd (omega arith)
stays_good b₀ (inr r) h =
    let e = mixed_same h in
    ((omega (arith, r.0, e.same_length, r.1.2), omega (arith, r.0, e.same_length, r.1.2)), e.good r.1.1)
