-- What write_set gives where the block is usable and the buffer is large enough.
use Prim.Native.Nat.{ℕ, ◌≤◌}
use native.Mathlib.Omega.{arith}
use mathlib.Core.Path.{◌≡◌, sym, ap, ◌∙◌}
use mathlib.Core.List.{List}
use lib.ListN.{length, take, drop, length-append}
use lib.Seq.{take_at}
use Rattle.index.specs.declared.Kind.{Kind}
use Rattle.index.specs.declared.Kind.TheVariants.{Membership, Permission, Filter}
use Rattle.std.specs.Prelude.{Ok, Err}
use Rattle.index.specs.declared.refusals.Refusal.{Refusal}
use Rattle.index.proofs.laws.Refusing.{some}
use Rattle.index.specs.Block.{IsName}
use Rattle.index.specs.Message.{IsKind, kind_of, kind_number}
use Rattle.index.specs.Text.{text_of, set_of}
use Rattle.index.specs.work.Longest.{longest_text}
use Rattle.index.specs.Calls.{WriteAnswers, WritesSet, Written}
use Rattle.index.proofs.laws.message.HalfLetters.{numbered}
use Rattle.index.proofs.laws.text.TextBound.{set_text_bound}
use Rattle.index.proofs.laws.text.WriteAccepted.{write_accepted}
use Rattle.standing.specs.Promised.{Front}
use Rattle.standing.specs.work.Room.{Usable}

is_kind : (kind : Kind) → IsKind (kind_number kind)
unfolding IsKind kind_number
is_kind Membership = (omega arith, omega arith)
is_kind Permission = (omega arith, omega arith)
is_kind Filter = (omega arith, omega arith)

module _
    (b : List ℕ)
    (kind : Kind)
    (x : ℕ)
    (text text' : List ℕ)
    (p : Usable b × IsName x × (longest_text ≤ length text)) where
  abbrev number : ℕ
  number = kind_number kind

  abbrev t : List ℕ
  t = text_of (set_of b (kind_of number) x)

  is_written : (o : ℕ × ℕ × List ℕ) → WritesSet b number x text o → Written b number x text o
  is_written o =
      write_accepted b number x text o p.0.sized p.0.good (is_kind kind) p.1
      (omega (arith, p.2, set_text_bound p.0.sized p.0.good (kind_of number) x))

  pub never_refused : (e : Refusal) → WriteAnswers b number x text (Err e) text' → ⊥
  unfolding WriteAnswers
  never_refused e w = some e (ap (λ (o : ℕ × ℕ × List ℕ). o.0) (is_written _ w))

  pub text_front : (n : ℕ) → WriteAnswers b number x text (Ok n) text' → Front (text_of (set_of b kind x)) text' n
  unfolding WriteAnswers
  text_front n w =
      let e : n ≡ length t = ap (λ (o : ℕ × ℕ × List ℕ). o.1) (is_written _ w) in
      let f : text' ≡ _ = ap (λ (o : ℕ × ℕ × List ℕ). o.2) (is_written _ w) in
      let front : Front t text' n = record {
        long = e;
        fits = omega (arith, ap length f, length-append t (drop (length t) text));
        bytes = ap (take n) f ∙ take_at t (drop (length t) text) n (sym e);
      } in
      rw numbered at front
