-- A number read as a kind.
use Prim.Native.Nat.{ℕ}
use mathlib.Core.Path.{◌≡◌, sym, ap, ◌∙◌}
use mathlib.Core.Bool.{true, false}
use Rattle.std.specs.Prelude.{Result, Ok, Err, is_err}
use Rattle.index.specs.declared.Kind.{Kind}
use Rattle.index.specs.declared.refusals.Refusal.{Refusal}
use Rattle.index.specs.Message.{IsKind, KindFrom}
use Rattle.index.proofs.laws.message.Halves.{differ}

pub read_none : (n : ℕ) (r : Result Kind Refusal) → KindFrom n r → is_err r ≡ true → IsKind n → ⊥
unfolding KindFrom
read_none n (Ok kind) h e k = differ (sym e)
read_none n (Err e) h q k = h.0 k

pub read_some : (n : ℕ) (r : Result Kind Refusal) → KindFrom n r → is_err r ≡ false → IsKind n
unfolding KindFrom
read_some n (Ok kind) h e = h.0
read_some n (Err e) h q = absurd (differ q)

-- A number is read as one kind, or with one refusal.
pub one_kind : (n : ℕ) (r s : Result Kind Refusal) → KindFrom n r → KindFrom n s → r ≡ s
unfolding KindFrom
one_kind n (Ok kind) (Ok other) p q = ap Ok (p.1 ∙ sym q.1)
one_kind n (Ok kind) (Err e) p q = absurd (q.0 p.0)
one_kind n (Err e) (Ok kind) p q = absurd (p.0 q.0)
one_kind n (Err e) (Err f) p q = ap Err (p.1 ∙ sym q.1)
