-- The door to a block's parts has one answer. (The promise of record_by is an equation.)
use Prim.Native.Nat.{ℕ}
use mathlib.Core.Path.{◌≡◌, sym, ◌∙◌}
use mathlib.Core.List.{List}
use Rattle.index.specs.declared.Kind.{Kind}
use Rattle.directory.specs.declared.Span.{Span}
use Rattle.directory.specs.Doors.{PartOf}

pub one_part : (b : List ℕ) (kind : Kind) (s t : Span) → PartOf b kind s → PartOf b kind t → (s.from ≡ t.from) × (s.end ≡ t.end)
one_part b kind s t p q = (p.first ∙ sym q.first, p.last ∙ sym q.last)
