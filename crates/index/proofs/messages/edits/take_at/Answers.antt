-- A record loses the letters of a mask, or goes.
use native.Mathlib.Omega.{arith}
use Prim.Native.Nat.{ℕ}
use mathlib.Core.List.{List}
use Rattle.index.specs.declared.Kind.{Kind}
use Rattle.index.specs.Block.{key, id}
use Rattle.index.specs.Message.{Half}
use Rattle.index.specs.work.Edits.{half}
use Rattle.index.proofs.laws.message.Steps.{take_lacks, taken_lowered, taken_removed, at_self}
use Rattle.index.proofs.messages.edits.take_at.Goals as goal

-- The half of record i with these letters.
abbrev of_record : Kind → List ℕ → ℕ → ℕ → Half
of_record kind b i mask = half kind (key b i) (id b i) mask

pub returns-then-not-allows : goal.returns-then-not-allows
returns-then-not-allows c =
    let a = c.args in
    take_lacks (of_record a.kind a.b.now a.i a.mask) c.requires.0.good (at_self c.requires.1) c.if-not-allows.ensures

pub returns-then-left_over : goal.returns-then-left_over
returns-then-left_over c =
    let a = c.args in
    taken_lowered (of_record a.kind a.b.now a.i a.mask) c.requires.0 (at_self c.requires.1) c.if-not-allows.ensures (λ t. omega (arith, c.type_inv.b t))
    c.if-left_over.ensures c.recount.ensures

pub returns : goal.returns
returns c =
    let a = c.args in
    taken_removed (of_record a.kind a.b.now a.i a.mask) c.requires.0 (at_self c.requires.1) c.if-not-allows.ensures (λ t. omega (arith, c.type_inv.b t))
    c.if-left_over.ensures c.splice.ensures
