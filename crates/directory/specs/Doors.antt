-- What the doors to a block's parts and to a directory answer with.
use Rattle.std.specs.Prelude.{ℕ, ◌+◌, ◌-◌, ◌/◌, ◌^◌, ◌<◌, ◌≡◌, List}
use Rattle.index.specs.declared.Kind.{Kind}
use Rattle.index.specs.Block.{header_length, record_length, from, size}
use Rattle.directory.specs.declared.Span.{Span}

-- The records of the kind are those of the span; whatever the header says, their numbers are below 2^32.
pub record PartOf (b : List ℕ) (kind : Kind) (span : Span) : Type 0 where
  pub first : span.from ≡ from b kind
  pub last : span.end ≡ from b kind + size b kind
  pub few : span.end < 2 ^ 32

-- The record that begins at byte e.
abbrev pub record_at : ℕ → ℕ
record_at e = (e - header_length) / record_length
