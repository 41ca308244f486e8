-- For proofs only: the halves of the code, as those of a message.
use Rattle.std.specs.Prelude.{ℕ}
use Rattle.index.specs.declared.messages.beginning.Which.{Which}
use Rattle.index.specs.declared.messages.beginning.Which.TheVariants as which
use Rattle.index.specs.declared.messages.halves.Half as code
use Rattle.index.specs.Message.{Half}

-- Half 0 is the previous one, half 1 the new one.
abbrev pub half_number : Which → ℕ
half_number which.Previous = 0
half_number which.New = 1

-- A half of the code.
abbrev pub as_half : code.Half → Half
as_half h = record { kind = h.kind; key = h.key; id = h.id; mask = h.mask }
