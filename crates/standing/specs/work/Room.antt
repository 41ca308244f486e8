-- For proofs only: what the functions of the program ask of the block and of the buffers.
use Rattle.std.specs.Prelude.{ℕ, ◌+◌, ◌*◌, List}
use Rattle.index.specs.Block.{Sized, Good}
use Rattle.index.specs.Block.{most_records}
use Rattle.index.specs.work.Longest.{field_digits, longest_record}

-- The block passes the tests of every call.
pub record Usable (b : List ℕ) : Type 0 where
  pub sized : Sized b
  pub good : Good b

-- Room for the line of a refused message.
abbrev pub line_room : ℕ
line_room = 64

-- Room for the line of a set that has one record: a letter, the key, a space, the text and a newline.
abbrev pub longest_line : ℕ
longest_line = 1 + field_digits + 1 + longest_record + 1

-- Room for the lines of all sets: there are no more lines than records.
abbrev pub longest_sets : ℕ
longest_sets = longest_line * most_records
