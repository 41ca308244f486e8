-- For proofs only: how long the text of a set can be.
use Rattle.std.specs.Prelude.{ℕ, ◌+◌, ◌*◌}
use Rattle.index.specs.Letters.{letter_count}
use Rattle.index.specs.Block.{most_records}

-- An id or a count is a number of 16 bits, so it has at most 5 digits.
abbrev pub field_digits : ℕ
field_digits = 5

-- A letter, and its count.
abbrev pub longest_piece : ℕ
longest_piece = 1 + field_digits

-- A record with so many letters: its id, `;`, and its letters; and the `;` before the next.
abbrev pub record_with : ℕ → ℕ
record_with n = field_digits + 1 + longest_piece * n + 1

-- No kind may have more than these.
abbrev pub most_letters : ℕ
most_letters = 8

abbrev pub longest_record : ℕ
longest_record = record_with most_letters

abbrev pub longest_text : ℕ
longest_text = longest_record * most_records

-- Whatever the bytes of a record are.
abbrev pub any_record : ℕ
any_record = record_with letter_count
