-- What the functions of the program promise: the block then, and what they hand on to be written out.
use Rattle.std.specs.Prelude.{ℕ, ◌-◌, ◌*◌, ◌^◌, ◌<◌, ◌≤◌, ◌≡◌, ◌⊎◌, List, [], ◌++◌, length, take, Option}
use Rattle.std.specs.Io.KnownBytes.{Consumes, Appends, IsAtEnd}
use Rattle.index.specs.Calls.{Makes, Message}
use Rattle.standing.specs.declared.Input.{Input}
use Rattle.standing.specs.declared.Input.TheVariants as input
use Rattle.index.specs.Message.{message_length}
use Rattle.standing.specs.Printed.{refusal_line, Fed, block_lines, Prints}

-- The line stands at the front of the buffer, n bytes long: these bytes are handed on.
pub record Front (line out : List ℕ) (n : ℕ) : Type 0 where
  pub long : n ≡ length line
  pub fits : n ≤ length out
  pub bytes : take n out ≡ line

-- The bytes m are taken in as message n, from the block b to b'. Its number is r, and its line, empty for 0, is handed on.
pub record Taken (b : List ℕ) (n : ℕ) (m line : List ℕ) (long : ℕ) (b' : List ℕ) : Type 0 where
  pub r : ℕ
  pub message : Message b m (r, b')
  pub handed : Front (refusal_line n r) line long

-- What is known of the input and of the output: the bytes that are left to be read, and the bytes that were written.
abbrev pub Streams : Type 0
Streams = Option (List ℕ) × Option (List ℕ)

-- From s to s' these bytes were read, and those were written.
pub record Passed (s s' : Streams) (read written : List ℕ) : Type 0 where
  pub taken : Consumes s.0 s'.0 read
  pub given : Appends s.1 s'.1 written

-- What each case of `Input` stands for, with the bytes that were read at the front of the buffer m. More: a whole message
-- was taken in. Last: "a short last piece" was. Ended: nothing was left. The line was written out.
unfoldable pub Came : Streams → Streams → List ℕ → ℕ → Input → List ℕ → List ℕ → List ℕ → Type 0
Came s s' b n input.More m line b' = (long : ℕ) × Taken b n m line long b' × Passed s s' m (take long line)
Came s s' b n input.Last m line b' =
    (got long : ℕ)
    × (0 < got)
    × (got < message_length)
    × Taken b n (take got m) line long b'
    × Passed s s' (take got m) (take long line)
    × IsAtEnd s'.0
Came s s' b n input.Ended m line b' = (b' ≡ b) × Passed s s' [] [] × IsAtEnd s'.0

-- What an error stands for: a read failed, and the block is as it was; or a piece was taken in, but its line could not be
-- written out.
unfoldable pub Broken : List ℕ → ℕ → List ℕ → List ℕ → List ℕ → Type 0
Broken b n m line b' =
    (b' ≡ b) ⊎ ((got long : ℕ) × (0 < got) × (got ≤ message_length) × Taken b n (take got m) line long b')

-- Messages are counted from 1, and this number is not reached.
abbrev pub last : ℕ
last = 2 ^ 64 - 1

-- The bytes that were read, from message n on, led from the block b to b', and these lines were handed on, and written out.
-- Unless so many messages came as can be counted, the input was read to its end.
pub record Feeds (s s' : Streams) (b : List ℕ) (n : ℕ) (b' : List ℕ) : Type 0 where
  pub input : List ℕ
  pub lines : List ℕ
  pub fed : Fed b n input lines b'
  pub passed : Passed s s' input lines
  pub whole : length input < message_length * (last - n) → IsAtEnd s'.0

-- What is known of the block where a read or a write failed: some pieces, from message n on, led from the block b to b'.
pub record LedTo (b : List ℕ) (n : ℕ) (b' : List ℕ) : Type 0 where
  pub input : List ℕ
  pub lines : List ℕ
  pub fed : Fed b n input lines b'

-- The same of the whole program, which makes the block b empty first.
pub record Halted (b b' : List ℕ) : Type 0 where
  pub block : List ℕ
  pub made : Makes b (0, block)
  pub led : LedTo block 1 b'

-- The whole program, which leaves the block b: for the bytes that were read, the lines of the refusals that were handed on,
-- and then the lines of the sets of b, are all that is to be printed, and were written out. The latter stand at the front of
-- the buffer, and are handed on. Unless so many messages came as can be counted, the input was read to its end.
pub record Ran (s s' : Streams) (b out : List ℕ) : Type 0 where
  pub input : List ℕ
  pub refusals : List ℕ
  pub prints : Prints input (refusals ++ block_lines b)
  pub long : ℕ
  pub handed : Front (block_lines b) out long
  pub passed : Passed s s' input (refusals ++ block_lines b)
  pub whole : length input < message_length * (last - 1) → IsAtEnd s'.0
