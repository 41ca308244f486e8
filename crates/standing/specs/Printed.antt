-- 01, "Numbers a caller can get", last paragraph: what the program `standing` prints for a list of input bytes.
use Rattle.std.specs.Prelude.{ℕ, zero, suc, ◌+◌, ◌≡◌, List, [], ◌∷◌, ◌++◌, length, take, drop}
use Rattle.index.specs.declared.Kind.{Kind}
use Rattle.index.specs.declared.Kind.TheVariants.{Membership, Permission, Filter}
use Rattle.index.specs.Block.{name_count, greatest_length}
use Rattle.index.specs.Message.{message_length}
use Rattle.index.specs.Text.{Entry, decimal, text_of, set_of}
use Rattle.index.specs.Calls.{Makes, Message}

-- ---- messages

-- The bytes of the word, and of the spaces beside it.
--            m     e     s     s     a    g     e
abbrev pub message_word : List ℕ
message_word = 109 ∷ 101 ∷ 115 ∷ 115 ∷ 97 ∷ 103 ∷ 101 ∷ 32 ∷ []

--                 r     e     f     u     s     e     d
abbrev pub refused_word : List ℕ
refused_word = 32 ∷ 114 ∷ 101 ∷ 102 ∷ 117 ∷ 115 ∷ 101 ∷ 100 ∷ 32 ∷ []

abbrev pub space : List ℕ
space = 32 ∷ []

abbrev pub newline : List ℕ
newline = 10 ∷ []

-- "For each refused one it prints `message N refused R`": an accepted one, whose number is 0, has no line.
unfoldable pub refusal_line : ℕ → ℕ → List ℕ
refusal_line n zero = []
refusal_line n (suc r) = message_word ++ decimal n ++ refused_word ++ decimal (suc r) ++ newline

-- "reads messages of 12 bytes from standard input", "N from 1; a short last piece is refused with 3": from message n on, the
-- input left, the lines printed, and the block from b to b'.
pub data Fed : List ℕ → ℕ → List ℕ → List ℕ → List ℕ → Type 0 where
  -- Nothing is left.
  done : {b : List ℕ} {n : ℕ} → Fed b n [] [] b
  -- The first 12 bytes, or all where fewer are left, are message n, whose number is r; and then the rest.
  piece : {b b₁ b' rest lines : List ℕ} {n c : ℕ} (r : ℕ) → Message b (take message_length (c ∷ rest)) (r, b₁)
      → Fed b₁ (n + 1) (drop message_length (c ∷ rest)) lines b' → Fed b n (c ∷ rest) (refusal_line n r ++ lines) b'

-- ---- sets

-- "the kind letter": the bytes of M, P and F.
unfoldable pub kind_letter : Kind → ℕ
kind_letter Membership = 77
kind_letter Permission = 80
kind_letter Filter = 70

-- "the kind letter, the key, a space, the text"
abbrev pub line_with : Kind → ℕ → List ℕ → List ℕ
line_with kind x text = (kind_letter kind ∷ []) ++ decimal x ++ space ++ text ++ newline

-- "every set that isn't empty"
unfoldable pub line_of : Kind → ℕ → List Entry → List ℕ
line_of kind x [] = []
line_of kind x (e ∷ es) = line_with kind x (text_of (e ∷ es))

unfoldable pub set_line : List ℕ → Kind → ℕ → List ℕ
set_line b kind x = line_of kind x (set_of b kind x)

-- "keys rising": the lines of the n keys from x on.
unfoldable pub set_lines : List ℕ → Kind → ℕ → ℕ → List ℕ
set_lines b kind x zero = []
set_lines b kind x (suc n) = set_line b kind x ++ set_lines b kind (x + 1) n

-- "kinds in order M, P, F"
unfoldable pub block_lines : List ℕ → List ℕ
block_lines b = set_lines b Membership 0 name_count ++ set_lines b Permission 0 name_count ++ set_lines b Filter 0 name_count

-- ---- the whole

-- All that is printed for the input.
pub record Prints (input out : List ℕ) : Type 0 where
  -- "into an empty block of" so many "bytes": M-107: "a block may have 49,168 bytes"
  pub before : List ℕ
  pub block : List ℕ
  pub long : length before ≡ greatest_length
  pub made : Makes before (0, block)
  -- The lines of the refused messages, and the block after the last message.
  pub refusals : List ℕ
  pub left : List ℕ
  pub fed : Fed block 1 input refusals left
  -- "Then it prints every set that isn't empty"
  pub printed : out ≡ refusals ++ block_lines left
