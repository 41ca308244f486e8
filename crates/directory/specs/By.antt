-- M-106, "A directory of keys": the calls by a directory, and the number 13.
use Rattle.std.specs.Prelude.{ℕ, ◌≡◌, List, [], ◌∷◌, ◌++◌, length, Result}
use Rattle.index.specs.declared.refusals.Refusal.{Refusal}
use Rattle.index.specs.declared.refusals.ReadError.{ReadError}
use Rattle.index.specs.Numbers.{First, Means, ReadMeans}
use Rattle.index.specs.Wide.{Sent}
use Rattle.index.specs.Wide.Sent.{plain, wide}
use Rattle.index.specs.Calls.{block_needs, Sends, WritesSet, ReadsSet}
use Rattle.directory.specs.Directory.{directory_length, Own}

-- make_directory: the number, and the directory then. 13, M-106: "making one: the length only".
unfoldable pub making_needs : List ℕ → List ℕ → List (ℕ × Type 0)
making_needs b d = block_needs b ++ ((13, length d ≡ directory_length) ∷ [])

unfoldable pub MakesDirectory : List ℕ → List ℕ → (ℕ × List ℕ) → Type 0
MakesDirectory b d o = First (λ n. (n, d)) (making_needs b d) (λ o. (o.0 ≡ 0) × Own b o.1) o

-- M-106: "13, after 2, when the lent directory has the wrong length or is not the block's own".
unfoldable pub directory_needs : List ℕ → List ℕ → List (ℕ × Type 0)
directory_needs b d = block_needs b ++ ((13, Own b d) ∷ [])

-- A call to the block b by the directory d: 1, 2 and 13 come first, and then Call decides, the promise of the same call without a
-- directory. `refused` says what a refusal gives. M-106: "Answers through the directory are proved equal to answers without it".
unfoldable pub By : {O : Type 0} → List ℕ → List ℕ → (ℕ → O) → (O → Type 0) → O → Type 0
By b d refused Call o = First refused (directory_needs b d) Call o

-- The same of a call that changes the block: the number and the value, the block then, and the directory then. M-106: "A message or a
-- read keeps the directory true". A call that refuses leaves the block as it was, and a block has one directory, so that the directory is then
-- as it came too.
unfoldable pub KeptBy : List ℕ → List ℕ → (ℕ × ℕ × List ℕ → Type 0) → (ℕ × ℕ × List ℕ × List ℕ) → Type 0
KeptBy b d Call o = By b d (λ n. (n, 0, b, d)) (λ o. Call (o.0, o.1, o.2) × Own o.2 o.3) o

-- A message, plain or wide: it has the value 0.
unfoldable pub SendsBy : List ℕ → List ℕ → Sent → (ℕ × ℕ × List ℕ × List ℕ) → Type 0
SendsBy b d m o = KeptBy b d (λ o. (o.1 ≡ 0) × Sends b m (o.0, o.2)) o

-- message_by
abbrev pub MessageBy : List ℕ → List ℕ → List ℕ → (ℕ × ℕ × List ℕ × List ℕ) → Type 0
MessageBy b d m o = SendsBy b d (plain m) o

-- wide_by (M-100)
abbrev pub WideBy : List ℕ → List ℕ → List ℕ → (ℕ × ℕ × List ℕ × List ℕ) → Type 0
WideBy b d m o = SendsBy b d (wide m) o

-- read_by: the value is how many records the set has, or with 9 the place of the text.
unfoldable pub ReadBy : List ℕ → List ℕ → ℕ → ℕ → List ℕ → (ℕ × ℕ × List ℕ × List ℕ) → Type 0
ReadBy b d kind x text o = KeptBy b d (ReadsSet b kind x text) o

-- write_by: the number, the length of the text, and the output buffer then.
unfoldable pub WriteBy : List ℕ → List ℕ → ℕ → ℕ → List ℕ → (ℕ × ℕ × List ℕ) → Type 0
WriteBy b d kind x out o = By b d (λ n. (n, 0, out)) (WritesSet b kind x out) o

-- ---- what the answers of the code stand for

unfoldable pub WriteAnswersBy : List ℕ → List ℕ → ℕ → ℕ → List ℕ → Result ℕ Refusal → List ℕ → Type 0
WriteAnswersBy b d kind x out r out' = Means (λ n. n) 0 (λ o. WriteBy b d kind x out (o.0, o.1, out')) r

unfoldable pub ReadAnswersBy : List ℕ → List ℕ → ℕ → ℕ → List ℕ → Result ℕ ReadError → List ℕ → List ℕ → Type 0
ReadAnswersBy b d kind x text r b' d' = ReadMeans (λ o. ReadBy b d kind x text (o.0, o.1, b', d')) r
