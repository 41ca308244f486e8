-- 01, "The message", last paragraph, 02, M-100, and demand 3; M-107: "a half's marker is part of what a statement leaves and has to
-- quote, and demand 3 counts it as a letter".
use Rattle.std.specs.Prelude.{ℕ, ◌+◌, ◌<◌, ◌≡◌, cond, List, [], ◌∷◌, eqb}
use Rattle.index.specs.declared.Kind.{Kind}
use Rattle.index.specs.Message.{Half, moves}
use Rattle.index.specs.Wide.{Sent, previous_of, new_of}
use Rattle.index.specs.Calls.{Sends}

-- M-100: "Demand 3 reads over lists of wide and plain messages mixed". "accepted without a refusal": all messages, one after the other, and
-- the block goes from b to b'.
pub data Accepted : List ℕ → List Sent → List ℕ → Type 0 where
  nothing : {b : List ℕ} → Accepted b [] b
  next : {b b₁ b' : List ℕ} {m : Sent} {ms : List Sent} → Sends b m (0, b₁) → Accepted b₁ ms b' → Accepted b (m ∷ ms) b'

-- "a list of messages only, with no read between, each labelled with the statement it speaks for"
pub record Labelled : Type 0 where
  pub label : ℕ
  pub sent : Sent

-- "What it left is the new half of its last accepted message, or nothing if that had no new half or there is none yet." "It
-- stands while it has something left."
pub record Statement : Type 0 where
  pub label : ℕ
  pub halves : List Half

-- What the statement with the label l has left.
unfoldable pub left : ℕ → List Statement → List Half
left l [] = []
left l (e ∷ s) = cond (eqb e.label l) e.halves (left l s)

unfoldable pub others : ℕ → List Statement → List Statement
others l [] = []
others l (e ∷ s) = cond (eqb e.label l) (others l s) (e ∷ others l s)

-- After the message m was accepted its own statement has left its new half, the others what they had.
unfoldable pub after : Labelled → List Statement → List Statement
after m s = record { label = m.label; halves = new_of m.sent } ∷ others m.label s

-- "every message quotes as its previous state just what the last accepted message of the same statement left"; "with
-- nothing left, the previous half is absent". A refused message changes nothing and may stand anywhere.
pub data History : List ℕ → List Statement → List Labelled → List ℕ → List Statement → Type 0 where
  nothing : {b : List ℕ} {s : List Statement} → History b s [] b s
  accepted : {b b₁ b' : List ℕ} {s s' : List Statement} {m : Labelled} {ms : List Labelled} → Sends b m.sent (0, b₁)
      → previous_of m.sent ≡ left m.label s → History b₁ (after m s) ms b' s' → History b s (m ∷ ms) b' s'
  refused : {b b' : List ℕ} {s s' : List Statement} {m : Labelled} {ms : List Labelled} {r : ℕ} → 0 < r
      → Sends b m.sent (r, b) → History b s ms b' s' → History b s (m ∷ ms) b' s'

-- "the number of statements standing at that moment with that record and that letter". M-100: "a wide statement counts once in each of its
-- pairs". (The pairs of an accepted message are all different, so that it counts in none twice: laws/demands/Pairs.)
unfoldable pub moves_of : List Half → Kind → ℕ → ℕ → ℕ → ℕ
moves_of [] kind x y k = 0
moves_of (h ∷ hs) kind x y k = moves h kind x y k + moves_of hs kind x y k

unfoldable pub tally : List Statement → Kind → ℕ → ℕ → ℕ → ℕ
tally [] kind x y k = 0
tally (e ∷ s) kind x y k = moves_of e.halves kind x y k + tally s kind x y k
