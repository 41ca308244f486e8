-- Messages one after the other, to the end of the input.
use Prim.Native.Nat.{ℕ, ◌+◌, ◌<◌, ◌≤◌}
use native.Mathlib.Omega.{arith}
use mathlib.Core.Path.{◌≡◌}
use mathlib.Core.List.{List, [], ◌∷◌, ◌++◌}
use lib.ListN.{length, take, drop, drop_of_length-le, length-append}
use Rattle.std.proofs.Common.{append-nil, inl, inr}
use Rattle.std.specs.Io.KnownBytes.{IsAtEnd}
use Rattle.std.proofs.KnownBytes.{Consumes-nil, Consumes-trans, Appends-nil, Appends-trans}
use lib.Seq.{take_at, drop_at, take_all, length-take-le}
use Rattle.index.specs.Calls.{Message}
use Rattle.standing.specs.declared.Input.TheVariants as input
use Rattle.index.specs.Message.{message_length}
use Rattle.standing.specs.Printed.{refusal_line, Fed}
use Rattle.standing.specs.Printed.Fed.{done, piece}
use Rattle.standing.specs.Promised.{Taken, Streams, Passed, Came, Broken, last, Feeds, LedTo}
use Rattle.standing.specs.work.Room.{Usable}
use Rattle.standing.proofs.StaysUsable.{still_usable}

-- ---- what passed, one after the other

pub passed_none : (s : Streams) → Passed s s [] []
passed_none s = record { taken = Consumes-nil s.0; given = Appends-nil s.1 }

passed_then : {s s₁ s' : Streams} {read read' written written' : List ℕ} → Passed s s₁ read written → Passed s₁ s' read' written'
    → Passed s s' (read ++ read') (written ++ written')
passed_then p q = record { taken = Consumes-trans _ _ _ _ _ p.taken q.taken; given = Appends-trans _ _ _ _ _ p.given q.given }

-- ---- a message, and the rest after it

module _ {s s₁ : Streams} {b : List ℕ} {n : ℕ} {m line : List ℕ} {long : ℕ} {b₁ : List ℕ} (t : Taken b n m line long b₁) (p : Passed s s₁ m (take long line)) where
  line_passed : Passed s s₁ m (refusal_line n t.r)
  line_passed = rw t.handed.bytes at p

feeds_more : {s s₁ s' : Streams} {b : List ℕ} {n : ℕ} {m line : List ℕ} {long : ℕ} {b₁ b' : List ℕ} → n < last → length m ≡ message_length
    → Taken b n m line long b₁ → Passed s s₁ m (take long line) → Feeds s₁ s' b₁ (n + 1) b' → Feeds s s' b n b'
feeds_more {m = []} h e t p f = absurd (omega arith)
feeds_more {s} {s₁} {s'} {b} {n} {m = c ∷ m} {b₁ = b₁} {b' = b'} h e t p f =
    let input = (c ∷ m) ++ f.input in
    let q : Message b (take message_length input) (t.r, b₁) = rw (take_at (c ∷ m) f.input message_length e) t.message in
    let r : Fed b₁ (n + 1) (drop message_length input) f.lines b' = rw (drop_at (c ∷ m) f.input message_length e) f.fed in
    record {
      input = input;
      lines = refusal_line n t.r ++ f.lines;
      fed = piece t.r q r;
      passed = passed_then (line_passed t p) f.passed;
      whole = λ k. f.whole (omega (arith, length-append (c ∷ m) f.input));
    }

feeds_last : {s s' : Streams} {b : List ℕ} {n : ℕ} {m line : List ℕ} {long : ℕ} {b' : List ℕ} → 0 < length m → length m ≤ message_length
    → Taken b n m line long b' → Passed s s' m (take long line) → IsAtEnd s'.0 → Feeds s s' b n b'
feeds_last {m = []} l h t p e = absurd (omega arith)
feeds_last {s} {s'} {b} {n} {m = c ∷ m} {b' = b'} l h t p e =
    let q : Message b (take message_length (c ∷ m)) (t.r, b') = rw (take_all message_length (c ∷ m) h) t.message in
    let r : Fed b' (n + 1) (drop message_length (c ∷ m)) [] b' = rw (drop_of_length-le (c ∷ m) h) done in
    record {
      input = c ∷ m;
      lines = refusal_line n t.r ++ [];
      fed = piece t.r q r;
      passed = rw append-nil (line_passed t p);
      whole = λ k. e;
    }

-- The same of the block alone.
led_none : (b : List ℕ) (n : ℕ) → LedTo b n b
led_none b n = record { input = []; lines = []; fed = done }

led_more : {b : List ℕ} {n : ℕ} {m line : List ℕ} {long : ℕ} {b₁ b' : List ℕ} → length m ≡ message_length → Taken b n m line long b₁
    → LedTo b₁ (n + 1) b' → LedTo b n b'
led_more {m = []} e t f = absurd (omega arith)
led_more {b} {n} {m = c ∷ m} {b₁ = b₁} {b' = b'} e t f =
    let input = (c ∷ m) ++ f.input in
    let q : Message b (take message_length input) (t.r, b₁) = rw (take_at (c ∷ m) f.input message_length e) t.message in
    let r : Fed b₁ (n + 1) (drop message_length input) f.lines b' = rw (drop_at (c ∷ m) f.input message_length e) f.fed in
    record { input = input; lines = refusal_line n t.r ++ f.lines; fed = piece t.r q r }

led_last : {b : List ℕ} {n : ℕ} {m line : List ℕ} {long : ℕ} {b' : List ℕ} → 0 < length m → length m ≤ message_length → Taken b n m line long b' → LedTo b n b'
led_last {m = []} l h t = absurd (omega arith)
led_last {b} {n} {m = c ∷ m} {b' = b'} l h t =
    let q : Message b (take message_length (c ∷ m)) (t.r, b') = rw (take_all message_length (c ∷ m) h) t.message in
    let r : Fed b' (n + 1) (drop message_length (c ∷ m)) [] b' = rw (drop_of_length-le (c ∷ m) h) done in
    record { input = c ∷ m; lines = refusal_line n t.r ++ []; fed = piece t.r q r }

-- What holds in the loop: whatever feeds the rest ends the feeding of all.
pub record Feeding (s₀ s : Streams) (b₀ b : List ℕ) (n : ℕ) : Type 0 where
  pub usable : Usable b
  pub joins : (s' : Streams) (b' : List ℕ) → Feeds s s' b n b' → Feeds s₀ s' b₀ 1 b'
  pub leads : (b' : List ℕ) → LedTo b n b' → LedTo b₀ 1 b'

pub feeding_first : {s : Streams} {b : List ℕ} → Usable b → Feeding s s b b 1
feeding_first u = record { usable = u; joins = λ s' b' f. f; leads = λ b' f. f }

module _ {s₀ s : Streams} {b₀ b : List ℕ} {n : ℕ} (g : Feeding s₀ s b₀ b n) where
  pub feeding_over : last ≤ n → Feeds s₀ s b₀ 1 b
  feeding_over h = g.joins s b (record { input = []; lines = []; fed = done; passed = passed_none s; whole = λ k. absurd (omega arith) })

  module _ (s' : Streams) (m line b' : List ℕ) where
    pub feeding_more : n < last → length m ≡ message_length → Came s s' b n input.More m line b' → Feeding s₀ s' b₀ b' (n + 1)
    unfolding Came
    feeding_more h e (long, t, p) =
        record {
          usable = still_usable b m b' t.r t.message g.usable;
          joins = λ r d f. g.joins r d (feeds_more h e t p f);
          leads = λ d f. g.leads d (led_more e t f);
        }

    pub feeding_last : length m ≡ message_length → Came s s' b n input.Last m line b' → Feeds s₀ s' b₀ 1 b'
    unfolding Came
    feeding_last e (got, long, l, h, t, p, a) =
        let k = length-take-le got m (omega arith) in
        g.joins s' b' (feeds_last (omega arith) (omega arith) t p a)

    pub feeding_ended : Came s s' b n input.Ended m line b' → Feeds s₀ s' b₀ 1 b'
    unfolding Came
    feeding_ended (e, p, a) =
        g.joins s' b' (record { input = []; lines = []; fed = rw e done; passed = p; whole = λ k. a })

    -- A read or a write failed.
    pub feeding_broken : length m ≡ message_length → Broken b n m line b' → LedTo b₀ 1 b'
    unfolding Broken
    feeding_broken e (inl same) = g.leads b' (rw same (led_none b n))
    feeding_broken e (inr (got, long, l, h, t)) =
        let k = length-take-le got m (omega arith) in
        g.leads b' (led_last (omega arith) (omega arith) t)
