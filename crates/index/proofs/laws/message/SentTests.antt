-- The tests of a message, plain or wide, in their order, and what follows where they have passed.
use Prim.Native.Nat.{ℕ, ◌≤◌}
use mathlib.Core.Path.{◌≡◌, refl}
use mathlib.Core.List.{List, [], ◌∷◌, ◌++◌}
use mathlib.Core.Logic.{inl, inr}
use native.Mathlib.Omega.{arith}
use lib.ListN.{length}
use Rattle.index.specs.Block.{greatest_length, Sized, Good}
use Rattle.index.specs.Numbers.{Answers, Each}
use Rattle.index.specs.Message.{Half, Named, Masked, changes, Carried}
use Rattle.index.specs.Wide.{Sent, previous_of, new_of, FormedOf}
use Rattle.index.specs.Calls.{block_needs, sent_needs, Sends}
use Rattle.index.specs.work.Edits.{Ready, Tested}
use Rattle.index.proofs.laws.Firsts.{All, passed, first_all, refuses, answers_first, answers_next}

-- The tests of the block come first, whatever follows.
pub block_late : (b : List ℕ) (ts : List (ℕ × Type 0)) {n : ℕ} (r : ℕ) → n ≡ 0 → Answers (block_needs b) n → Answers ts r
    → Answers (block_needs b ++ ts) r
unfolding block_needs
block_late b ts r e p a = answers_next (block_needs b) ts r (passed (block_needs b) (omega arith) e p) a

each_ready : (b : List ℕ) (hs : List Half) → length b ≤ greatest_length → Good b → Each Named hs → Each Masked hs → Each (λ h. Ready h b) hs
unfolding Named
each_ready b [] short good n m = tt
each_ready b (h ∷ hs) short good n m = (
  record { short = short; good = good; key_below = n.0.0; id_below = n.0.1; masked = m.0 },
  each_ready b hs short good n.1 m.1,
)

module _ (b : List ℕ) (s : Sent) where
  abbrev AllNamed : Type 0
  AllNamed = Each Named (previous_of s ++ new_of s)

  abbrev AllMasked : Type 0
  AllMasked = Each Masked (previous_of s ++ new_of s)

  -- Those of the message by itself.
  abbrev own_needs : List (ℕ × Type 0)
  own_needs = (3, FormedOf s) ∷ (4, AllNamed) ∷ (5, AllMasked) ∷ []

  -- ---- the number

  pub wrong_block : {n : ℕ} → (n ≡ 0 → ⊥) → Answers (block_needs b) n → Answers (sent_needs b s) n
  unfolding sent_needs
  wrong_block some a = answers_first (block_needs b) own_needs some a

  module _ {n : ℕ} (zero : n ≡ 0) (a : Answers (block_needs b) n) where
    late : (r : ℕ) → Answers own_needs r → Answers (sent_needs b s) r
    unfolding sent_needs
    late r = block_late b own_needs r zero a

    pub wrong_form : (FormedOf s → ⊥) → Answers (sent_needs b s) 3
    wrong_form w = late 3 (inl (w, refl))

    pub wrong_name : FormedOf s → (AllNamed → ⊥) → Answers (sent_needs b s) 4
    wrong_name f w = late 4 (inr (f, inl (w, refl)))

    pub wrong_mask : FormedOf s → AllNamed → (AllMasked → ⊥) → Answers (sent_needs b s) 5
    wrong_mask f n w = late 5 (inr (f, inr (n, inl (w, refl))))

    pub all_right : FormedOf s → AllNamed → AllMasked → Answers (sent_needs b s) 0
    all_right f n m = late 0 (inr (f, inr (n, inr (m, refl))))

  -- ---- what follows

  pub sent_refused : {r : ℕ} → (r ≡ 0 → ⊥) → Answers (sent_needs b s) r → Sends b s (r, b)
  unfolding Sends
  sent_refused some a = refuses (λ n. (n, b)) (Carried b (changes (previous_of s) (new_of s)) b) (sent_needs b s) some a

  module _ {r : ℕ} (zero : r ≡ 0) (a : Answers (sent_needs b s) r) where
    sent_passed : All (sent_needs b s)
    unfolding sent_needs block_needs
    sent_passed = passed (sent_needs b s) (omega arith) zero a

    pub sent_tested : Tested b s
    unfolding sent_needs block_needs Sized
    sent_tested =
        let p = sent_passed in
        record { formed = p.1.1.0; ready = each_ready b (previous_of s ++ new_of s) p.0.1 p.1.0 p.1.1.1.0 p.1.1.1.1.0 }

    pub sent_carried : (o : ℕ × List ℕ) → Carried b (changes (previous_of s) (new_of s)) b o → Sends b s o
    unfolding Sends
    sent_carried o = first_all (λ n. (n, b)) (Carried b (changes (previous_of s) (new_of s)) b) o (sent_needs b s) sent_passed
