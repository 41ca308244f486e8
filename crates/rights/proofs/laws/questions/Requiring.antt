-- The requirements of a question, whichever is the last: the profile, or a limit.
use Prim.Native.Nat.{ℕ, suc, ◌^◌, ◌<◌, ◌≤◌}
use mathlib.Core.Path.{◌≡◌, refl}
use mathlib.Core.List.{List, [], ◌∷◌, ◌++◌}
use mathlib.Core.Logic.{inl, inr}
use native.Mathlib.Omega.{arith}
use Rattle.index.specs.Letters.{right_count}
use Rattle.index.specs.Numbers.{First, Answers}
use Rattle.index.specs.Block.{Sized, Good, IsName}
use Rattle.index.specs.Calls.{block_needs}
use Rattle.index.proofs.laws.Firsts.{All, passed, answers_next, without_last, refuses, refused_first, passed_first}
use Rattle.index.proofs.laws.OneFirst.{one_first}
use Rattle.rights.specs.Profiles.{ordinary, IsProfile}
use Rattle.rights.specs.Questions.{ask_needs, profile_needs, last_needs}

pub positive : (m : ℕ) → (m ≡ 0 → ⊥) → 0 < m
positive ℕ.zero ne = absurd (ne refl)
positive (suc m) ne = omega arith

-- What every question needs: 1 and 2 of the block, 4 of the names, 5 of the request.
pub record Asked (b : List ℕ) (u o request : ℕ) : Type 0 where
  pub sized : Sized b
  pub good : Good b
  pub user : IsName u
  pub object : IsName o
  pub some : 1 ≤ request
  pub small : request < 2 ^ right_count

abbrev pub every_needs : List ℕ → ℕ → ℕ → ℕ → List (ℕ × Type 0)
every_needs b u o request = block_needs b ++ ask_needs u o request

-- The tests of the block are passed, and others follow.
pub after_block : (b : List ℕ) (more : List (ℕ × Type 0)) (n : ℕ) → Answers (block_needs b) 0 → Answers more n → Answers (block_needs b ++ more) n
unfolding block_needs
after_block b more n told a = answers_next (block_needs b) more n (passed (block_needs b) (omega arith) refl told) a

-- The profile that is named in a call without one is the ordinary one.
pub without_profile : (u o request n : ℕ) → Answers (ask_needs u o request ++ profile_needs ordinary) n → Answers (ask_needs u o request) n
unfolding IsProfile
without_profile u o request n = without_last (λ n. n) (ask_needs u o request) (profile_needs ordinary) (λ n. n ≡ 0) n (inl refl, tt)

module _ (b : List ℕ) (u o request : ℕ) where
  all_asked : Asked b u o request → All (every_needs b u o request)
  unfolding block_needs
  all_asked h = (h.sized, (h.good, ((h.user, h.object), ((h.some, omega (arith, h.small)), tt))))

  -- ---- by the number of the first of them that does not hold

  pub every_asked : {n : ℕ} → n ≡ 0 → Answers (every_needs b u o request) n → Asked b u o request
  unfolding block_needs
  every_asked e a =
      let all = passed (every_needs b u o request) (omega arith) e a in
      record {
        sized = all.0;
        good = all.1.0;
        user = all.1.1.0.0;
        object = all.1.1.0.1;
        some = all.1.1.1.0.0;
        small = omega (arith, all.1.1.1.0.1);
      }

  -- There is no second such number.
  pub one_number : (n m : ℕ) → Answers (every_needs b u o request) n → Answers (every_needs b u o request) m → n ≡ m
  one_number = one_first (λ n. n) (every_needs b u o request) (λ n. n ≡ 0) (λ n m p q. omega (arith, p, q))

  module _ (number : ℕ) (Last : Type 0) where
    -- The tests of the block are passed, and then the others.
    pub asked : 0 < number → Sized b → Good b → {n : ℕ} → n ≡ 0 → Answers (ask_needs u o request ++ ((number, Last) ∷ [])) n
        → Asked b u o request × Last
    asked l sized good e a =
        let all = passed (ask_needs u o request ++ ((number, Last) ∷ [])) (omega arith, (omega arith, (l, tt))) e a in (
          record {
            sized = sized;
            good = good;
            user = all.0.0;
            object = all.0.1;
            some = all.1.0.0;
            small = omega (arith, all.1.0.1);
          },
          all.1.1.0,
        )

    -- ---- the outcome

    module _ {O : Type 0} (refusal : ℕ → O) (accepted : O → Type 0) where
      -- One is not met, by the number of the first: of those of every question, of the last, of all after those of the block, of the block's alone.
      pub refused_every : {n : ℕ} → (n ≡ 0 → ⊥) → Answers (every_needs b u o request) n
          → First refusal (last_needs b u o request number Last) accepted (refusal n)
      unfolding block_needs
      refused_every {n} some a = refused_first refusal (every_needs b u o request) ((number, Last) ∷ []) accepted n (omega (arith, some)) a

      pub refused_after : Asked b u o request → {n : ℕ} → (n ≡ 0 → ⊥) → Answers ((number, Last) ∷ []) n
          → First refusal (last_needs b u o request number Last) accepted (refusal n)
      unfolding block_needs
      refused_after h {n} some a =
          passed_first refusal (every_needs b u o request) ((number, Last) ∷ []) accepted (refusal n) (all_asked h)
          (refuses refusal accepted ((number, Last) ∷ []) some a)

      pub refused : Sized b → Good b → {n : ℕ} → (n ≡ 0 → ⊥) → Answers (ask_needs u o request ++ ((number, Last) ∷ [])) n
          → First refusal (last_needs b u o request number Last) accepted (refusal n)
      unfolding block_needs
      refused sized good {n} some a =
          passed_first refusal (block_needs b) (ask_needs u o request ++ ((number, Last) ∷ [])) accepted (refusal n) (sized, (good, tt))
          (refuses refusal accepted (ask_needs u o request ++ ((number, Last) ∷ [])) some a)

      pub refused_block : {n : ℕ} → (n ≡ 0 → ⊥) → Answers (block_needs b) n → First refusal (last_needs b u o request number Last) accepted (refusal n)
      refused_block {n} some a =
          refused_first refusal (block_needs b) (ask_needs u o request ++ ((number, Last) ∷ [])) accepted n (omega (arith, some)) a

      -- All are met.
      pub accepts : (out : O) → Asked b u o request → Last → accepted out → First refusal (last_needs b u o request number Last) accepted out
      unfolding block_needs
      accepts out h last ok =
          passed_first refusal (every_needs b u o request) ((number, Last) ∷ []) accepted out (all_asked h) (inr (last, ok))
