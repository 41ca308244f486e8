-- M-109: "each number at most four times the M records". A record is examined only where the mark of its key has a right that it had
-- not, and there are four.
use Prim.Native.Nat.{ℕ, suc, ◌+◌, ◌*◌, ◌≤◌}
use mathlib.Core.Path.{◌≡◌, subst}
use mathlib.Core.List.{List}
use mathlib.Core.Logic.{◌⊎◌, ⊎_elim}
use native.Mathlib.Omega.{arith}
use Rattle.index.specs.declared.Kind.TheVariants.{Membership}
use Rattle.index.specs.Letters.{right_count}
use Rattle.index.specs.Block.{size, key, Sized, Good}
use Rattle.rights.specs.Examined.{Mark, MarkBefore, Differs, HowMany, Examined, AtMostFourTimes}
use Rattle.rights.specs.Examined.HowMany.{none, one, other}
use Rattle.rights.specs.Examined.Examined.{before, round}
use Rattle.rights.proofs.laws.ByNumber.{no_more_members}
use Rattle.rights.proofs.laws.Counting.{at_most, count_none, count_one}
use Rattle.rights.proofs.laws.examined.ExaminedOnce.{never_less}

module _ (b : List ℕ) (s : ℕ) where
  -- Before round r, t rights have been seen in the marks of the first m records' keys, those of each key once for each record.
  data Seen (r : ℕ) : ℕ → ℕ → Type 1 where
    nothing : Seen r 0 0
    rights : {m t n : ℕ} (P : ℕ → Type 0) → ((k : ℕ) → P k → MarkBefore b s r (key b m) k) → HowMany P right_count n → Seen r m t
        → Seen r (suc m) (t + n)

  none_seen : (m : ℕ) → (t : ℕ) × Seen 0 m t
  none_seen ℕ.zero = (0, nothing)
  none_seen (suc m) =
      let w = none_seen m in
      (w.0 + 0, rights (λ k. ⊥) (λ k f. absurd f) (count_none (λ k. ⊥) right_count (λ k l f. f)) w.1)

  seen_few : {r m t : ℕ} → Seen r m t → t ≤ 4 * m
  seen_few nothing = omega arith
  seen_few (rights P i h w) = omega (arith, seen_few w, at_most h)

  -- For each record that round r examines it sees a right more.
  seen_more : {r m t c : ℕ} → Seen r m t → HowMany (λ i. Differs b s r (key b i)) m c → (t' : ℕ) × Seen (suc r) m t' × (t + c ≤ t')
  unfolding Differs MarkBefore
  seen_more nothing none = (0, nothing, omega arith)
  seen_more {r} (rights {m = m} {t = t} {n = n} P i h w) (one {n = c} d e) =
      let v = seen_more w e in
      let k = d.0 in (
        v.0 + suc n,
        rights (λ j. P j ⊎ (k ≡ j))
            (λ j p.
            ⊎_elim (λ q. never_less b s r (key b m) j (i j q)) (λ q. subst (λ (l : ℕ). Mark b s r (key b m) l) q d.2) p)
            (count_one k (λ p. d.3 (i k p)) d.1 h) v.1,
        omega (arith, v.2),
      )
  seen_more {r} (rights {m = m} {t = t} {n = n} P i h w) (other {n = c} d e) =
      let v = seen_more w e in
      (v.0 + n, rights P (λ j p. never_less b s r (key b m) j (i j p)) h v.1, omega (arith, v.2))

  seen_all : {r t : ℕ} → Examined b s r t → (t' : ℕ) × Seen r (size b Membership) t' × (t ≤ t')
  seen_all before = let w = none_seen (size b Membership) in (w.0, w.1, omega arith)
  seen_all (round {t = t} {n = n} e h) =
      let w = seen_all e in
      let v = seen_more w.1 h in
      (v.0, v.1, omega (arith, w.2, v.2))

  -- Over any number of rounds.
  pub examined_few : {r t : ℕ} → Examined b s r t → t ≤ 4 * size b Membership
  examined_few e = let w = seen_all e in omega (arith, w.2, seen_few w.1)

pub at_most_four_times : AtMostFourTimes
at_most_four_times b s t e = examined_few b s e

-- So where the block is good, no number is above 8,192.
pub examined_bound : {b : List ℕ} (s : ℕ) {r t : ℕ} → Sized b → Good b → Examined b s r t → t ≤ 8192
examined_bound {b} s sized g e = omega (arith, examined_few b s e, no_more_members sized g)
