-- M-101: reading is wrong at the place of a text; every text has a place, and one only.
use Prim.Native.Nat.{ℕ, suc, ◌-◌, ◌+◌, ◌<◌, ◌≤◌}
use mathlib.Core.Path.{◌≡◌, refl, sym, ap, ◌∙◌, subst}
use mathlib.Core.List.{List, [], ◌∷◌, ◌++◌, append_assoc, append-nil}
use mathlib.Core.Logic.{⊎_elim}
use lib.ListN.{length, take, length-append}
use lib.Seq.{take_at, take-append-add, take-length}
use native.Mathlib.Omega.{arith}
use Rattle.index.specs.declared.Kind.{Kind}
use Rattle.index.specs.Text.{Entry, Writes, Begins, Place}
use Rattle.index.specs.work.Reading.{Parsed, parse}
use Rattle.index.specs.work.Reading.Parsed.{got, wrong}
use Rattle.index.proofs.laws.Range.{lt_or_le}
use Rattle.index.proofs.laws.text.Readers.{Tells}
use Rattle.index.proofs.laws.text.SetReader.{parse_reader, parse_sound}
use Rattle.index.proofs.laws.text.TextOnce.{parse_wrong}

-- A text that goes on with the byte at which reading is wrong is of no set, whatever follows.
dead : (kind : Kind) (t s : List ℕ) → Tells (List Entry) (parse kind) (Writes kind) t (wrong s) → (m : ℕ) → length t - length s < m
    → m ≤ length t → Begins kind (take m t) → ⊥
unfolding Begins
dead kind t [] l m h k b = omega arith
dead kind t (c ∷ r) l m h k (es, more, w) =
    let u = l.read in
    let n : ℕ = m - length u - 1 in
    let z : length t ≡ length u + length (c ∷ r) = ap length l.split ∙ length-append u (c ∷ r) in
    let y : m ≡ length u + suc n = omega arith in
    let x : take m t ≡ u ++ (c ∷ take n r) =
    ap (take m) l.split ∙ ap (λ (k : ℕ). take k (u ++ (c ∷ r))) y ∙ take-append-add u (c ∷ r) (suc n) in
    let v : take m t ++ more ≡ u ++ (c ∷ (take n r ++ more)) = ap (λ (z : List ℕ). z ++ more) x ∙ append_assoc u (c ∷ take n r) more in
    parse_wrong kind (u ++ (c ∷ (take n r ++ more))) (l.same (c ∷ (take n r ++ more)) refl) es (subst (Writes kind es) v w)

pub wrong_place : (kind : Kind) (t : List ℕ) {s : List ℕ} → parse kind t ≡ wrong s → Place kind t (length t - length s)
unfolding Begins
wrong_place kind t {s} e =
    let l = subst (λ (x : Parsed (List Entry)). Tells (List Entry) (parse kind) (Writes kind) t x) e (parse_reader kind t) in
    let z : length t ≡ length l.read + length s = ap length l.split ∙ length-append l.read s in
    let x : take (length t - length s) t ≡ l.read =
    ap (take (length t - length s)) l.split ∙ take_at l.read s (length t - length s) (omega arith) in
    record {
      within = omega arith;
      begins = subst (Begins kind) (sym x) l.means;
      longest = dead kind t s l;
    }

pub place_once : (kind : Kind) (t : List ℕ) (m n : ℕ) → Place kind t m → Place kind t n → m ≡ n
place_once kind t m n p q =
    let l : m ≤ n = go m n p q in
    let h : n ≤ m = go n m q p in
    omega arith
  where
    go : (m n : ℕ) → Place kind t m → Place kind t n → m ≤ n
    go m n p q = ⊎_elim (λ l. absurd (q.longest m l p.within p.begins)) (λ l. l) (lt_or_le n m)

-- The text of a set is right to its end.
whole_place : (kind : Kind) (t : List ℕ) (es : List Entry) → Writes kind es t → Place kind t (length t)
unfolding Begins
whole_place kind t es w =
    record {
      within = omega arith;
      begins = subst (Begins kind) (sym (take-length t)) (es, [], subst (Writes kind es) (sym (append-nil t)) w);
      longest = λ m l h b. omega arith;
    }

pub one_place : (kind : Kind) (t : List ℕ) → (n : ℕ) × Place kind t n × ((m : ℕ) → Place kind t m → m ≡ n)
one_place kind t = go (parse kind t) refl
  where
    alone : (n : ℕ) → Place kind t n → (n : ℕ) × Place kind t n × ((m : ℕ) → Place kind t m → m ≡ n)
    alone n p = (n, p, λ m q. place_once kind t m n q p)

    go : (r : Parsed (List Entry)) → parse kind t ≡ r → (n : ℕ) × Place kind t n × ((m : ℕ) → Place kind t m → m ≡ n)
    go (got es s) e = alone (length t) (whole_place kind t es (parse_sound kind t e))
    go (wrong s) e = alone (length t - length s) (wrong_place kind t e)
