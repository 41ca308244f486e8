-- For each input there is one output only.
use Prim.Native.Nat.{ℕ}
use mathlib.Core.Path.{◌≡◌, refl, sym, ap, ◌∙◌}
use mathlib.Core.List.{List}
use lib.ListN.{length}
use native.Mathlib.Omega.{arith}
use Rattle.index.specs.Block.{greatest_length, Sized}
use Rattle.index.specs.Calls.{Made, Makes, make_needs}
use Rattle.index.proofs.laws.Firsts.{first_all}
use Rattle.index.proofs.laws.demands.OneCall.{one_make}
use Rattle.index.proofs.laws.message.OneMessage.{one_sent}
use Rattle.standing.specs.Printed.{Fed, Prints}
use Rattle.standing.specs.Printed.Fed.{done, piece}
use Rattle.standing.proofs.StaysUsable.{is_made}

-- Any block of the greatest length is made the same.
one_made : (b d b' d' : List ℕ) → length b ≡ greatest_length → length d ≡ greatest_length → Makes b (0, b') → Makes d (0, d') → b' ≡ d'
unfolding Makes make_needs Sized
one_made b d b' d' l k p q =
    let m = is_made b b' 0 l p in
    let r : Makes d (0, b') =
    first_all (λ n. (n, d)) (Made d) (0, b') (make_needs d) ((omega arith, omega arith), tt) (m.0, m.1, m.2 ∙ l ∙ sym k, m.3) in
    ap (λ (o : ℕ × List ℕ). o.1) (one_make d (0, b') (0, d') r q)

one_fed : {b d : List ℕ} {n : ℕ} {input lines b' lines' d' : List ℕ} → b ≡ d → Fed b n input lines b' → Fed d n input lines' d'
    → (lines ≡ lines') × (b' ≡ d')
one_fed e done done = (refl, e)
one_fed e (piece r p f) (piece s q g) =
    let o = one_sent _ _ _ _ (rw e at p) q in
    let h = one_fed (ap (λ (o : ℕ × List ℕ). o.1) o) f g in
    (rw (ap (λ (o : ℕ × List ℕ). o.0) o, h.0), h.1)

pub one_print : {input out out' : List ℕ} → Prints input out → Prints input out' → out ≡ out'
one_print p q =
    let e = one_made p.before q.before p.block q.block p.long q.long p.made q.made in
    let h = one_fed e p.fed q.fed in
    p.printed ∙ rw (h.0, h.1, ← q.printed)
