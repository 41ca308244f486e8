-- Letter by letter, the counts are joined, and bit 16 tells of all.
use Prim.Native.Nat.{ℕ, zero, suc, ◌+◌, ◌≤◌, ◌<◌, ◌-◌, ◌/◌, ◌%◌}
use mathlib.Core.Path.{◌≡◌, refl}
use mathlib.Core.Logic.{◌↔◌}
use native.Mathlib.Omega.{arith}
use borrow.Author.Count.{below_more}
use Rattle.index.specs.Letters.{In}
use Rattle.index.specs.Block.{greatest_count}
use Rattle.index.proofs.laws.block.Masks.{in_and}
use Rattle.index.proofs.block.record.Record.allows.Goals as goal

-- A number that is 0 to 2 and odd is 1.
odd : (q : ℕ) → q ≤ 2 → q % 2 ≡ 1 → q ≡ 1
odd zero h e = absurd (omega arith)
odd (suc zero) h e = refl
odd (suc (suc q)) h e = absurd (omega arith)

-- A count with one more and one less is 0 to 65,535 just where it has bit 16 with 65,536.
within : (count more less : ℕ) → count ≤ greatest_count → more < 2 → less < 2
    → In 16 (65536 + count + more - less) ↔ ((less ≤ count + more) × (count + more ≤ greatest_count + less))
within count more less c m l =
    let q = (65536 + count + more - less) / 65536 in (
      (λ h. omega (arith, odd q (omega arith) h)),
      (λ h. let e : q ≡ 1 = omega arith in rw e refl),
    )

pub loop-k-preserved : goal.loop-k-preserved
loop-k-preserved c =
    let loop = c.loop-k in
    let own = 65536 + c.count.result + c.bit_of.result - c.bit_of-in-loop-k.result in
    let both = in_and loop.all own 16 in
    let fits = within c.count.result c.bit_of.result c.bit_of-in-loop-k.result (omega arith) (omega arith) (omega arith) in (
      (λ h. let p = both.0 h in below_more _ _ (loop.invariant.0 p.0) (omega (arith, fits.0 p.1))),
      (λ allowed.
          both.1 (loop.invariant.1 (λ n l. allowed n (omega arith)), fits.1 (omega (arith, allowed loop.k (omega arith))))),
    )
