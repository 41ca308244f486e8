-- What the doors to a record's numbers return: the number itself, or 0 past the last.
use Prim.Native.Nat.{ℕ, ◌<◌, ◌≤◌}
use mathlib.Core.Path.{◌≡◌, refl, ◌∙◌}
use native.Mathlib.Omega.{arith}
use borrow.Author.Tests.{lt-ltb, le-ltb}
use Rattle.anaqsiro.specs.Returned.{Packed, Returned, numbered}

module _ (i v : ℕ) where
  past_last : 65535 < i → 0 ≡ numbered i v
  past_last h = simp (le-ltb i 65536 (omega arith))

  up_to_last : i ≤ 65535 → v ≡ numbered i v
  up_to_last h = simp (lt-ltb i 65536 (omega arith))

  pub none_returned : {r : ℕ} → 65535 < i → Packed 0 0 r → Returned (λ n w. (n ≡ 0) × (w ≡ numbered i v)) r
  none_returned h p = (0, 0, p, (refl, past_last h))

  pub some_returned : {w r : ℕ} → i ≤ 65535 → w ≡ v → Packed 0 w r → Returned (λ n w. (n ≡ 0) × (w ≡ numbered i v)) r
  some_returned {w} h e p = (0, w, p, (refl, e ∙ up_to_last h))
