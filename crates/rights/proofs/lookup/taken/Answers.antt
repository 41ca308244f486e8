-- `lookup::taken` meets its contract: the mask has the lower 16 bits, or only the next one.
use Prim.Native.Nat.{◌+◌, ◌-◌, ◌*◌, ◌/◌, ◌^◌}
use mathlib.Core.Path.{◌≡◌, ◌∙◌}
use native.Mathlib.Omega.{arith}
use lib.Bits.{and_mask, and_comm, and_shifted}
use Rattle.rights.specs.work.Lookup.{wide}
use Rattle.rights.proofs.lookup.taken.Goals as goal

pub returns : goal.returns
returns c =
    let step = c.args.step in
    let key = c.args.key in
    let name = c.args.name in (
      (λ less.
          let e : (key + wide * wide - name) / wide ≡ 2 ^ 16 - 1 = omega arith in
          rw e (and_mask step 16 ∙ omega arith)),
      (λ not-less.
          let e : (key + wide * wide - name) / wide ≡ 1 * 2 ^ 16 = omega arith in
          rw e (and_comm step (1 * 2 ^ 16) ∙ and_shifted 1 16 step (omega arith))),
    )
