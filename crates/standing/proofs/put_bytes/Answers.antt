-- `standing::put_bytes` meets its contract: the bytes passed are written.
use Rattle.std.proofs.Common.{ℕ, ◌+◌, ◌-◌, ◌≡◌, List, ◌++◌, take, drop, length, refl, arith}
use Rattle.std.proofs.lemmas.Grind.{common_steps}
use Rattle.std.proofs.lemmas.List.Edits.{sets-eq}
use Rattle.standing.proofs.put_bytes.Goals as goal

-- What lies behind the part is behind all that lies before it.
behind : (at n : ℕ) (out part : List ℕ) → take at out ++ (part ++ drop (at + n - at) (drop at out)) ≡ (take at out ++ part) ++ drop (at + n) out
behind at n out part = grind (arith, common_steps)

pub returns : goal.returns
returns c =
    record {
      ends = refl;
      buffer =
          rw (sets-eq c.args.bytes.now c.args.out.now c.args.at (omega arith), ← c.copy_from_slice.ensures.after)
          (behind c.args.at (length c.copy_from_slice.new.self) c.args.out.now c.copy_from_slice.new.self);
    }
