-- `standing::read_full` meets its contract: what was read before, and what this read gave.
use Rattle.std.proofs.Common.{sym, subst, rules}
use Rattle.std.specs.Io.KnownBytes.{Consumes}
use Rattle.std.proofs.KnownBytes.{Consumes-trans}
use Rattle.standing.proofs.Filling.{take_filled}
use Rattle.standing.proofs.read_full.Goals as goal

pub loop-got-preserved : goal.loop-got-preserved
loop-got-preserved g c =
    let l = c.loop-got in
    let read = c.in_ok-more.ensures in (
      search rules,
      subst (Consumes _ _) (sym (take_filled l.got _ c.in_ok-more.more l.buffer c.read.new.buf l.invariant.0 read.bound.0))
          (Consumes-trans _ _ _ _ _ l.invariant.1 read.bytes.0),
    )
