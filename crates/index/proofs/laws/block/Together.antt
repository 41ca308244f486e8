-- A block is good where its bytes, its header, its records and its end are.
use Prim.Native.Nat.{ℕ, ◌+◌, ◌<◌}
use mathlib.Core.List.{List}
use lib.ListN.{get_or}
use Rattle.index.specs.declared.Kind.{Kind}
use Rattle.index.specs.Block.{records, Of, place, Good}
use Rattle.index.specs.work.Places.{spot}
use Rattle.index.specs.work.Checks.{Header, Record, Zero}
use Rattle.index.proofs.laws.block.Records.{spot_before, kind_of_lem}

pub together : {b : List ℕ} → ((t : ℕ) → get_or b t 0 < 256) → Header b → ((K : Kind) (i : ℕ) → Of b K i → Record b K i)
    → ((K : Kind) (i : ℕ) → Of b K i → Of b K (i + 1) → spot b i < spot b (i + 1)) → Zero b (place (records b)) → Good b
together {b} bytes h each rise zero =
    let some : (i : ℕ) → i < records b → (K : Kind) × Record b K i =
    λ i l. let o = kind_of_lem b i l in (o.0, each o.0 i o.1) in
    record {
      bytes = bytes;
      zero_at_6 = h.zero_at_6;
      m_offset = h.m_offset;
      p_offset = h.p_offset;
      f_offset = h.f_offset;
      end_offset = h.end_offset;
      fits = h.fits;
      keys = λ i l. (some i l).1.key_below;
      ids = λ i l. (some i l).1.id_below;
      rising = λ K i o p. spot_before b i (i + 1) (each K (i + 1) p).id_below (rise K i o p);
      counted = λ i l. (some i l).1.counted;
      allowed = λ K i o. (each K i o).allowed;
      tail = zero;
    }
