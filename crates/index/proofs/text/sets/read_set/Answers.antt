-- `index::text::sets::read_set` meets its contract: a splice in the place of the old set, filled with the new one.
use Prim.Native.Nat.{ℕ, ◌+◌, ◌*◌, ◌-◌, ◌≤◌}
use mathlib.Core.Path.{◌≡◌, sym, ◌∙◌}
use mathlib.Core.List.{List}
use native.Mathlib.Omega.{arith}
use lib.ListN.{length}
use borrow.Author.Tests.{leb-true, leb-false}
use Rattle.std.specs.Prelude.{Ok}
use Rattle.index.specs.declared.Kind.{Kind}
use Rattle.index.specs.Numbers.{Answers}
use Rattle.index.specs.Block.{name_count, greatest_length, place, records, room, Sized}
use Rattle.index.specs.Text.{Writes}
use Rattle.index.specs.Calls.{set_needs}
use Rattle.index.specs.work.Pieces.{Scanned}
use Rattle.index.specs.work.Edits.{Lowest, Opens}
use Rattle.index.proofs.laws.block.Records.{gap_in}
use Rattle.index.proofs.laws.text.ReadSets.{set_few}
use Rattle.index.proofs.laws.text.SetRange.{bounds, set_long}
use Rattle.index.proofs.laws.text.SetCalls.{Held, held, set_held, took_refused, took_wrong, took_full, took_set}
use Rattle.index.proofs.laws.text.Replacing.{replaced}
use Rattle.std.proofs.lemmas.Result.{err_from_is_err_and}
use Rattle.index.proofs.text.sets.read_set.Goals as goal

-- The tests are passed.
ready : {b : List ℕ} {kind x : ℕ} → Answers (set_needs b kind x) 0 → Held b kind x
ready a = held _ _ _ (set_held _ _ _ a)

-- A text has few records.
few : (K : Kind) (text : List ℕ) (n : ℕ) → Scanned K text (Ok n) → n ≤ name_count
unfolding Writes
few K text n s = let (es, w, e) = s in omega (arith, set_few w.0)

-- The old set stands between two places.
module _ {good b : List ℕ} {kind x : ℕ} (ready : Held b kind x) (same : good ≡ b) (K : Kind) (y lo hi : ℕ) (first : Lowest good K (name_count * y) lo) (last : Lowest good K (name_count * (y + 1)) hi) where
  low : Lowest b K (name_count * y) lo
  low = rw same at first

  high : Lowest b K (name_count * (y + 1)) hi
  high = rw same at last

  within : (lo ≤ hi) × (hi ≤ records b) × (place (records b) ≤ length b) × (length b ≤ greatest_length)
  unfolding Sized
  within = (bounds ready.good K y lo hi low high, gap_in K b hi high.high, ready.good.fits, ready.sized.1)

  opens : (n : ℕ) → records b + n ≤ room b + (hi - lo) → Opens K lo (hi - lo) n b
  unfolding room
  opens n r =
      let w = within in
      record {
        short = w.3;
        good = ready.good;
        low = low.low;
        high = omega (arith, high.high);
        inside = omega arith;
        room = omega arith;
      }

pub returns-in_err-good : goal.returns-in_err-good
returns-in_err-good c =
    let r = err_from_is_err_and c.from_residual.result c.from_residual.ensures.1 in
    rw (r.1, r.2) (took_refused _ _ _ _ _ c.in_err-good.ensures.number)

pub returns-in-Err : goal.returns-in-Err
returns-in-Err c =
    let s = set_held _ _ _ c.in_ok-good.ensures.number in
    took_wrong _ _ _ _ s _ c.in_ok-good.ensures.read.1 _ c.in-Err.ensures

pub overflow_mul-key : goal.overflow_mul-key
overflow_mul-key c = omega (arith, (ready c.in_ok-good.ensures.number).named, c.in_ok-good.ensures.read.2)

pub invariant_of-has_room : goal.invariant_of-has_room
unfolding Sized
invariant_of-has_room c = record { headed = (ready c.in_ok-good.ensures.number).sized.0 }

pub has_room-requires : goal.has_room-requires
has_room-requires c =
    let w = within (ready c.in_ok-good.ensures.number) c.in_ok-good.ensures.read.0 c.in_ok-good.kind _ _ _ c.place_of-first.ensures c.end_of.ensures in
    omega (arith, w, few _ _ c.in-Ok.n c.in-Ok.ensures)

pub splice-requires : goal.splice-requires
splice-requires c =
    opens (ready c.in_ok-good.ensures.number) c.in_ok-good.ensures.read.0 c.in_ok-good.kind _ _ _ c.place_of-first.ensures c.end_of.ensures _
    (leb-true _ _ (sym c.has_room.ensures ∙ c.if-not-has_room.false))

pub returns-then-not-has_room : goal.returns-then-not-has_room
returns-then-not-has_room c =
    let s = set_held _ _ _ c.in_ok-good.ensures.number in
    let e = c.in_ok-good.ensures.read in
    took_full _ _ _ _ s _ e.1 c.in-Ok.ensures
    (set_long (held _ _ _ s).good _ _ _ _ (rw (e.0, e.2) at c.place_of-first.ensures) (rw (e.0, e.2) at c.end_of.ensures))
    (leb-false _ _ (sym c.has_room.ensures ∙ c.if-not-has_room.true))

pub returns : goal.returns
unfolding Writes
returns c =
    let s = set_held _ _ _ c.in_ok-good.ensures.number in
    let h = held _ _ _ s in
    let e = c.in_ok-good.ensures.read in
    let low = rw (e.0, e.2) at c.place_of-first.ensures in
    let high = rw (e.0, e.2) at c.end_of.ensures in
    took_set _ _ _ _ s _ e.1 c.in-Ok.ensures (set_long h.good _ _ _ _ low high) (leb-true _ _ (sym c.has_room.ensures ∙ c.if-not-has_room.false))
    (λ es w q. replaced h.good _ _ _ _ low high es w.0 h.named _ q c.splice.ensures (rw e.2 at (c.fill.ensures es w)) (λ t. omega (arith, c.type_inv.block t)))

pub fill-requires : goal.fill-requires
unfolding room
fill-requires c =
    let s = ready c.in_ok-good.ensures.number in
    let w = within s c.in_ok-good.ensures.read.0 c.in_ok-good.kind _ _ _ c.place_of-first.ensures c.end_of.ensures in
    let r = leb-true _ _ (sym c.has_room.ensures ∙ c.if-not-has_room.false) in
    record {
      key_bound = (omega (arith, s.named, c.in_ok-good.ensures.read.2), omega (arith, c.splice.ensures.same_length));
      scanned = c.in-Ok.ensures;
    }
