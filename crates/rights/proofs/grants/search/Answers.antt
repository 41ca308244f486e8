-- `grants::search` meets its contract. The invariant of both loops: what was searched up to the name and the record at hand.
use Rattle.std.proofs.Common.{◌≡◌, ℕ, ◌+◌, ◌<◌, ◌/◌, ◌%◌, List, bit_and, bit_or, refl, ◌∙◌, arith}
use lib.ListN.{get_or}
use Rattle.index.specs.declared.Kind.TheVariants.{Permission}
use Rattle.index.specs.Letters.{In, Mask}
use Rattle.index.specs.Block.{from, size, Good, Of, key, NetAt}
use Rattle.index.specs.Calls.{PairOf}
use Rattle.index.proofs.laws.block.Records.{of_records}
use Rattle.directory.proofs.Numbered.{keys_rise, pair_key, pair_id}
use Rattle.rights.specs.declared.Profile.{Profile}
use Rattle.rights.specs.work.Between.{BarsAt}
use Rattle.rights.proofs.laws.held.Granting.{Searched, next_name, next_record, skip_record, seen_all, fixed_all}
use Rattle.rights.proofs.laws.Known.{is_good}
use Rattle.rights.proofs.grants.search.Goals as goal
use Rattle.rights.proofs.grants.search.Goals.{then-g-key-2+else-fixed-request, else-g-key-2, else-loop-i-test, then-loop-i-test+then-g-key, else-search-test, then-search-test+else-mark-eq0+then-loop-i-test+else-g-key+then-g-key-2+then-fixed-request}

-- The P record at hand, before the end of the part, and its pair; what was searched up to it.
module _ {p : Profile} {b us os : List ℕ} {q x i found barred end pair : ℕ} (g : Good b) (is_end : end ≡ from b Permission + size b Permission)
    (s : Searched p b us os q x i found barred) (l : i < end) (told : PairOf b i pair) where
  of : Of b Permission i
  of = (s.low, omega arith)

  is_key : pair % 65536 ≡ key b i
  is_key = pair_key g (of_records Permission b i of) told

  -- It is of the name.
  here : {v w : ℕ} → x ≡ pair % 65536 → Mask v (λ k. NetAt b i k × In k (bit_and (bit_and (get_or os x 0) (get_or us (pair / 65536) 0)) q))
      → Mask w (λ k. BarsAt p b i k × In k (bit_and (bit_and (get_or os x 0) (get_or us (pair / 65536) 0)) q))
      → Searched p b us os q x (i + 1) (bit_or found v) (bit_or barred w)
  here e = next_record s of (e ∙ is_key) (pair_id g (of_records Permission b i of) told)

pub loop-i-preserved : goal.loop-i-preserved
loop-i-preserved c =
    let g = is_good c.args.block in
    let last = c.part_of-part.ensures.last in
    let s = c.loop-i.invariant.1 in
    let l = c.loop-i-test.true in
    let told = c.pair_of-pair.ensures in (
      refl,
      elim c.if-g-key-2.branch [
        | then-g-key-2+else-fixed-request w ↦
            rw (w.found-is, w.barred-is) (here g last s l told w.if-g-key-2.true w.grant-found.ensures w.bar-barred.ensures)
        | else-g-key-2 w ↦
            rw (w.found-is, w.barred-is)
            (skip_record s (of g last s l told) (omega (arith, is_key g last s l told, c.if-g-key.false, w.if-g-key-2.false)))
      ],
    )

pub search-preserved : goal.search-preserved
search-preserved c =
    let g = is_good c.args.block in
    let last = c.part_of-part.ensures.last in
    let s = c.loop-i.invariant.1 in
    rw c.loop-i.invariant.0
    (next_name s
    (λ j later l e.
    absurd
    (elim c.loop-i-test.branch [
      | else-loop-i-test w ↦ omega (arith, later.1, w.loop-i-test.false, last)
      | then-loop-i-test+then-g-key w ↦
          let told = w.pair_of-pair.ensures in
          let at = w.loop-i-test.true in
          omega (arith, is_key g last s at told, w.if-g-key.true, keys_rise g Permission c.loop-i.i j l (of g last s at told) later)
    ])))

-- Where the search ends: all names were seen, or no later record can change a right requested.
pub overflow_sub-result : goal.overflow_sub-result
overflow_sub-result c =
    elim c.search-test.branch [
      | else-search-test w ↦ omega (arith, w.barred-is, c.search.invariant.denied.mask.0)
      | then-search-test+else-mark-eq0+then-loop-i-test+else-g-key+then-g-key-2+then-fixed-request w ↦
          let s = here (is_good c.args.block) c.part_of-part.ensures.last w.loop-i.invariant.1 w.loop-i-test.true w.pair_of-pair.ensures w.if-g-key-2.true
          w.grant-found.ensures w.bar-barred.ensures in
          omega (arith, w.barred-is, s.denied.mask.0)
    ]

pub returns : goal.returns
returns c =
    elim c.search-test.branch [
      | else-search-test w ↦
          rw (w.found-is, w.barred-is)
          (seen_all c.search.invariant (is_good c.args.block) (λ j of. omega (arith, (c.names_granted_on-names.ensures.within j of).1, w.search-test.false)))
      | then-search-test+else-mark-eq0+then-loop-i-test+else-g-key+then-g-key-2+then-fixed-request w ↦
          let s = here (is_good c.args.block) c.part_of-part.ensures.last w.loop-i.invariant.1 w.loop-i-test.true w.pair_of-pair.ensures w.if-g-key-2.true
          w.grant-found.ensures w.bar-barred.ensures in
          rw (w.found-is, w.barred-is) (fixed_all s (is_good c.args.block) (rw (← w.fixed.ensures) w.if-fixed-request.true))
    ]
