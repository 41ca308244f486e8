-- `lookup::end_of` meets its contract: on from the first. The loop's invariant: the records passed are the name's.
use Rattle.std.proofs.Common.{ℕ, ◌+◌, ◌%◌, ◌≡◌, ◌<◌, List, sym, ◌∙◌, inr, arith}
use Rattle.index.specs.declared.Kind.{Kind}
use Rattle.index.specs.Block.{from, size, key, Good}
use Rattle.index.specs.Calls.{PairOf}
use Rattle.index.proofs.laws.block.Records.{gap_in}
use Rattle.directory.proofs.Numbered.{pair_key}
use Rattle.rights.proofs.laws.Known.{is_good}
use Rattle.rights.proofs.laws.walk.Looking.{own_more, keyed}
use Rattle.rights.proofs.lookup.end_of.Goals as goal

-- The key of the record at hand, before the end of the part.
key_at : {b : List ℕ} {i end pair : ℕ} → Good b → (kind : Kind) → end ≡ from b kind + size b kind → i < end → PairOf b i pair → pair % 65536 ≡ key b i
key_at {b} g kind last l told = pair_key g (omega (arith, l, last, gap_in kind b (from b kind + size b kind) (omega arith))) told

pub loop-end-preserved : goal.loop-end-preserved
loop-end-preserved c =
    let is_key = key_at (is_good c.args.block) c.args.kind c.part_of-part.ensures.last c.loop-end-test.true c.pair_of.ensures in
    own_more _ _ _ _ c.loop-end.invariant (sym is_key ∙ c.if-pair_of-name.false)

-- At a record of another name.
pub returns-then-pair_of-name : goal.returns-then-pair_of-name
returns-then-pair_of-name c =
    let last = c.part_of-part.ensures.last in
    let is_key = key_at (is_good c.args.block) c.args.kind last c.loop-end-test.true c.pair_of.ensures in
    keyed c.args.kind c.args.name c.args.from c.loop-end.end c.requires.1 (is_good c.args.block) (omega arith) (omega (arith, last))
    c.loop-end.invariant (inr (λ e. c.if-pair_of-name.true (is_key ∙ e)))
