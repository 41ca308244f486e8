-- `filter::filter_of` meets its contract. The loop's invariant: what the object's own F records let through, narrowed by those of
-- the groups of the M records before i.
use Rattle.std.proofs.Common.{ℕ, ◌≤◌, ◌≡◌, ◌⊎◌, List, inl, inr}
use Rattle.index.specs.declared.Kind.TheVariants.{Membership}
use Rattle.index.specs.Letters.{Mask}
use Rattle.index.specs.Block.{Good}
use Rattle.index.proofs.laws.block.Masks.{in_all, mask_map}
use Rattle.directory.specs.declared.Span.{Span}
use Rattle.rights.specs.Held.{Passes}
use Rattle.rights.specs.work.Lookup.{Keyed, Lets, LetsBy}
use Rattle.rights.proofs.laws.held.Filters.{passes}
use Rattle.rights.proofs.laws.held.Sifting.{Sifted, sifted_none, sifted_all}
use Rattle.rights.proofs.laws.Known.{is_good}
use Rattle.rights.proofs.filter.filter_of.Goals as goal

pub loop-i-init : goal.loop-i-init
loop-i-init c =
    let own = mask_map c.narrowed-left.ensures _ (λ k h. ((λ p. p.0), (λ l. (l, in_all k h)))) in
    sifted_none c.records_of-groups.result own c.records_of-groups.ensures

pub narrowed_by-left-requires : goal.narrowed_by-left-requires
narrowed_by-left-requires c =
    let loop = c.loop-i in
    let of = ((c.records_of-groups.ensures loop.i).0 (loop.invariant.low, c.loop-i-test.true)).0 in
    (of, loop.invariant.rights.0)

-- The loop is left once all groups were seen, or nothing is left.
ended : {b : List ℕ} {object i left : ℕ} (g : Good b) (groups : Span) → Sifted b Membership object (LetsBy b) (Lets b object) groups.from i left
    → Keyed b Membership object groups → (groups.end ≤ i) ⊎ (left ≡ 0) → Mask left (Passes b object)
ended {object = object} g groups sifted keyed seen = mask_map (sifted_all groups sifted keyed seen) _ (λ k h. passes g k object)

pub returns-after-loop-i : goal.returns-after-loop-i
returns-after-loop-i c = ended (is_good c.args.source.now.block) c.records_of-groups.result c.loop-i.invariant c.records_of-groups.ensures (inl c.loop-i-test.false)

pub returns-then-left-eq0 : goal.returns-then-left-eq0
returns-then-left-eq0 c = ended (is_good c.args.source.now.block) c.records_of-groups.result c.loop-i.invariant c.records_of-groups.ensures (inr c.if-left-eq0.true)
