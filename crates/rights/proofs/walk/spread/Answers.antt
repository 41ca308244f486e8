-- `walk::spread` meets its contract. The loop's invariant: what the records of the names before and those of this one up to i
-- bring, and the names whose marks have grown.
use Rattle.std.proofs.Common.{ℕ, ◌+◌, ◌%◌, ◌/◌, ◌≡◌, ◌<◌, ◌≤◌, ◌⊎◌, List, length, get_or, set, bit_or, bit_and, length-set, sym, subst, ◌∙◌, inl, inr, arith}
use lib.Bits.{or_add_and, and_le_r}
use Rattle.index.specs.declared.Kind.TheVariants.{Membership}
use Rattle.index.specs.Block.{Good, IsName, size, Of, key, id}
use Rattle.index.specs.Calls.{PairOf}
use Rattle.index.proofs.laws.block.Records.{of_records}
use Rattle.directory.proofs.Numbered.{id_name, pair_key, pair_id}
use Rattle.rights.specs.declared.walk.Carry.{Carry}
use Rattle.rights.specs.work.Fronts.{Front, Turn, Spread, Swept, Through, Counted}
use Rattle.rights.proofs.laws.walk.Fronts.{front_few, front_put}
use Rattle.rights.proofs.laws.walk.Looking.{Own, own_none, own_more}
use Rattle.rights.proofs.laws.walk.Rounding.{Upto, spread_map, spread_set, upto_none, upto_more, through_more, counted_more}
use Rattle.rights.proofs.laws.Known.{is_good}
use Rattle.rights.proofs.walk.spread.Goals as goal

-- The record at hand, before the end of the part, and its pair.
module _ {b : List ℕ} (g : Good b) {i end pair : ℕ} (is_end : end ≡ size b Membership) (l : i < end) (told : PairOf b i pair) where
  of : Of b Membership i
  of = (omega arith, omega arith)

  is_key : pair % 65536 ≡ key b i
  is_key = pair_key g (of_records Membership b i of) told

  is_id : pair / 65536 ≡ id b i
  is_id = pair_id g (of_records Membership b i of) told

  named : IsName (pair / 65536)
  named = rw is_id (id_name g Membership of)

pub loop-i-init : goal.loop-i-init
loop-i-init c =
    let a = c.args in
    let b = a.block.bytes.now in
    let x = get_or a.names.now a.j 0 in
    let f = get_or a.firsts.now x 0 in
    let swept = c.requires.turn.1 in
    record {
      many = omega arith;
      marks = c.requires.marks.1;
      own = own_none b x f;
      brought = spread_map b a.carry a.from.now (Through b a.names.now a.j) (Upto b a.names.now a.j f f) a.to.now (upto_none b a.names.now a.j f)
          swept.brought;
      front = swept.front;
    }

pub bounds-to-y : goal.bounds-to-y
bounds-to-y c =
    let is_named = named (is_good c.args.block) c.size_of-end.ensures c.loop-i-test.true c.pair_of-pair.ensures in
    omega (arith, is_named, c.loop-i.invariant.marks)

pub bounds-to-y-in-loop-i : goal.bounds-to-y-in-loop-i
bounds-to-y-in-loop-i c =
    let is_named = named (is_good c.args.block) c.size_of-end.ensures c.loop-i-test.true c.pair_of-pair.ensures in
    omega (arith, is_named, c.loop-i.invariant.marks)

pub overflow_cast-y : goal.overflow_cast-y
overflow_cast-y c = omega (arith, named (is_good c.args.block) c.size_of-end.ensures c.loop-i-test.true c.pair_of-pair.ensures)

pub bounds-from-y : goal.bounds-from-y
bounds-from-y c =
    let is_named = named (is_good c.args.block) c.size_of-end.ensures c.loop-i-test.true c.pair_of-pair.ensures in
    omega (arith, is_named, c.requires.marks.0.names)

pub put-requires : goal.put-requires
put-requires c = omega (arith, front_few c.loop-i.invariant.front c.requires.marks.0.names c.loop-i.invariant.marks)

pub loop-i-preserved : goal.loop-i-preserved
loop-i-preserved c =
    let a = c.args in
    let b = a.block.bytes.now in
    let ms = a.from.now in
    let names = a.names.now in
    let x = get_or names a.j 0 in
    let f = get_or a.firsts.now x 0 in
    let g = is_good c.args.block in
    let is_end = c.size_of-end.ensures in
    let l = c.loop-i-test.true in
    let told = c.pair_of-pair.ensures in
    let loop = c.loop-i in
    let inv = loop.invariant in
    let y = c.pair_of-pair.result / 65536 in
    let net = c.carried in
    let own = sym (is_key g is_end l told) ∙ c.if-pair-x.false in
    let inside : y < length loop.to = omega (arith, named g is_end l told, inv.marks) in
    let old = get_or loop.to y 0 in
    let more = bit_and net.result (get_or ms x 0) in
    let up : old ≤ bit_or old more = omega (arith, or_add_and old more, and_le_r old more) in
    let low : f ≤ loop.i = omega (arith, inv.many) in
    record {
      many = omega (arith, inv.many);
      marks = length-set loop.to y (bit_or old more) ∙ inv.marks;
      own = own_more b x f loop.i inv.own own;
      brought = spread_map b a.carry ms (λ i. Upto b names a.j f loop.i i ⊎ (i ≡ loop.i)) (Upto b names a.j f (loop.i + 1))
          (set loop.to y (bit_or old more)) (upto_more b names a.j f loop.i low)
          (spread_set b a.carry ms (Upto b names a.j f loop.i) loop.to loop.i net.result (of g is_end l told) net.ensures inv.brought x y
          (sym own) (is_id g is_end l told) inside);
      front = rw c.put.ensures (front_put inv.front y (bit_or old more) inside up c.joins.result c.joins.ensures);
    }

-- The loop is left at record e, at the end of the part or at a record of another name.
module _ {b names firsts : List ℕ} {j e : ℕ} (g : Good b) (turn : Turn b names firsts j)
    (low : get_or firsts (get_or names j 0) 0 ≤ e) (last : e ≤ size b Membership)
    (own : Own b (get_or names j 0) (get_or firsts (get_or names j 0) 0) e) (stop : (e ≡ size b Membership) ⊎ (key b e ≡ get_or names j 0 → ⊥)) where
  swept : {ms to next : List ℕ} {carry : Carry} → Spread b carry ms (Upto b names j (get_or firsts (get_or names j 0) 0) e) to → Front ms to next
      → Swept b carry ms names (j + 1) to next
  swept {ms} {to} {carry = carry} brought front = record {
    brought = through_more carry ms names j (get_or firsts (get_or names j 0) 0) e to g turn.starts low last own stop brought;
    front = front;
  }

  counted : (examined : ℕ) → get_or firsts (get_or names j 0) 0 + examined ≡ e → (n : ℕ) → Counted b names j n
      → Counted b names (j + 1) (n + examined)
  counted examined many n before =
      let f = get_or firsts (get_or names j 0) 0 in
      subst (λ (m : ℕ). Counted b names (j + 1) (n + m)) (omega arith)
      (counted_more names j f e g turn.starts low last own stop turn.new before)

pub returns-after-loop-i-clause-swept : goal.returns-after-loop-i-clause-swept
returns-after-loop-i-clause-swept c =
    let inv = c.loop-i.invariant in
    let turn = c.requires.turn.0 in
    let is_end = c.size_of-end.ensures in
    swept (is_good c.args.block) turn (omega (arith, inv.many)) (omega (arith, turn.starts.high)) inv.own (inl (omega (arith, turn.starts.high)))
    inv.brought inv.front

pub returns-after-loop-i-clause-examined : goal.returns-after-loop-i-clause-examined
returns-after-loop-i-clause-examined c =
    let inv = c.loop-i.invariant in
    let turn = c.requires.turn.0 in
    counted (is_good c.args.block) turn (omega (arith, inv.many)) (omega (arith, turn.starts.high)) inv.own (inl (omega (arith, turn.starts.high)))
    c.loop-i.examined inv.many

pub returns-then-pair-x-clause-swept : goal.returns-then-pair-x-clause-swept
returns-then-pair-x-clause-swept c =
    let inv = c.loop-i.invariant in
    let g = is_good c.args.block in
    let is_key = is_key g c.size_of-end.ensures c.loop-i-test.true c.pair_of-pair.ensures in
    swept g c.requires.turn.0 (omega (arith, inv.many)) (omega (arith, c.size_of-end.ensures)) inv.own (inr (λ q. c.if-pair-x.true (is_key ∙ q)))
    inv.brought inv.front

pub returns-then-pair-x-clause-examined : goal.returns-then-pair-x-clause-examined
returns-then-pair-x-clause-examined c =
    let inv = c.loop-i.invariant in
    let g = is_good c.args.block in
    let is_key = is_key g c.size_of-end.ensures c.loop-i-test.true c.pair_of-pair.ensures in
    counted g c.requires.turn.0 (omega (arith, inv.many)) (omega (arith, c.size_of-end.ensures)) inv.own (inr (λ q. c.if-pair-x.true (is_key ∙ q)))
    c.loop-i.examined inv.many
