-- `trails::Trail::look` meets its contract: nothing changes, or the id of the record is reached.
use Rattle.std.proofs.Common.{ℕ, ◌*◌, ◌+◌, ◌/◌, ◌%◌, ◌≡◌, List, arith, rules}
use Rattle.index.specs.declared.Kind.TheVariants.{Membership}
use Rattle.index.specs.Block.{IsName, Good, Of, key, id}
use Rattle.index.specs.Calls.{OfRecord}
use Rattle.index.proofs.laws.Answer.{yes_is}
use Rattle.index.proofs.laws.block.Records.{of_records}
use Rattle.directory.proofs.Numbered.{pair_key, pair_id, key_name, id_name}
use Rattle.rights.proofs.laws.Known.{is_good}
use Rattle.rights.proofs.laws.walk.Fronts.{at_set}
use Rattle.slips.proofs.laws.Listing.{place, listed_more}
use Rattle.slips.proofs.laws.Walking.{reached}
use Rattle.slips.proofs.trails.Trail.look.Goals as goal

-- The names of the record, as the door gives them.
module _ {b : List ℕ} {i pair : ℕ} (g : Good b) (of : Of b Membership i) (told : OfRecord b i (λ n. n ≡ key b i + 65536 * id b i) pair) where
  key_is : pair % 65536 ≡ key b i
  key_is = pair_key g (of_records Membership b i of) told

  id_is : pair / 65536 ≡ id b i
  id_is = pair_id g (of_records Membership b i of) told

  key_below : IsName (pair % 65536)
  key_below = rw key_is (key_name g Membership of)

  id_below : IsName (pair / 65536)
  id_below = rw id_is (id_name g Membership of)

pub offset_bounds-reached-reached : goal.offset_bounds-reached-reached
offset_bounds-reached-reached c =
    let named = id_below (is_good c.args.block) c.requires.of.1 c.pair_of-pair.ensures in
    record { fits = omega (arith, place c.requires.listed named c.if-self-y-ne-FAR.false) }

pub bounds-reached-reached : goal.bounds-reached-reached
bounds-reached-reached c =
    place c.requires.listed (id_below (is_good c.args.block) c.requires.of.1 c.pair_of-pair.ensures) c.if-self-y-ne-FAR.false

pub overflow_add-reached : goal.overflow_add-reached
overflow_add-reached c =
    let named = id_below (is_good c.args.block) c.requires.of.1 c.pair_of-pair.ensures in
    record { fits = omega (arith, place c.requires.listed named c.if-self-y-ne-FAR.false) }

pub returns : goal.returns
returns c =
    let good = is_good c.args.block in
    let small = c.requires.of.0 in
    let of = c.requires.of.1 in
    let told = c.pair_of-pair.ensures in
    record {
      listed_2 = (listed_more c.requires.listed (id_below good of told) c.if-self-y-ne-FAR.false _ (omega (arith, small)), (omega arith, at_set c.args.reached.now.names c.args.reached.now.len _));
      trails = λ start lo hi q e low high t.
          reached good small of e low high t c.args.right.small (yes_is c.if-not-has_right.false c.has_right.ensures) (key_is good of told) (id_is good of told) c.if-self-y-ne-FAR.false c.requires.listed;
    }

pub returns-then-self-y-ne-FAR-clause-trails : goal.returns-then-self-y-ne-FAR-clause-trails
returns-then-self-y-ne-FAR-clause-trails c = let good = is_good c.args.block in search (rules, good)
