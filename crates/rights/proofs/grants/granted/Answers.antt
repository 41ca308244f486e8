-- `grants::granted` meets its contract: the two sides, name 0, and the search between them.
use Rattle.std.proofs.Common.{ℕ, ◌≤◌, refl, rules, arith}
use Rattle.rights.specs.work.Marks.{Count}
use Rattle.rights.proofs.laws.examined.AtMostFourTimes.{examined_bound}
use Rattle.rights.proofs.laws.held.Sides.{reached}
use Rattle.rights.proofs.laws.Known.{is_good, is_sized}
use Rattle.rights.proofs.grants.granted.Goals as goal

pub side-of_user-requires-clause-start : goal.side-of_user-requires-clause-start
side-of_user-requires-clause-start c =
    (c.args.question.user_named, (c.new-room.ensures c.args.source.now.block.bytes.now, c.requires))

-- No number of records examined is above 8,192.
few : (c : goal.After-search-rights) {r t : ℕ} (name : ℕ) → Count c.args.source.now.block.bytes.now r name t → t ≤ 8192
few c name n = examined_bound name (is_sized c.args.source.now.block) (is_good c.args.source.now.block) n.sum

pub overflow_cast-result : goal.overflow_cast-result
overflow_cast-result c = omega (arith, few c _ (c.side-of_user.ensures.count refl))

pub overflow_cast-result-2 : goal.overflow_cast-result-2
overflow_cast-result-2 c = omega (arith, few c _ (c.side-of_object.ensures.count refl))

pub returns-clause-mask : goal.returns-clause-mask
returns-clause-mask c =
    let args = c.args in
    reached args.limit args.source.now.block.bytes.now _ _ args.question.user args.question.object (search rules) c.side-of_user.ensures.side c.side-of_object.ensures.side args.question.profile
    args.question.request c.search-rights.ensures
