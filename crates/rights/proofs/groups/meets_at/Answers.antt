-- `groups::meets_at` meets its contract: the two marks, and the record.
use Rattle.std.proofs.Common.{ℕ, get_or, ap, arith}
use Rattle.index.specs.declared.Kind.TheVariants.{Membership}
use Rattle.index.proofs.laws.Answer.{says_same}
use Rattle.index.proofs.laws.block.Records.{of_records}
use Rattle.directory.proofs.Numbered.{pair_key, pair_id}
use Rattle.rights.proofs.laws.Known.{is_good}
use Rattle.rights.proofs.groups.meets_at.Goals as goal

pub returns : goal.returns
returns c =
    let g = is_good c.args.block in
    let of_user = ap (λ (n : ℕ). get_or c.args.users.now n 0) (pair_key g (of_records Membership _ _ c.requires) c.pair_of-pair.ensures) in
    let of_object = ap (λ (n : ℕ). get_or c.args.objects.now n 0) (pair_id g (of_records Membership _ _ c.requires) c.pair_of-pair.ensures) in
    says_same c.leads.result (λ m. (m, omega (arith, of_user), omega (arith, of_object))) (λ p. p.0) c.leads.ensures
