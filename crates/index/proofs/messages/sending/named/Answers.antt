-- The names of both halves.
use Rattle.index.specs.Message.{Named}
use Rattle.index.specs.Wide.{previous_of, new_of}
use Rattle.index.proofs.laws.Answer.{says_same}
use Rattle.index.proofs.laws.message.Halves.{each_join, each_part}
use Rattle.index.proofs.messages.sending.named.Goals as goal

pub returns : goal.returns
returns g c =
    let s = g.M.Message.sent c.args.m.now in
    says_same c.is_named-2.result (each_join Named (previous_of s) (new_of s) c.if-not-is_named.ensures) (λ all. (each_part Named (previous_of s) (new_of s) all).1) c.is_named-2.ensures
