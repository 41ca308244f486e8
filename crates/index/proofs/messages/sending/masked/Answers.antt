-- The masks of both halves.
use Rattle.index.specs.Message.{Masked}
use Rattle.index.specs.Wide.{previous_of, new_of}
use Rattle.index.proofs.laws.Answer.{says_same}
use Rattle.index.proofs.laws.message.Halves.{each_join, each_part}
use Rattle.index.proofs.messages.sending.masked.Goals as goal

pub returns : goal.returns
returns g c =
    let s = g.M.Message.sent c.args.m.now in
    says_same c.is_masked-2.result (each_join Masked (previous_of s) (new_of s) c.if-not-is_masked.ensures) (λ all. (each_part Masked (previous_of s) (new_of s) all).1) c.is_masked-2.ensures
