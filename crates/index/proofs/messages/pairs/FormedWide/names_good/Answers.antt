-- The names of a half are those of its two lists.
use Rattle.index.specs.work.Halves.{half_number}
use Rattle.index.proofs.laws.Answer.{says_same}
use Rattle.index.proofs.laws.message.WideKnown.{is_formed}
use Rattle.index.proofs.laws.message.Halves.{half_below}
use Rattle.index.proofs.laws.message.EveryPair.{pairs_named}
use Rattle.index.proofs.messages.pairs.FormedWide.names_good.Goals as goal

pub returns-then-not-all_names : goal.returns-then-not-all_names
returns-then-not-all_names c =
    let s = c in
    λ all. c.if-not-all_names.ensures (rw c.keys_of.ensures.0 ((pairs_named s.args.self.bytes.now (is_formed s.args.self) (half_number s.args.h) (half_below s.args.h)).0 all).0)

pub returns : goal.returns
returns c =
    let s = c in
    let named = pairs_named s.args.self.bytes.now (is_formed s.args.self) (half_number s.args.h) (half_below s.args.h) in
    says_same c.all_names-2.result (λ ids. named.1 (rw c.keys_of.ensures.0 at c.if-not-all_names.ensures, rw c.ids_of.ensures.0 at ids)) (λ all. rw c.ids_of.ensures.0 (named.0 all).1) c.all_names-2.ensures
