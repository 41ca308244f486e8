-- `index::text::entries::counts` meets its contract. The loop: what the whole reading finds is what reading on from letter k finds, after the counts in `out`.
use mathlib.Core.Path.{◌∙◌}
use native.Mathlib.Omega.{arith}
use lib.ListN.{get_or, length-set}
use Rattle.index.specs.Letters.{letters, may_have}
use Rattle.index.proofs.laws.text.ReadSteps.{after_wrong, after_more, after_all}
use Rattle.index.proofs.laws.text.HandedOn.{is_number, no_number}
use Rattle.index.proofs.text.entries.counts.Goals as goal

pub returns-in_default : goal.returns-in_default
returns-in_default c =
    let a = c.args in
    let are = c.requires.bytes_len.1 in
    let l = c.loop-k in
    let h = c.loop-k-test.true in
    let p = c.counted-piece in
    let w = no_number a.text.now p.result _ c.in_default.not-Number (p.ensures (may_have a.kind l.k) (get_or letters l.k 0) (are l.k h)) in
    record {
      out_len_2 = l.invariant.0;
      sees_letters = rw w.1 (l.invariant.1 ∙ after_wrong l.out _ l.k h _ _ w.2);
    }

pub loop-k-preserved : goal.loop-k-preserved
loop-k-preserved c =
    let a = c.args in
    let l = c.loop-k in
    let h = c.loop-k-test.true in (
      simp length-set l.invariant.0,
      l.invariant.1 ∙ after_more l.out _ l.k h _ _ _ l.invariant.0
          (is_number a.text.now c.in-Number.is (c.counted-piece.ensures (may_have a.kind l.k) (get_or letters l.k 0) (c.requires.bytes_len.1 l.k h))),
    )

pub returns-clause-sees_letters : goal.returns-clause-sees_letters
returns-clause-sees_letters c =
    let l = c.loop-k in
    l.invariant.1 ∙ after_all l.out _ l.k _ l.invariant.0 (omega arith)
