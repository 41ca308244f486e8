-- The two questions that call each other, `reaching::reached` and `reaching::through`, meet their contracts. One step of each question is a law of
-- its own (Reaching).
use Prim.Native.Nat.{◌-◌}
use native.Mathlib.Omega.{arith}
use Rattle.plain.proofs.laws.Reaching.{reached_here, reached_on, through_last, through_rest}
use Rattle.index.proofs.laws.block.Known.{good_known}
use Rattle.plain.proofs.reaching.+reached_through.Goals as goal
use Rattle.plain.proofs.reaching.+reached_through.Goals.{through-then-leads+else-reached, through-else-leads}

-- ---- is it reached?

pub reached-returns-then-from-to : goal.reached-returns-then-from-to
reached-returns-then-from-to t c = reached_here (good_known _ c.args.block.good) c.args.link _ _ _ c.if-from-to.true

pub reached-returns : goal.reached-returns
reached-returns t c =
    reached_on (good_known _ c.args.block.good) c.args.link _ _ c.args.left _ c.if-from-to.false c.if-left-eq0.false c.size_of.ensures c.through.result c.through.ensures

-- ---- through the records?

pub through-returns-then-reached : goal.through-returns-then-reached
through-returns-then-reached t c =
    through_last (good_known _ c.args.block.good) c.args.link _ _ (c.args.left - 1) c.args.n (λ none. omega arith)
    (c.if-leads.ensures.0, c.if-leads.ensures.1, rw c.id_of.ensures at c.if-reached.ensures)

pub through-returns : goal.through-returns
through-returns t c =
    through_rest (good_known _ c.args.block.good) c.args.link _ _ (c.args.left - 1) c.args.n (λ none. omega arith)
    (elim c.if-leads.branch [
      | through-then-leads+else-reached w ↦ λ last. w.if-reached.ensures (rw w.id_of.ensures last.2)
      | through-else-leads w ↦ λ last. w.if-leads.ensures (last.0, last.1)
    ])
    c.through.result c.through.ensures
