-- `checking::rests_on` meets its contract: the two chains, and the grant.
use Rattle.std.proofs.Common.{sym, ◌∙◌}
use Rattle.index.proofs.laws.Answer.{yes_is, no_is, says_same}
use Rattle.slips.proofs.checking.rests_on.Goals as goal
use Rattle.slips.proofs.checking.rests_on.Goals.{then-leads, else-leads}

pub returns-then-leads_object : goal.returns-then-leads_object
returns-then-leads_object c =
    elim c.if-leads.branch [
      | then-leads w ↦
          let users = yes_is w.if-leads.true c.leads.ensures in
          let objects = yes_is (sym w.value-is ∙ c.if-leads_object.true) w.leads_object.ensures in
          says_same c.grants.result (λ g. (users, (objects, g))) (λ r. r.1.1) c.grants.ensures
      | else-leads w ↦ absurd cc
    ]

pub returns-else-leads_object : goal.returns-else-leads_object
returns-else-leads_object c =
    elim c.if-leads.branch [
      | then-leads w ↦ rw c.if-leads_object.false (λ r. no_is (sym w.value-is ∙ c.if-leads_object.false) r.1.0 w.leads_object.ensures)
      | else-leads w ↦ rw c.if-leads_object.false (λ r. no_is w.if-leads.false r.0 c.leads.ensures)
    ]
