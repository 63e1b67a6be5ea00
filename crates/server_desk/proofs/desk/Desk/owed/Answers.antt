use Rattle.server_desk.proofs.Words.{sym, Some}
use Rattle.server_desk.proofs.TakeLemmas.{at_here, answer_is, is_ready}
use Rattle.server_desk.proofs.desk.Desk.owed.Goals as goal

pub returns-in-None : goal.returns-in-None
returns-in-None g c =
    let asked = rw c.deref.ensures.value at c.in-Some.ensures in
    let known = rw c.deref-2.ensures.value at c.in-Some-numbered.ensures in
    let at = at_here _ _ _ _ _ c.self.invariant.0 c.args.n _ (sym asked) _ c.index.ensures in
    rw (← c.self.view_is) (is_ready _ _ _ _ _ c.self.invariant.0 c.args.n _ (sym asked) _ at _ c.if-not-is_closed.ensures known
    c.if-not-is_not_given.ensures c.in-None.ensures)

pub returns-in-Some-take_fault : goal.returns-in-Some-take_fault
returns-in-Some-take_fault g c =
    let asked = rw c.deref.ensures.value at c.in-Some.ensures in
    let known = rw c.deref-2.ensures.value at c.in-Some-numbered.ensures in
    let at = at_here _ _ _ _ _ c.self.invariant.0 c.args.n _ (sym asked) _ c.index.ensures in
    rw (← c.self.view_is) (answer_is _ _ _ _ _ c.self.invariant.0 c.args.n _ (sym asked) _ at _ c.if-not-is_closed.ensures known
    c.if-not-is_not_given.ensures (Some c.in-Some-take_fault.fault) c.in-Some-take_fault.ensures)
