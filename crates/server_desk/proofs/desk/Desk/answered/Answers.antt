use Rattle.server_desk.proofs.Words.{Some, None}
use Rattle.server_desk.proofs.AirtimeLemmas.{answered_is}
use Rattle.server_desk.proofs.desk.Desk.answered.Goals as goal

pub returns : goal.returns
returns g c =
    let found = rw c.deref.ensures.value at c.in_ok-place.ensures.found in
    rw (← c.self.view_is)
    (rw c.index.ensures (answered_is _ _ _ _ c.self.invariant.1 c.args.gateway _ (Some c.in_ok-place.place) found))

pub returns-in_err-place : goal.returns-in_err-place
returns-in_err-place g c =
    let found = rw c.deref.ensures.value at c.in_err-place.ensures.found in
    rw (← c.self.view_is, c.from_residual.ensures) (answered_is _ _ _ _ c.self.invariant.1 c.args.gateway 0 None found)
