use Rattle.std.proofs.Common.{sym, arith}
use Rattle.uplink_gather.proofs.CallLemmas.{closing_found, whole_closing, closing_open, closing_looks, not_open_found}
use Rattle.uplink_gather.proofs.CallLemmas.{not_open_step}
use Rattle.uplink_gather.proofs.gather.Gather.close.Goals as goal

pub index_of-requires : goal.index_of-requires
index_of-requires g c =
    (closing_found _ _ _ _ c.self.invariant _ c.self.view_is c.args.n c.in-Ok.place
    (rw c.deref.ensures.value at c.in-Ok.ensures.position)).above

pub index_mut-requires : goal.index_mut-requires
index_mut-requires g c =
    let k = closing_found _ _ _ _ c.self.invariant _ c.self.view_is c.args.n c.in-Ok.place
    (rw c.deref.ensures.value at c.in-Ok.ensures.position) in
    omega (arith, k.within, c.self.inside.stored.ok.0, c.index_of.ensures)

pub invariant_of-self : goal.invariant_of-self
invariant_of-self g c =
    let k = closing_found _ _ _ _ c.self.invariant _ c.self.view_is c.args.n c.in-Ok.place
    (rw c.deref.ensures.value at c.in-Ok.ensures.position) in
    rw c.index_of.ensures
    (whole_closing _ _ _ _ c.self.invariant _ c.self.view_is c.args.n c.in-Ok.place k c.index_mut.result.now
    (rw c.index_of.ensures at c.index_mut.ensures.value) c.remove.new.self.items c.remove.ensures.items)

pub returns-in-Ok-clause-answer : goal.returns-in-Ok-clause-answer
returns-in-Ok-clause-answer g c =
    let k = closing_found _ _ _ _ c.self.invariant _ c.self.view_is c.args.n c.in-Ok.place
    (rw c.deref.ensures.value at c.in-Ok.ensures.position) in
    closing_open _ _ _ _ c.self.invariant _ c.self.view_is c.args.n c.in-Ok.place k c.index_mut.result.now
    (rw c.index_of.ensures at c.index_mut.ensures.value)

pub returns-in-Ok-clause-step : goal.returns-in-Ok-clause-step
returns-in-Ok-clause-step g c =
    let k = closing_found _ _ _ _ c.self.invariant _ c.self.view_is c.args.n c.in-Ok.place
    (rw c.deref.ensures.value at c.in-Ok.ensures.position) in
    rw c.index_of.ensures
    (closing_looks _ _ _ _ c.self.invariant _ c.self.view_is c.args.n c.in-Ok.place k c.index_mut.result.now
    (rw c.index_of.ensures at c.index_mut.ensures.value))

pub returns-in-Err-clause-answer : goal.returns-in-Err-clause-answer
returns-in-Err-clause-answer g c =
    sym (not_open_found _ _ _ _ c.self.invariant _ c.self.view_is c.args.n c.in-Err.field-0
    (rw c.deref.ensures.value at c.in-Err.ensures.position))

pub returns-in-Err-clause-step : goal.returns-in-Err-clause-step
returns-in-Err-clause-step g c =
    not_open_step _ _ _ _ c.self.invariant _ c.self.view_is c.args.n
    (not_open_found _ _ _ _ c.self.invariant _ c.self.view_is c.args.n c.in-Err.field-0
    (rw c.deref.ensures.value at c.in-Err.ensures.position))
