use Rattle.std.proofs.Common.{rules, subst, ◌∙◌, All}
use Rattle.book_audit.specs.Audit.{IsAccountedFor}
use Rattle.server_station.specs.Closings.{shelved, IsFinishCause}
use Rattle.run_server.proofs.ClosingLemmas.{closing_fault, one_till}
use Rattle.run_server.proofs.station_run.Shift.close.Goals as goal

pub returns-in-Ok-finish-clause-books : goal.returns-in-Ok-finish-clause-books
returns-in-Ok-finish-clause-books g c =
    let closing = c.in-Ok-finish.field-0 in
    let done = c.in-Ok-finish.ensures.closed in
    record {
      desk = closing.desk;
      gateways = done.gateways ∙ c.into_inner.ensures;
      counted = done.totals;
      sum = done.sum ∙ done.answered;
      equal = done.equal;
      once = done.once;
      accounted = subst (All (IsAccountedFor (shelved closing.totals.items closing.books.items)))
          (c.as_slice.ensures.value ∙ c.in-Ok.ensures) done.accounted;
    }

pub returns-in-Err-clause-cause : goal.returns-in-Err-clause-cause
returns-in-Err-clause-cause g c other =
    closing_fault c.push_reserved.new.self.items c.args.self.station.value _ c.in-Err.fault.cause c.named.result
    (search rules)
    (subst (λ l. IsFinishCause c.push_reserved.new.self.items c.args.self.station.value l c.in-Err.fault.cause)
    (c.as_slice.ensures.value ∙ c.in-Ok.ensures)
    (subst (λ s. IsFinishCause c.push_reserved.new.self.items s c.as_slice.result.now c.in-Err.fault.cause)
    c.into_inner.ensures c.in-Err.ensures.back.cause))
    c.named.ensures.exact other

pub returns-in-Ok-finish-clause-booked : goal.returns-in-Ok-finish-clause-booked
returns-in-Ok-finish-clause-booked g c =
    let done = c.in-Ok-finish.ensures.closed in
    done.sum ∙ done.booked ∙ one_till _ c.args.self.till (search rules)
