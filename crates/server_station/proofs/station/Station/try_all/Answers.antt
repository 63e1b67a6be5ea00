use Rattle.std.proofs.Common.{arith, refl, rules}
use Rattle.answer_ticket.specs.Tried.{stub_of}
use Rattle.answer_ticket.specs.declared.outcome.Ending.TheVariants.{GivenUp}
use Rattle.server_station.proofs.TriedLemmas.{refused_there, booked_there, out_there, given_up_there, tried_in_vain}
use Rattle.server_station.proofs.TriedLemmas.{is_among_tried, stands_at}
use Rattle.server_station.proofs.station.Station.try_all.Goals as goal

pub loop-book-preserved : goal.loop-book-preserved
loop-book-preserved g c =
    let here = c.loop-book.ticket in
    let among = is_among_tried c.args.self.now here c.gateway-gateway.result c.gateway-gateway.ensures.gateway (search rules) in
    let on = refused_there c.args.self.now c.args.ticket.job here c.loop-book.invariant.job c.loop-book.invariant.refused
    c.deref_mut.result.now c.try_on-tried.new.book c.in-Next.next c.in-Next.field-1 among c.in-Next.ensures in
    record {
      job = on.0;
      refused = on.1;
      overrun =
          let first = c.loop-book.invariant.overrun in
          let then = c.enter.ensures.overrun in omega (arith, first, then);
    }

pub returns-in-Booked-clause-tries : goal.returns-in-Booked-clause-tries
returns-in-Booked-clause-tries g c =
    let here = c.loop-book.ticket in
    let among = is_among_tried c.args.self.now here c.gateway-gateway.result c.gateway-gateway.ensures.gateway (search rules) in
    booked_there c.args.self.now c.args.ticket.job here c.loop-book.invariant.job c.loop-book.invariant.refused
    c.deref_mut.result.now c.try_on-tried.new.book c.in-Booked.stub c.in-Booked.receipt among c.in-Booked.ensures

pub returns-in-Out-clause-tries : goal.returns-in-Out-clause-tries
returns-in-Out-clause-tries g c =
    let here = c.loop-book.ticket in
    let among = is_among_tried c.args.self.now here c.gateway-gateway.result c.gateway-gateway.ensures.gateway (search rules) in
    out_there c.args.self.now c.args.ticket.job here c.loop-book.invariant.job c.loop-book.invariant.refused _
    c.deref_mut.result.now c.try_on-tried.new.book c.in-Out.stub c.in-Out.field-1 among c.in-Out.ensures

pub returns-in-Wrong-clause-tries : goal.returns-in-Wrong-clause-tries
returns-in-Wrong-clause-tries g c =
    let here = c.loop-book.ticket in
    let vain =
    tried_in_vain _ here c.in-Wrong.ticket c.try_on-tried.result
    (c.deref_mut.result.now, c.try_on-tried.new.book, c.try_on-tried.ensures) c.in-Wrong.is in
    rw c.given_up-in-Wrong.ensures
    (given_up_there c.args.self.now c.args.ticket.job here c.loop-book.invariant.job c.loop-book.invariant.refused _
    (stub_of c.in-Wrong.ticket.job GivenUp) (stands_at _ c.gateway-gateway.result c.gateway-gateway.ensures.gateway) refl
    (λ among. vain))
