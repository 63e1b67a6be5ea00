use Rattle.std.proofs.Common.{arith}
use Rattle.answer_ticket.proofs.Longest.{within_longest}
use Rattle.answer_ticket.proofs.ticket.Ticket.booked.Goals as goal

pub ended-requires-clause-short : goal.ended-requires-clause-short
ended-requires-clause-short g c =
    omega (
      arith,
      c.airtime.ensures.value,
      within_longest c.args.reservation.rate c.args.reservation.len c.args.reservation.fit.sized,
    )
