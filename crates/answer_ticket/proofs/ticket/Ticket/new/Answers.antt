use Rattle.std.proofs.Common.{refl}
use Rattle.answer_ticket.proofs.Tries.{first_kept}
use Rattle.answer_ticket.proofs.ticket.Ticket.new.Goals as goal

pub invariant_of-result : goal.invariant_of-result
invariant_of-result g c = first_kept c.args.job c.in_ok-candidates.candidates.items c.requires
    (rw (c.in_ok-candidates.ensures, c.as_slice.ensures, ← c.job.view_is) refl)
