use Rattle.std.proofs.Common.{sym, ap, ◌∙◌}
use Rattle.answer_ticket.specs.Job.{ask_for}
use Rattle.answer_ticket.proofs.Tries.{err_tried}
use Rattle.answer_ticket.proofs.ticket.Ticket.try_on.Goals as goal

pub returns-in-Err : goal.returns-in-Err
returns-in-Err g c =
    let candidate = c.candidate-candidate.result in
    rw
    c.in-Err.ensures.refused
    (err_tried c.args.self candidate c.args.book.now (sym c.id.ensures ∙ c.if-id-candidate.false) c.ask.result c.in-Err.refusal
    c.refused.result c.candidate-candidate.ensures.candidate
    (c.ask.ensures ∙ ap (λ t. ask_for t.job candidate) c.self.view_is) c.in-Err.ensures.answer c.refused.ensures.memory
    c.refused.ensures.refused)
