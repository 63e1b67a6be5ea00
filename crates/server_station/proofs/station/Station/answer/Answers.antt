use Rattle.std.proofs.Common.{◌≡◌, ◌∙◌, subst, sym}
use Rattle.server_station.specs.Handling.{IsHandled}
use Rattle.server_station.specs.Tries.{IsAnswered}
use Rattle.server_station.proofs.HandledLemmas.{own_number}
use Rattle.server_station.proofs.station.Station.answer.Goals as goal

pub settle_end-requires-clause-answered : goal.settle_end-requires-clause-answered
settle_end-requires-clause-answered g c =
    let given = c.in-Ok.ensures in
    let own : c.in-Ok.ticket.job.number ≡ c.args.number = own_number given.0 c.args.number c.in-Ok.ticket.job given.1.1.0 in
    let ended = c.try_all-ended.result in
    subst (λ n. IsAnswered c.args.self.now n ended.stub.result ended.receipt) (sym (c.try_all-ended.ensures.ended.number ∙ own))
    (record { given = c.in-Ok.ticket; taken = given; tried = c.try_all-ended.ensures.tries })

pub returns-in-Ok-clause-turn : goal.returns-in-Ok-clause-turn
returns-in-Ok-clause-turn g c =
    let given = c.in-Ok.ensures in
    let own : c.in-Ok.ticket.job.number ≡ c.args.number = own_number given.0 c.args.number c.in-Ok.ticket.job given.1.1.0 in
    subst (λ n. IsHandled c.args.self.now n c.args.till.now c.settle_end.new.till c.settle_end.result)
    (c.try_all-ended.ensures.ended.number ∙ own) c.settle_end.ensures.turn
