use Rattle.server_core.proofs.Words.{refl, NoMemory, seen, take_answer}
use Rattle.server_core.proofs.Calls.{on_ok, all_ok}
use Rattle.server_core.proofs.Answered.{may_work, answer_done, refused_made, refused_is}
use Rattle.server_core.proofs.server.Server.answer.Goals as goal

pub work-requires : goal.work-requires
work-requires g c =
    may_work c.args.place _ (seen c.args.self.now) (seen c.did.new.self) c.in_ok-did.ensures c.requires _ _
    c.in-Ok.ensures.job c.in-Ok.ensures.step c.in-Ok.ensures.first

pub returns-in-Ok : goal.returns-in-Ok
returns-in-Ok g c = all_ok c.work.result
    (answer_done _ _ (seen c.args.self.now) (seen c.did.new.self) c.in_ok-did.ensures c.requires c.in-Ok.ticket _
    c.in-Ok.ensures.job c.in-Ok.ensures.step (seen c.work.new.self)) c.work.ensures

pub returns-in_ok-not_taken_line-in-Err-clause-made : goal.returns-in_ok-not_taken_line-in-Err-clause-made
returns-in_ok-not_taken_line-in-Err-clause-made g c =
    let mid = seen c.did.new.self in
    on_ok c.told.result
    (λ told.
    refused_made _ _ (seen c.args.self.now) mid c.in_ok-did.ensures c.requires _ _ _ (seen c.told.new.self)
    (refused_is (take_answer mid.desk.reg mid.desk.known c.args.number) _ c.in-Err.fault NoMemory refl c.in-Err.ensures.answer
    c.in_ok-not_taken_line-in-Err.ensures.memory)
    c.in-Err.ensures.refused c.in_ok-not_taken_line-in-Err.ensures.line told)
    c.told.ensures
