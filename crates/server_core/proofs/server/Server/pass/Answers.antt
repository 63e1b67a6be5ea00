use Rattle.server_core.proofs.Words.{seen}
use Rattle.server_core.proofs.Calls.{both_ok}
use Rattle.server_core.proofs.Passes.{passing_first, closed_ready, fewer_due, passing_on, passed_done}
use Rattle.server_core.proofs.server.Server.pass.Goals as goal

pub loop-number-init : goal.loop-number-init
loop-number-init g c = passing_first c.args.place c.args.now (seen c.args.self.now) c.requires

pub answer-requires : goal.answer-requires
answer-requires g c = closed_ready c.args.place _ _ (seen c.args.self.now) (seen c.loop-number.self)
    (seen c.did.new.self) _ c.in-Some.ensures.answer c.in-Some.ensures.step c.in_ok-did.ensures c.loop-number.invariant.ready

pub loop-number-preserved : goal.loop-number-preserved
loop-number-preserved g c = passing_on _ _ _ (seen c.args.self.now) (seen c.loop-number.self) (seen c.did.new.self) _
    c.in-Some.ensures.answer c.in-Some.ensures.step c.in_ok-did.ensures (seen c.answer.new.self) c.in_ok-answer.ensures.ready
    c.in_ok-answer.ensures.gathered c.in_ok-answer.ensures.made c.loop-number.invariant

pub loop-number-smaller : goal.loop-number-smaller
loop-number-smaller g c = fewer_due _ _ _ (seen c.args.self.now) (seen c.loop-number.self) (seen c.did.new.self) _
    c.in-Some.ensures.answer c.in-Some.ensures.step c.in_ok-did.ensures (seen c.answer.new.self) c.in_ok-answer.ensures.ready
    c.in_ok-answer.ensures.gathered c.in_ok-answer.ensures.made

pub returns : goal.returns
returns g c = both_ok c.did-2.result
    (passed_done c.args.place c.args.now (seen c.args.self.now) (seen c.loop-number.self) (seen c.did-2.new.self) c.pass.new.self
    c.in_default.ensures.answer c.in_default.ensures.step c.loop-number.invariant) c.did-2.ensures
