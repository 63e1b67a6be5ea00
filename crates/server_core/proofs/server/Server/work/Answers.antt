use Rattle.server_core.proofs.Words.{seen}
use Rattle.server_core.proofs.{Calls.on_ok, Settled.may_settle_tried, Settled.answered}
use Rattle.server_core.proofs.server.Server.work.Goals as goal

pub settle-requires : goal.settle-requires
settle-requires g c =
    may_settle_tried _ (seen c.args.self.now) (seen c.tried.new.self) _ c.in_ok-ended.ensures c.requires.books
    c.requires.given

pub returns : goal.returns
returns g c = on_ok c.settle.result (answered _ _ (seen c.args.self.now) (seen c.tried.new.self) (seen c.settle.new.self) _
    c.requires.first c.in_ok-ended.ensures) c.settle.ensures
