use Rattle.server_core.proofs.Words.{seen}
use Rattle.server_core.proofs.Settled.{trying_first, here_still, trying_next, fewer_left, tries_over}
use Rattle.server_core.proofs.server.Server.tried.Goals as goal

pub loop-ended-init : goal.loop-ended-init
loop-ended-init g c = trying_first c.args.ticket (seen c.args.self.now)

pub tried_once-requires : goal.tried_once-requires
tried_once-requires g c = here_still _ _ (seen c.args.self.now) (seen c.loop-ended.self) c.loop-ended.invariant c.requires

pub returns-in-Over : goal.returns-in-Over
returns-in-Over g c = tries_over _ _ (seen c.args.self.now) (seen c.loop-ended.self) (seen c.tried_once.new.self) _
    c.loop-ended.invariant (rw c.in-Over.is at c.in_ok-ended.ensures)

pub loop-ended-preserved : goal.loop-ended-preserved
loop-ended-preserved g c =
    trying_next _ _ _ (seen c.args.self.now) (seen c.loop-ended.self) (seen c.tried_once.new.self) c.loop-ended.invariant
    (rw c.in-On.is at c.in_ok-ended.ensures)

pub loop-ended-smaller : goal.loop-ended-smaller
loop-ended-smaller g c = fewer_left c.loop-ended.ticket c.in-On.next (seen c.loop-ended.self) (seen c.tried_once.new.self)
    (rw c.in-On.is at c.in_ok-ended.ensures)
