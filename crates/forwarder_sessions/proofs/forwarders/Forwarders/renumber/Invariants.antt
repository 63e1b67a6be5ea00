use Rattle.std.proofs.Common.{◌≡◌, ◌++◌, drop, map, take}
use Rattle.forwarder_sessions.specs.Sessions.{renumbered}
use Rattle.forwarder_sessions.proofs.forwarders.Forwarders.renumber.Given as goal

-- those so far were renumbered
abbrev pub invariant-loop-place : goal.invariant-loop-place
invariant-loop-place g l =
    l.self.sessions.items
    ≡ map renumbered (take l.place l.initial.self.sessions.items) ++ drop l.place l.initial.self.sessions.items
