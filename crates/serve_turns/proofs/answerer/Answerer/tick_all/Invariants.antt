use Rattle.std.proofs.Common.{◌≡◌, take}
use Rattle.serve_turns.specs.Life.{Makes}
use Rattle.serve_turns.specs.Turn.{after_ticks}
use Rattle.serve_turns.proofs.answerer.Answerer.tick_all.Given as goal

abbrev pub invariant-loop-place : goal.invariant-loop-place
invariant-loop-place g l = record {
  same : l.self.forwarders ≡ l.initial.self.forwarders;
  makes : Makes (after_ticks g.row.A.Denot l.now (take l.place l.initial.self.forwarders.sessions.items)) l.initial.self l.self;
}
