use Rattle.std.proofs.Common.{◌≡◌, ◌≤◌, ◌-◌, length}
use Rattle.answer_ticket.specs.Job.{candidates}
use Rattle.server_station.specs.Tries.{AreRefused}
use Rattle.server_station.proofs.station.Station.try_all.Given as goal

abbrev pub invariant-loop-book : goal.invariant-loop-book
invariant-loop-book g l = record {
  job : l.ticket.job ≡ l.initial.ticket.job;
  refused : AreRefused l.initial.self l.ticket.job l.ticket.at;
  overrun : l.initial.overrun ≤ l.overrun;
}

abbrev pub decreases-loop-book : goal.decreases-loop-book
decreases-loop-book g l = length (candidates l.ticket.job) - l.ticket.at
