use Rattle.std.proofs.Common.{All, Some}
use Rattle.server_station.specs.Stations.{WasPassed}
use Rattle.run_server.proofs.station_run.Shift.closed.Given as goal

abbrev pub invariant-loop : goal.invariant-loop
invariant-loop g l = All (λ n. WasPassed l.now (Some n)) l.numbers.items
