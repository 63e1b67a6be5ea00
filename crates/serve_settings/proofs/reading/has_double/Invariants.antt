use Rattle.std.proofs.Common.{◌≡◌, [], take, drop}
use Rattle.serve_settings.specs.ServeSettings.{has_double}
use Rattle.serve_settings.proofs.reading.has_double.Given as goal

abbrev pub invariant-loop-place : goal.invariant-loop-place
invariant-loop-place l = has_double (take l.place l.forwarders) (drop l.place l.forwarders) ≡ has_double [] l.forwarders
