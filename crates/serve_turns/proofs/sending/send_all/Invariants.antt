use Rattle.std.proofs.Common.{◌≡◌, length, map, take, zip}
use Rattle.serve_turns.specs.Effects.{Adds}
use Rattle.serve_turns.specs.Sending.{sent_one}
use Rattle.serve_turns.proofs.sending.send_all.Given as goal

abbrev pub invariant-loop-place : goal.invariant-loop-place
invariant-loop-place g l =
    (length l.went ≡ length l.asks)
    × Adds (g.H.Host.effects l.initial.host) (g.H.Host.effects l.host) (map sent_one (zip (take l.place l.asks) (take l.place l.went)))
