use Rattle.std.proofs.Common.{◌≡◌, ◌++◌, take}
use Rattle.std.specs.List.{flat_map}
use Rattle.serve_downlinks.specs.Batch.{entries_text}
use Rattle.serve_renewal.specs.State.{gateway_entries}
use Rattle.serve_renewal.proofs.gateways.add_gateways.Given as goal

abbrev pub invariant-loop-session : goal.invariant-loop-session
invariant-loop-session g l =
    l.text.items ≡ l.initial.text.items ++ entries_text (flat_map (gateway_entries l.books) (take l.session-index l.sessions))
