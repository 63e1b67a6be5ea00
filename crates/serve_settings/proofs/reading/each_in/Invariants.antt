use Rattle.std.proofs.Common.{◌≡◌, ◌++◌, drop}
use Rattle.std.specs.Result.{result_map_both}
use Rattle.toml.specs.View.{items_view}
use Rattle.serve_settings.specs.ServeSettings.{each_in}
use Rattle.serve_settings.proofs.reading.each_in.Given as goal

-- what was found so far, and then what the rest gives, is what all give
abbrev pub invariant-loop-value : goal.invariant-loop-value
invariant-loop-value l =
    each_in (items_view l.values)
    ≡ result_map_both (λ rest. l.forwarders.items ++ rest) (λ fault. fault) (each_in (items_view (drop l.value-index l.values)))
