use Rattle.std.proofs.Common.{◌≡◌, ◌++◌, drop}
use Rattle.std.specs.Result.{result_map_both}
use Rattle.toml.specs.View.{items_view}
use Rattle.settings_text.specs.SettingsOfTable.{each_in}
use Rattle.settings_text.proofs.settings_reading.each_in.Given as goal

-- what was found so far, and then what the rest gives, is what all give
abbrev pub invariant-loop-value : goal.invariant-loop-value
invariant-loop-value g l =
    each_in g.S.FromTable.of (items_view l.values)
    ≡ result_map_both (λ rest. l.settings.items ++ rest) (λ fault. fault)
    (each_in g.S.FromTable.of (items_view (drop l.value-index l.values)))
