use Rattle.std.specs.Prelude.{All, List}
use Rattle.std.specs.Global.{Global}
use Rattle.text_lines.specs.Line.{HasNoLineFeed}
use Rattle.server_core.specs.declared.entry.Entry.{Entry}
use Rattle.server_core.specs.World.{Gateway}
use Rattle.run_lines.specs.ReplayText.{replay_lines}

-- What a run writes is parted into lines by its line feeds alone.

-- no line of a run has a line feed inside, whatever its entries and its gateways
abbrev pub LinesAreWhole : Type 0
LinesAreWhole =
    (entries : List (Entry Global)) (gateways : List Gateway) → All HasNoLineFeed (replay_lines entries gateways)
