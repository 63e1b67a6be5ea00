-- What the law on the lines of a run says of every run, byte by byte.
use Rattle.std.specs.Prelude.{ℕ, ◌≢◌, ◌<◌, ◌∷◌, [], ◌++◌, List, get_or, length, map}
use Rattle.std.specs.List.{flat_map}
use Rattle.std.specs.Global.{Global}
use Rattle.server_core.specs.declared.entry.Entry.{Entry}
use Rattle.server_core.specs.World.{Gateway}
use Rattle.run_lines.specs.EntryLine.{line_text}
use Rattle.run_lines.specs.ReplayText.{by_id, gateway_lines}
use Rattle.run_lines.specs.UplinkCounts.{counts_of, counts_text}
use Rattle.run_lines.specs.WholeLines.{LinesAreWhole}

module _ (entries : List (Entry Global)) (gateways : List Gateway) where
  -- the lines of the entries, of each gateway, and the last
  abbrev all_lines : List (List ℕ)
  all_lines =
      map (λ e. line_text e.line) entries
      ++ (flat_map gateway_lines (by_id gateways) ++ counts_text (counts_of entries) ∷ [])

  pub each_byte_is_no_line_feed : LinesAreWhole → (i k : ℕ) (line : List ℕ) (byte : ℕ) → i < length all_lines
      → k < length (get_or all_lines i line) → get_or (get_or all_lines i line) k byte ≢ 10
  each_byte_is_no_line_feed law i k line byte h g = law entries gateways i line h k byte g
