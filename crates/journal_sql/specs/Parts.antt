use Rattle.std.specs.Prelude.{ℕ, List, [], ◌∷◌, ◌++◌, map}
use Rattle.text_lines.specs.Line.{text_of}
use Rattle.serve_journal.specs.Journal.{Mast, Node}
use Rattle.journal_sql.specs.Rows.{gateway_row, device_row}
use Rattle.journal_sql.specs.Sql.{table_lines, end_line, queued_rows, sent_rows}

-- The text part by part.

-- behind other bytes
abbrev pub parts_behind : List ℕ → List Mast → List Node → List ℕ
parts_behind bytes gateways devices =
    bytes ++ text_of table_lines ++ text_of (map gateway_row gateways) ++ text_of (map device_row devices)
    ++ text_of (queued_rows 1 devices) ++ text_of (sent_rows 1 gateways) ++ (end_line ++ 10 ∷ [])
