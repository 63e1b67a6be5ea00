use Rattle.std.specs.Prelude.{ℕ, ◌+◌, ◌-◌, nat_le, if◌then◌else◌, List, [], ◌∷◌, ◌++◌, length, map, Some, Vec, codes, decimal}
use Rattle.std.specs.List.{flat_map}
use Rattle.resv_list.specs.Reservations.{net}
use Rattle.gateway_book.specs.Step.{State}
use Rattle.gateway_book.specs.declared.totals.Totals.{Totals}
use Rattle.server_core.specs.declared.entry.Entry.{Entry}
use Rattle.server_core.specs.World.{Gateway}
use Rattle.text_words.specs.Words.{spaced}
use Rattle.run_lines.specs.EntryLine.{line_text}
use Rattle.text_words.specs.Busiest.{all_busiest_lines}
use Rattle.run_lines.specs.declared.uplink_counts.UplinkCounts.{UplinkCounts}
use Rattle.run_lines.specs.UplinkCounts.{counts_of, counts_text}

-- The lines of a replay: an answer's lines for each event, and then a report.

-- a gateway in its place by id, before those with the same id
abbrev pub placed : Gateway → List Gateway → List Gateway
placed g [] = g ∷ []
placed g (other ∷ more) = if nat_le g.id other.id then g ∷ other ∷ more else other ∷ placed g more

-- gateways by id, the least first; those with the same id keep their order
abbrev pub by_id : List Gateway → List Gateway
by_id [] = []
by_id (g ∷ more) = placed g (by_id more)

-- what was counted at a gateway whose list is what it keeps: what was booked, and is neither cancelled nor kept, is
-- retired
abbrev pub totals_at : State → Totals
totals_at s =
    record {
      booked = s.booked;
      cancelled = s.cancelled;
      retired = s.booked - (s.cancelled + net s.list);
      kept_airtime = net s.list;
      kept = length s.list;
      floor = s.floor;
    }

-- the line of it
abbrev pub counts_line : ℕ → Totals → List ℕ
counts_line id totals =
    spaced (codes "gateway" ∷ decimal id
    ∷ codes "booked" ∷ decimal totals.booked
    ∷ codes "cancelled" ∷ decimal totals.cancelled
    ∷ codes "retired" ∷ decimal totals.retired
    ∷ codes "kept" ∷ decimal totals.kept ∷ [])

-- the report of a gateway whose list is what it keeps
abbrev pub gateway_lines : Gateway → List (List ℕ)
gateway_lines g = counts_line g.id (totals_at g.state) ∷ all_busiest_lines (Some g.id) g.state.list

-- the lines that answer the events
abbrev pub entry_lines : {A : Type 0} → List (Entry A) → List (List ℕ)
entry_lines entries = map (λ e. line_text e.line) entries

-- the report at the end
abbrev pub report_of : UplinkCounts → List Gateway → List (List ℕ)
report_of counts gateways = flat_map gateway_lines (by_id gateways) ++ counts_text counts ∷ []

abbrev pub report_lines : {A : Type 0} → List (Entry A) → List Gateway → List (List ℕ)
report_lines entries gateways = report_of (counts_of entries) gateways

-- all lines
abbrev pub replay_lines : {A : Type 0} → List (Entry A) → List Gateway → List (List ℕ)
replay_lines entries gateways = entry_lines entries ++ report_lines entries gateways

-- the bytes of some texts, one behind another
abbrev pub bytes_of : {A : Type 0} → List (Vec ℕ A) → List ℕ
bytes_of texts = flat_map (λ text. text.items) texts
