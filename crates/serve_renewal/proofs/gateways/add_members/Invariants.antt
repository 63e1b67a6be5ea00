use Rattle.std.proofs.Common.{◌≡◌, ◌++◌, length, map}
use Rattle.resv_list.specs.Sorted.{rest_from}
use Rattle.resv_list.specs.Reservations.{start_of}
use Rattle.serve_journal.specs.Renewal.{sent_entry}
use Rattle.serve_downlinks.specs.Batch.{entries_text}
use Rattle.serve_renewal.proofs.gateways.add_members.Given as goal

-- what was added, and what is still to be added, are the whole
abbrev pub invariant-loop-member : goal.invariant-loop-member
invariant-loop-member g l =
    l.text.items ++ entries_text (map (sent_entry l.gateway) (rest_from start_of l.from (g.R.Roster.list l.roster)))
    ≡ l.initial.text.items ++ entries_text (map (sent_entry l.gateway) (g.R.Roster.list l.roster))

abbrev pub decreases-loop-member : goal.decreases-loop-member
decreases-loop-member g l = length (rest_from start_of l.from (g.R.Roster.list l.roster))
