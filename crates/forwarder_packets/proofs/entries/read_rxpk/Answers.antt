use Rattle.std.proofs.Common.{◌∙◌, sym, ap, map}
use Rattle.std.specs.Prelude.{Ok}
use Rattle.json.specs.Find.{as_array}
use Rattle.json.specs.Value.{value_view}
use Rattle.json.proofs.Trees.{view-Array}
use Rattle.forwarder_packets.specs.Entries.{entries_of, of_array}
use Rattle.forwarder_packets.proofs.Arrays.{list_back}
use Rattle.forwarder_packets.proofs.entries.read_rxpk.Goals as goal

pub returns-in-Ok-clause-packets : goal.returns-in-Ok-clause-packets
returns-in-Ok-clause-packets g c =
    ap (λ v. of_array (as_array (value_view v))) c.in-Array.is
    ∙ ap (λ j. of_array (as_array j)) (view-Array c.in-Array.items)
    ∙ ap (λ js. Ok (entries_of js)) (list_back (map value_view c.in-Array.items.items))
    ∙ ap (λ items. Ok (entries_of (map value_view items))) (sym c.deref.ensures.value)
    ∙ ap Ok (sym c.in-Ok.ensures)
