use Rattle.std.proofs.Common.{◌∙◌, ◌++◌, ◌-◌, length, take, drop, map, ap}
use Rattle.json.specs.Value.{value_view}
use Rattle.forwarder_packets.specs.Entries.{too_many, without_ghosts}
use Rattle.forwarder_packets.proofs.Arrays.{packets_told}
use Rattle.forwarder_packets.proofs.entries.read_array.Goals as goal

pub returns : goal.returns
returns g c =
    let items = c.args.items.now in
    c.in_ok-add_too_many.ensures
    ∙ ap (λ l. l ++ map too_many (map value_view (take (length items - c.min-count.result) (drop c.min-count.result items))))
    (c.in_ok-entries.ensures ∙ ap without_ghosts c.in_ok-read_each.ensures)
    ∙ packets_told value_view items c.min-count.result c.min-count.ensures
