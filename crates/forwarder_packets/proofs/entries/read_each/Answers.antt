use Rattle.std.proofs.Common.{◌++◌, ◌+◌, ◌∙◌, map, drop, ap, sym, arith}
use Rattle.std.proofs.lemmas.Simd.{map-map}
use Rattle.json.specs.Value.{value_view}
use Rattle.forwarder_packets.specs.Entry.{entry_of}
use Rattle.forwarder_packets.specs.Seen.{received}
use Rattle.forwarder_packets.proofs.Reading.{read_more, read_whole}
use Rattle.forwarder_packets.proofs.entries.read_each.Goals as goal

pub loop-item-preserved : goal.loop-item-preserved
loop-item-preserved g c =
    let items = c.args.items.now in
    let k = c.loop-item.item-index in
    ap (λ es. map received es ++ map (λ v. entry_of (value_view v)) (drop (k + 1) items)) c.in_ok-push.ensures.items
    ∙ read_more (λ v. entry_of (value_view v)) received items k _ c.loop-item.entries.items c.in_ok-read_entry.field-0
    c.loop-item-test.true (c.in_ok-read_entry.ensures ∙ ap (λ v. entry_of (value_view v)) (c.item-item.is)) c.loop-item.invariant

pub returns : goal.returns
returns g c =
    read_whole (λ v. entry_of (value_view v)) received c.args.items.now c.loop-item.item-index c.loop-item.entries.items
    (omega (arith, c.loop-item-test.false, c.loop-item.auto.item-index-end)) c.loop-item.invariant
    ∙ sym (map-map entry_of value_view c.args.items.now)
