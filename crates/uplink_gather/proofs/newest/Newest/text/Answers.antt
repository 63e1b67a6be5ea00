use Rattle.std.proofs.Common.{sym, ap, ◌∙◌}
use Rattle.std.specs.Option.{option_map}
use Rattle.std.specs.Map.Iter.{deref_pair}
use Rattle.uplink_gather.specs.Indexed.{text_at}
use Rattle.uplink_gather.proofs.IndexLemmas.{text_at-as_index}
use Rattle.uplink_gather.proofs.newest.Newest.text.Goals as goal

pub returns-in-Some : goal.returns-in-Some
returns-in-Some g c =
    let there = sym c.get_index.ensures.entry ∙ ap (option_map deref_pair) c.in-Some.is in
    c.as_slice.ensures.value
    ∙ sym (text_at-as_index (λ k. k.bytes.items) c.self.inside.numbers.entries c.args.place _ there)
    ∙ ap (λ index. text_at index c.args.place) c.self.view_is

pub returns-in-None : goal.returns-in-None
returns-in-None g c =
    let there = sym c.get_index.ensures.entry ∙ ap (option_map deref_pair) c.in-None.is in
    sym (text_at-as_index (λ k. k.bytes.items) c.self.inside.numbers.entries c.args.place _ there)
    ∙ ap (λ index. text_at index c.args.place) c.self.view_is
