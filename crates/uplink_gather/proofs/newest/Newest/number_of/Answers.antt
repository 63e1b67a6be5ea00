use Rattle.std.proofs.Common.{ap, ◌∙◌}
use Rattle.uplink_gather.specs.Indexed.{number_of}
use Rattle.uplink_gather.proofs.IndexLemmas.{lookup-as_index}
use Rattle.uplink_gather.proofs.newest.Newest.number_of.Goals as goal

pub returns : goal.returns
returns g c =
    c.copied.ensures
    ∙ c.get.ensures.value
    ∙ lookup-as_index (λ k. k.bytes.items) c.args.bytes.now c.self.inside.numbers.entries
    ∙ ap (number_of c.args.bytes.now) c.self.view_is
