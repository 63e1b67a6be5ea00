use Rattle.uplink_gather.specs.declared.text.Text.{Text}
use Rattle.uplink_gather.proofs.IndexLemmas.{key_renews}
use Rattle.uplink_gather.proofs.newest.Newest.renew.Goals as goal

pub returns-clause-renewed : goal.returns-clause-renewed
returns-clause-renewed g c =
    let text : Text _ = record { bytes = c.in_ok-text.text } in
    rw (← c.self.view_is, c.in_ok-place.ensures.index, c.in_ok-place.ensures.entries)
    (key_renews (λ k. k.bytes.items) c.self.inside.numbers.entries text c.args.number c.args.bytes.now c.in_ok-text.ensures.items)
