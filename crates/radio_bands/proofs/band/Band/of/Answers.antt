use Rattle.std.proofs.Common.{sym, ◌∙◌}
use Rattle.radio_bands.proofs.BandLaws.{chosen, chosen_alone}
use Rattle.radio_bands.proofs.band.Band.of.Goals as goal

pub returns-clause-row : goal.returns-clause-row
returns-clause-row c band =
    let only = c.nearest-nearest.ensures c.args.rate in
    rw c.then_some.ensures (chosen_alone c.holds.result _ _ c.nearest-nearest.result only (sym c.holds.ensures.value) band)

pub returns-clause-value : goal.returns-clause-value
returns-clause-value c =
    let only = c.nearest-nearest.ensures c.args.rate in
    c.then_some.ensures ∙ chosen c.holds.result _ _ c.nearest-nearest.result only (sym c.holds.ensures.value)
