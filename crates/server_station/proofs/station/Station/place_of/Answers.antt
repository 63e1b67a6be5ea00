use Rattle.std.proofs.Common.{ap, ◌∙◌}
use Rattle.std.specs.Prelude.{◌==◌, find}
use Rattle.server_station.proofs.Numbered.{found_number}
use Rattle.server_station.proofs.station.Station.place_of.Goals as goal

pub returns : goal.returns
returns g c =
    found_number _ c.args.self.now c.args.gateway c.place_numbered.result
    (c.place_numbered.ensures ∙ ap (find (λ id. id == c.args.gateway)) (c.deref.ensures.value ∙ c.self.view_is))
