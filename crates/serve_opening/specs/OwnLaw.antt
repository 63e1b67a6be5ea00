use Rattle.std.specs.Prelude.{◌≡◌, ◌≢◌, List, [], ◌∷◌, drop, slice_get, AllPairs}
use Rattle.server_desk.specs.declared.setting.GatewaySetting.{GatewaySetting}
use Rattle.serve_journal.specs.Journal.{Mast}
use Rattle.serve_settings.specs.declared.forwarder.Forwarder.{Forwarder}
use Rattle.serve_opening.specs.Gateways.{Matched, known_by, matched}

-- Where no two packet forwarders have the same EUI, each gateway has the first with its EUI, whatever the others have.

abbrev pub each_known : List GatewaySetting → List Forwarder → List Mast → List Matched
each_known [] fs ms = []
each_known (g ∷ gs) fs ms = (g, known_by (slice_get fs 0) ms) ∷ each_known gs (drop 1 fs) ms

abbrev pub EachTakesItsOwn : Type 0
EachTakesItsOwn =
    (gs : List GatewaySetting) (fs : List Forwarder) (ms : List Mast) → AllPairs (λ f e. f.eui ≢ e.eui) fs
    → matched gs fs ms ≡ each_known gs fs ms
