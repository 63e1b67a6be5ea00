use Rattle.std.specs.Prelude.{ℕ, ◌≡◌, ◌<◌, ◌^◌, ◌++◌, List, [], length}
use Rattle.std.specs.Global.{Global}
use Rattle.server_core.specs.declared.event.Event.{Event}
use Rattle.server_desk.specs.declared.setting.GatewaySetting.{GatewaySetting}
use Rattle.server_station.specs.Stations.{AreInOrder}
use Rattle.run_server.specs.WorkersRun.{RunState, run_state, opening_till, AreDone}

-- A run with workers answers the first events while those behind them are still made.

-- what the first of these events ask for was done at a station of gateways with these settings, from its opening on, and the
-- rest of them is left, of which the first has this place
pub record IsAhead (gateways : List GatewaySetting) (es : List (Event Global)) (ids : List ℕ) (place : ℕ)
    (rest : List (Event Global)) (reached : RunState) : Type 0 where
  pub in_order : AreInOrder gateways ids
  pub front : List (Event Global)
  pub whole : es ≡ front ++ rest
  pub behind : place ≡ length front
  pub few : place < 2 ^ 63
  pub done : AreDone ids 0 front (run_state opening_till [] []) reached
