use Rattle.std.specs.Prelude.{ℕ, ◌==◌, List, [], map, Option}
use Rattle.gateway_book.specs.Answer.{Rules}
use Rattle.gateway_book.specs.Step.{State}
use Rattle.uplink_gather.specs.declared.limits.Limits.{Limits}
use Rattle.server_desk.specs.declared.setting.GatewaySetting.{GatewaySetting}
use Rattle.server_desk.specs.Settings.{SettingLists}
use Rattle.server_desk.specs.Register.{Register, first_at, opened_device}
use Rattle.server_desk.specs.Answers.{Answer, Known, known_of}

-- The whole system: what the server knows, how far each answer is, and every gateway's list, which forgets nothing.

-- a gateway: its id, what its book is opened with, its floor, its list and its totals
pub record Gateway : Type 0 where
  pub id : ℕ
  pub rules : Rules
  pub state : State

pub record World : Type 0 where
  pub reg : Register
  pub answers : List Answer
  pub gateways : List Gateway

-- the ids of the gateways
abbrev pub ids : World → List ℕ
ids w = map (λ g. g.id) w.gateways

-- what the desk knows of the answers
abbrev pub known : World → List Known
known w = map known_of w.answers

-- the gateway with this id, with its place
abbrev pub gateway_with : ℕ → List Gateway → Option (ℕ × Gateway)
gateway_with id gateways = first_at (λ g. g.id == id) gateways

-- what its setting opens a gateway's book with
abbrev pub rules_of : GatewaySetting → Rules
rules_of g = record { cap = g.cap; gap = g.gap }

-- a gateway that has booked nothing
abbrev pub opened_gateway : GatewaySetting → Gateway
opened_gateway g = record {
  id = g.id;
  rules = rules_of g;
  state = record { floor = 0; list = []; booked = 0; cancelled = 0 };
}

-- the world of these settings before the first step
abbrev pub opening : SettingLists → Limits → World
opening settings limits = record {
  reg = record {
    devices = map opened_device settings.devices;
    gathered = record { list = []; limits = limits };
    asked = [];
  };
  answers = [];
  gateways = map opened_gateway settings.gateways;
}
