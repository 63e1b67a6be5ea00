use Rattle.std.specs.Prelude.{◌==◌, ◌&&◌, if◌then◌else◌, List, ◌++◌, find, map, Option, Some, None}
use Rattle.std.specs.List.{list_any, filter_map}
use Rattle.server_desk.specs.declared.setting.GatewaySetting.{GatewaySetting}
use Rattle.serve_journal.specs.Journal.{Mast, Node}
use Rattle.serve_opening.specs.declared.note.Note.{Note}
use Rattle.serve_opening.specs.declared.note.Note.TheVariants.{RulesStay, GatewayForgotten, SessionChanged, DeviceForgotten}
use Rattle.serve_opening.specs.Devices.{DeviceSession, is_kept}

-- What an operator is told of an opening.

-- a gateway has another cap or another gap than is set
abbrev pub stay_by : GatewaySetting → Option GatewaySetting → Option Note
stay_by g None = None
stay_by g (Some o) = if (o.cap == g.cap) && (o.gap == g.gap) then None else Some (RulesStay g.id o.cap o.gap)

abbrev pub stay_of : List GatewaySetting → GatewaySetting → Option Note
stay_of opened g = stay_by g (find (λ o. o.id == g.id) opened)

-- a gateway of the journal isn't in the settings
abbrev pub gateway_forgotten : Mast → Note
gateway_forgotten m = GatewayForgotten m.id m.eui

-- a device of the journal isn't in the settings, or is there in another session
abbrev pub device_note : List DeviceSession → Node → Option Note
device_note ss n =
    if is_kept ss n then None
    else if list_any (λ s. s.0 == n.addr) ss then Some (SessionChanged n.addr)
    else Some (DeviceForgotten n.addr)

-- the gateways of the settings in their order, then the gateways and the devices of the journal in theirs
abbrev pub notes_of : List GatewaySetting → List GatewaySetting → List Mast → List DeviceSession → List Node → List Note
notes_of gs opened ms ss ns = filter_map (stay_of opened) gs ++ (map gateway_forgotten ms ++ filter_map (device_note ss) ns)
