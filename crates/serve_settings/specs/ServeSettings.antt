use Rattle.std.specs.Prelude.{ℕ, Bool, true, false, nat_lt, if◌then◌else◌, List, [], ◌∷◌, ◌++◌, codes, Result, Ok, Err}
use Rattle.std.specs.List.{list_any}
use Rattle.std.specs.Option.{ok_or}
use Rattle.std.specs.Str.{bytes_eq}
use Rattle.toml.specs.Data.{Data, array, table, Items, no_items, item, Members, get_member}
use Rattle.toml.specs.Parse.{parse_document}
use Rattle.server_desk.specs.declared.setting.GatewaySetting.{GatewaySetting}
use Rattle.server_desk.specs.Settings.{SettingLists}
use Rattle.settings_text.specs.declared.settings_fault.ReadFault.{ReadFault}
use Rattle.settings_text.specs.declared.settings_fault.ReadFault.TheVariants.{NotToml, NoMemory}
use Rattle.settings_text.specs.SettingsOfTable.{settings_of_document}
use Rattle.serve_settings.specs.declared.forwarder.Forwarder.{Forwarder}
use Rattle.serve_settings.specs.declared.reading.ServeSettings.{ServeSettings}
use Rattle.serve_settings.specs.declared.serve_fault.ServeFault.{ServeFault}
use Rattle.serve_settings.specs.declared.serve_fault.ServeFault.TheVariants.{Read, Kind, Gap, DoubleEui}
use Rattle.serve_settings.specs.ForwarderKeys.{said_or, forwarder_of, ◌>>=◌}

-- The settings that a text gives to a server that packet forwarders are pointed at (docs/FORMATS.md, "Settings"). Of several
-- faults the first in the order of these definitions is named.

-- the settings of a run, and the packet forwarder of each gateway in order
pub record ServeLists : Type 0 where
  pub settings : SettingLists
  pub forwarders : List Forwarder

-- what callers see of them
abbrev pub given : ServeSettings → ServeLists
given s = record { settings = s.settings; forwarders = s.forwarders.items }

-- an allocation was refused
abbrev pub no_memory : ServeFault
no_memory = Read NoMemory

-- what a run finds, with its fault
abbrev pub as_read : {T : Type 0} → Result T ReadFault → Result T ServeFault
as_read (Ok found) = Ok found
as_read (Err fault) = Err (Read fault)

-- what a value says, which has to be a table
abbrev pub forwarder_in : Data → Result Forwarder ServeFault
forwarder_in (table members) = forwarder_of members
forwarder_in _ = Err Kind

-- what the tables of an array say, in order
abbrev pub each_in : Items → Result (List Forwarder) ServeFault
each_in no_items = Ok []
each_in (item value more) = do
  found ← forwarder_in value
  rest ← each_in more
  Ok (found ∷ rest)

-- what an array of tables says
abbrev pub list_in : Data → Result (List Forwarder) ServeFault
list_in (array values) = each_in values
list_in _ = Err Kind

-- what the gateways of a document say
abbrev pub forwarders_of : Members → Result (List Forwarder) ServeFault
forwarders_of document = said_or [] list_in (get_member (codes "gateway") document)

-- the gap is below what packet forwarders need, in microseconds
abbrev pub is_low_gap : GatewaySetting → Bool
is_low_gap g = nat_lt g.gap 45000

-- one of these has the EUI of another one, or of one of the earlier
abbrev pub has_double : List Forwarder → List Forwarder → Bool
has_double earlier [] = false
has_double earlier (f ∷ more) = if list_any (λ e. bytes_eq e.eui f.eui) earlier then true else has_double (earlier ++ f ∷ []) more

-- both, or why they are refused
abbrev pub checked : SettingLists → List Forwarder → Result ServeLists ServeFault
checked settings forwarders =
    if list_any is_low_gap settings.gateways then Err Gap
    else if has_double [] forwarders then Err DoubleEui
    else Ok (record { settings = settings; forwarders = forwarders })

-- the settings of a document, or why it gives none
abbrev pub serve_settings_of_document : Members → Result ServeLists ServeFault
serve_settings_of_document document = do
  settings ← as_read (settings_of_document document)
  forwarders ← forwarders_of document
  checked settings forwarders

-- the settings of a text, or why it gives none
unfoldable pub serve_settings_of : List ℕ → Result ServeLists ServeFault
serve_settings_of text = do
  document ← ok_or (parse_document text) (Read NotToml)
  serve_settings_of_document document
