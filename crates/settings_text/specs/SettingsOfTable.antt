use Rattle.std.specs.Prelude.{ℕ, List, [], ◌∷◌, codes, Option, Some, None, Result, Ok, Err}
use Rattle.std.specs.Option.{ok_or}
use Rattle.toml.specs.Data.{Data, array, table, Items, no_items, item, Members, get_member}
use Rattle.toml.specs.Parse.{parse_document}
use Rattle.server_desk.specs.declared.setting.GatewaySetting.{GatewaySetting}
use Rattle.server_desk.specs.declared.setting.DeviceSetting.{DeviceSetting}
use Rattle.server_desk.specs.declared.settings_fault.SettingsFault.{SettingsFault}
use Rattle.server_desk.specs.Settings.{SettingLists, settings_fault}
use Rattle.settings_text.specs.declared.settings_fault.ReadFault.{ReadFault}
use Rattle.settings_text.specs.declared.settings_fault.ReadFault.TheVariants.{NotToml, Kind, Checked}
use Rattle.settings_text.specs.SettingsFields.{said_or, id_of, cap_of, gap_of, addr_of, nwk_of, app_of, delay_of, offset_of}
use Rattle.settings_text.specs.SettingsFields.{rx2_freq_of, rx2_rate_of, up_of, down_of, ◌>>=◌}

-- The settings that a text gives (docs/FORMATS.md, "Settings"). Of several faults the first in the order
-- of these definitions is named.

-- a gateway's table
abbrev pub gateway_setting : Members → Result GatewaySetting ReadFault
gateway_setting gateway = do
  id ← id_of gateway
  most ← cap_of gateway
  gap ← gap_of gateway
  Ok (record { id = id; cap = most; gap = gap })

-- a device's table
abbrev pub device_setting : Members → Result DeviceSetting ReadFault
device_setting device = do
  addr ← addr_of device
  nwk ← nwk_of device
  app ← app_of device
  delay ← delay_of device
  offset ← offset_of device
  rx2_freq ← rx2_freq_of device
  rx2_rate ← rx2_rate_of device
  up ← up_of device
  down ← down_of device
  Ok (record {
    addr = addr;
    nwk = nwk;
    app = app;
    delay = delay;
    offset = offset;
    rx2_freq = rx2_freq;
    rx2_rate = rx2_rate;
    up =
        up;
    down = down;
  })

-- what a value says, which has to be a table
abbrev pub setting_in : {T : Type 0} → (Members → Result T ReadFault) → Data → Result T ReadFault
setting_in said (table members) = said members
setting_in said _ = Err Kind

-- what the tables of an array say, in order
abbrev pub each_in : {T : Type 0} → (Members → Result T ReadFault) → Items → Result (List T) ReadFault
each_in said no_items = Ok []
each_in said (item value more) = do
  found ← setting_in said value
  rest ← each_in said more
  Ok (found ∷ rest)

-- what an array of tables says
abbrev pub list_in : {T : Type 0} → (Members → Result T ReadFault) → Data → Result (List T) ReadFault
list_in said (array values) = each_in said values
list_in said _ = Err Kind

-- what the array of tables at a key says, which may be left out
abbrev pub list_at : {T : Type 0} → (Members → Result T ReadFault) → List ℕ → Members → Result (List T) ReadFault
list_at said key members = said_or [] (list_in said) (get_member key members)

-- the gateways and devices of a document
abbrev pub lists_of : Members → Result SettingLists ReadFault
lists_of document = do
  gateways ← list_at gateway_setting (codes "gateway") document
  devices ← list_at device_setting (codes "device") document
  Ok (record { gateways = gateways; devices = devices })

-- the lists, or why they are refused
abbrev pub or_refused : SettingLists → Option SettingsFault → Result SettingLists ReadFault
or_refused lists None = Ok lists
or_refused lists (Some fault) = Err (Checked fault)

-- the settings of a document, or why it gives none
abbrev pub settings_of_document : Members → Result SettingLists ReadFault
settings_of_document document = do
  lists ← lists_of document
  or_refused lists (settings_fault lists.gateways lists.devices)

-- the settings of a text, or why it gives none
unfoldable pub settings_of : List ℕ → Result SettingLists ReadFault
settings_of text = do
  document ← ok_or (parse_document text) NotToml
  settings_of_document document
