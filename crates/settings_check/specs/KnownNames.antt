use Rattle.std.specs.Prelude.{ℕ, List, codes}
use Rattle.settings_check.specs.declared.setting_key.SettingKey.{SettingKey}
use Rattle.settings_check.specs.declared.setting_key.SettingKey.TheVariants.{Id, Cap, Gap, Addr, NwkSKey, AppSKey, Delay, Offset}
use Rattle.settings_check.specs.declared.setting_key.SettingKey.TheVariants.{Rx2Freq, Rx2Rate, Up, Down}
use Rattle.settings_check.specs.declared.walk.TableList.{TableList}
use Rattle.settings_check.specs.declared.walk.TableList.TheVariants.{Gateways, Devices}

-- The names that stand in settings (docs/FORMATS.md, "Settings").

-- that of a key
abbrev pub key_name : SettingKey → List ℕ
key_name Id = codes "id"
key_name Cap = codes "cap"
key_name Gap = codes "gap"
key_name Addr = codes "addr"
key_name NwkSKey = codes "nwkskey"
key_name AppSKey = codes "appskey"
key_name Delay = codes "delay"
key_name Offset = codes "offset"
key_name Rx2Freq = codes "rx2_freq"
key_name Rx2Rate = codes "rx2_dr"
key_name Up = codes "up"
key_name Down = codes "down"

-- that of a list of tables
abbrev pub list_name : TableList → List ℕ
list_name Gateways = codes "gateway"
list_name Devices = codes "device"
