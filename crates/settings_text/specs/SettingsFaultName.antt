use Rattle.std.specs.Prelude.{ℕ, List, codes}
use Rattle.settings_text.specs.declared.settings_fault.ReadFault.{ReadFault}
use Rattle.settings_text.specs.declared.settings_fault.ReadFault.TheVariants.{NotToml, Missing, Kind, Checked, NoMemory}
use Rattle.server_desk.specs.SettingsFault as refused

-- the name that a program prints: for settings that were refused that of their own fault
abbrev pub name_of : ReadFault → List ℕ
name_of NotToml = codes "NotToml"
name_of Missing = codes "Missing"
name_of Kind = codes "Kind"
name_of (Checked fault) = refused.name_of fault
name_of NoMemory = codes "NoMemory"
