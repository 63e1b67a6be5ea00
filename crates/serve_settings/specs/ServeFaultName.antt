use Rattle.std.specs.Prelude.{ℕ, List, codes}
use Rattle.settings_text.specs.SettingsFaultName as settings
use Rattle.serve_settings.specs.declared.serve_fault.ServeFault.{ServeFault}
use Rattle.serve_settings.specs.declared.serve_fault.ServeFault.TheVariants.{Read, Missing, Kind, Range, Gap, DoubleEui}

-- the name that a program prints: for settings that a run would refuse that of their own fault
abbrev pub name_of : ServeFault → List ℕ
name_of (Read fault) = settings.name_of fault
name_of Missing = codes "Missing"
name_of Kind = codes "Kind"
name_of Range = codes "Range"
name_of Gap = codes "Gap"
name_of DoubleEui = codes "DoubleEui"
