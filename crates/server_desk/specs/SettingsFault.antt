use Rattle.std.specs.Prelude.{ℕ, List, codes}
use Rattle.server_desk.specs.declared.settings_fault.SettingsFault.{SettingsFault}
use Rattle.server_desk.specs.declared.settings_fault.SettingsFault.TheVariants.{Count, Range, DoubleGateway, NoBand, DoubleDevice}

-- the name that a program prints
abbrev pub name_of : SettingsFault → List ℕ
name_of Count = codes "Count"
name_of Range = codes "Range"
name_of DoubleGateway = codes "DoubleGateway"
name_of NoBand = codes "NoBand"
name_of DoubleDevice = codes "DoubleDevice"
