use Rattle.std.specs.Prelude.{ℕ, ◌≡◌, ◌≢◌, if◌then◌else◌, List, ⊤, Result, Ok, Err}
use Rattle.std.specs.Str.{is_utf8}
use Rattle.server_desk.specs.Settings.{SettingLists}
use Rattle.text_words.specs.declared.fault.TextFault.{TextFault}
use Rattle.text_words.specs.declared.fault.TextFault.TheVariants.{Settings}
use Rattle.text_words.specs.declared.fault.TextFault.TheVariants as texts
use Rattle.settings_text.specs.declared.settings_fault.ReadFault.{ReadFault}
use Rattle.settings_text.specs.declared.settings_fault.ReadFault.TheVariants.{NotToml, NoMemory}
use Rattle.settings_text.specs.SettingsFaultName.{name_of}
use Rattle.settings_text.specs.SettingsOfTable.{settings_of}

-- What bytes say as settings.

-- the settings of some bytes, or why they give none: bytes that are not UTF-8 are not TOML
abbrev pub settings_in : List ℕ → Result SettingLists ReadFault
settings_in bytes = if is_utf8 bytes then settings_of bytes else Err NotToml

-- a fault of settings, as a text call answers it: by its own name, but for want of memory
abbrev pub IsNamed : ReadFault → TextFault → Type 0
IsNamed fault (Settings name) = (fault ≢ NoMemory) × (name.now ≡ name_of fault)
IsNamed fault texts.NoMemory = fault ≡ NoMemory
IsNamed fault other = ⊥

-- the text call stops for the settings that some bytes say, or for want of memory
abbrev pub IsRefusedBy : Result SettingLists ReadFault → TextFault → Type 0
IsRefusedBy said texts.NoMemory = ⊤
IsRefusedBy (Ok settings) fault = ⊥
IsRefusedBy (Err fault) named = IsNamed fault named
