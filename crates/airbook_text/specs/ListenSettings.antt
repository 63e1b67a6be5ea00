use Rattle.std.specs.Prelude.{ℕ, ⊤, List, Option, Some, Result, Err}
use Rattle.text_words.specs.declared.fault.TextFault.{TextFault}
use Rattle.text_words.specs.declared.fault.TextFault.TheVariants.{Settings}
use Rattle.settings_text.specs.SettingsOfBytes.{settings_in, IsRefusedBy}

-- The settings of a server that listens: all of an input.

-- `Settings` comes only for bytes that say no settings, and names their fault
abbrev pub NamesSettings : {T : Type 0} → Option (List ℕ) → Result T TextFault → Type 0
NamesSettings (Some bytes) (Err (Settings name)) = IsRefusedBy (settings_in bytes) (Settings name)
NamesSettings left result = ⊤
