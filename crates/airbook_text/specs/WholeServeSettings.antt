use Rattle.std.specs.Prelude.{ℕ, ◌≡◌, ◌≢◌, ⊤, if◌then◌else◌, List, Option, Some, Result, Ok, Err}
use Rattle.std.specs.Str.{is_utf8}
use Rattle.text_words.specs.declared.fault.TextFault.{TextFault}
use Rattle.text_words.specs.declared.fault.TextFault.TheVariants.{Settings}
use Rattle.text_words.specs.declared.fault.TextFault.TheVariants as texts
use Rattle.settings_text.specs.declared.settings_fault.ReadFault.TheVariants.{NotToml}
use Rattle.serve_settings.specs.declared.serve_fault.ServeFault.{ServeFault}
use Rattle.serve_settings.specs.declared.serve_fault.ServeFault.TheVariants.{Read}
use Rattle.serve_settings.specs.ServeFaultName.{name_of}
use Rattle.serve_settings.specs.ServeSettings.{ServeLists, no_memory, serve_settings_of}

-- The settings of a server that packet forwarders are pointed at: all of an input.

-- the settings of some bytes, or why they give none: bytes that are not UTF-8 are not TOML
abbrev pub serve_settings_in : List ℕ → Result ServeLists ServeFault
serve_settings_in bytes = if is_utf8 bytes then serve_settings_of bytes else Err (Read NotToml)

-- a fault of settings, as a text call answers it: by its own name, but for want of memory
abbrev pub IsNamed : ServeFault → TextFault → Type 0
IsNamed fault (Settings name) = (fault ≢ no_memory) × (name.now ≡ name_of fault)
IsNamed fault texts.NoMemory = fault ≡ no_memory
IsNamed fault other = ⊥

-- the text call stops for the settings that some bytes say, or for want of memory
abbrev pub IsRefusedBy : Result ServeLists ServeFault → TextFault → Type 0
IsRefusedBy said texts.NoMemory = ⊤
IsRefusedBy (Ok settings) fault = ⊥
IsRefusedBy (Err fault) named = IsNamed fault named

-- `Settings` comes only for bytes that say no settings, and names their fault
abbrev pub NamesServeSettings : {T : Type 0} → Option (List ℕ) → Result T TextFault → Type 0
NamesServeSettings (Some bytes) (Err (Settings name)) = IsRefusedBy (serve_settings_in bytes) (Settings name)
NamesServeSettings left result = ⊤
