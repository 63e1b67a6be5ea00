-- Lemmas on the settings that bytes say.
use Rattle.std.proofs.Common.{◌≡◌, ◌≢◌, ℕ, Bool, true, false, if◌then◌else◌, List, Err, Result, refl, sym, ap, subst}
use Rattle.std.specs.Str.{IsUtf8, is_utf8}
use Rattle.std.proofs.lemmas.Str.{is_utf8-from_IsUtf8, IsUtf8-from_is_utf8}
use Rattle.server_desk.specs.Settings.{SettingLists}
use Rattle.text_words.specs.declared.fault.TextFault.{TextFault}
use Rattle.text_words.specs.declared.fault.TextFault.TheVariants.{Read, Write, TooMuch, Settings}
use Rattle.text_words.specs.declared.fault.TextFault.TheVariants as texts
use Rattle.settings_text.specs.declared.settings_fault.ReadFault.{ReadFault}
use Rattle.settings_text.specs.declared.settings_fault.ReadFault.TheVariants.{NotToml, NoMemory}
use Rattle.settings_text.specs.SettingsOfTable.{settings_of}
use Rattle.settings_text.specs.SettingsOfBytes.{settings_in, IsNamed, IsRefusedBy}

pub settings_in-text : (bytes : List ℕ) → IsUtf8 bytes → settings_in bytes ≡ settings_of bytes
settings_in-text bytes h = ap (λ (t : Bool). if t then settings_of bytes else Err NotToml) (is_utf8-from_IsUtf8 bytes h)

by_test : (bytes : List ℕ) (t : Bool) → is_utf8 bytes ≡ t → ¬ (IsUtf8 bytes) → settings_in bytes ≡ Err NotToml
by_test bytes true e h = absurd (h (IsUtf8-from_is_utf8 bytes e))
by_test bytes false e h = ap (λ (t : Bool). if t then settings_of bytes else Err NotToml) e

pub settings_in-other : (bytes : List ℕ) → ¬ (IsUtf8 bytes) → settings_in bytes ≡ Err NotToml
settings_in-other bytes h = by_test bytes (is_utf8 bytes) refl h

-- a fault of the settings refuses the call
pub refused : (said : Result SettingLists ReadFault) (fault : ReadFault) (named : TextFault)
    → (fault ≢ NoMemory → said ≡ Err fault) → IsNamed fault named → IsRefusedBy said named
refused said fault Read h n = absurd n
refused said fault Write h n = absurd n
refused said fault TooMuch h n = absurd n
refused said fault (Settings name) h n = subst (λ s. IsRefusedBy s (Settings name)) (sym (h n.0)) n
refused said fault texts.NoMemory h n = tt
