-- Lemmas on the settings that bytes say to a server that packet forwarders are pointed at.
use Rattle.std.proofs.Common.{◌≡◌, ◌≢◌, ℕ, Bool, true, false, if◌then◌else◌, List, Err, Result, refl, sym, ap, subst}
use Rattle.std.specs.Str.{IsUtf8, is_utf8}
use Rattle.std.proofs.lemmas.Str.{is_utf8-from_IsUtf8, IsUtf8-from_is_utf8}
use Rattle.text_words.specs.declared.fault.TextFault.{TextFault}
use Rattle.text_words.specs.declared.fault.TextFault.TheVariants.{Read, Write, TooMuch, Settings}
use Rattle.text_words.specs.declared.fault.TextFault.TheVariants as texts
use Rattle.settings_text.specs.declared.settings_fault.ReadFault.TheVariants.{NotToml}
use Rattle.serve_settings.specs.declared.serve_fault.ServeFault.{ServeFault}
use Rattle.serve_settings.specs.declared.serve_fault.ServeFault.TheVariants as serving
use Rattle.serve_settings.specs.ServeSettings.{ServeLists, no_memory, serve_settings_of}
use Rattle.airbook_text.specs.WholeServeSettings.{serve_settings_in, IsNamed, IsRefusedBy}

-- those of bytes that are a text, or of others
abbrev either : List ℕ → Bool → Result ServeLists ServeFault
either bytes t = if t then serve_settings_of bytes else Err (serving.Read NotToml)

pub serve_settings_in-text : (bytes : List ℕ) → IsUtf8 bytes → serve_settings_in bytes ≡ serve_settings_of bytes
serve_settings_in-text bytes h = ap (either bytes) (is_utf8-from_IsUtf8 bytes h)

by_test : (bytes : List ℕ) (t : Bool) → is_utf8 bytes ≡ t → ¬ (IsUtf8 bytes)
    → serve_settings_in bytes ≡ Err (serving.Read NotToml)
by_test bytes true e h = absurd (h (IsUtf8-from_is_utf8 bytes e))
by_test bytes false e h = ap (either bytes) e

pub serve_settings_in-other : (bytes : List ℕ) → ¬ (IsUtf8 bytes) → serve_settings_in bytes ≡ Err (serving.Read NotToml)
serve_settings_in-other bytes h = by_test bytes (is_utf8 bytes) refl h

-- a fault of the settings refuses the call
pub refused : (said : Result ServeLists ServeFault) (fault : ServeFault) (named : TextFault)
    → (fault ≢ no_memory → said ≡ Err fault) → IsNamed fault named → IsRefusedBy said named
refused said fault Read h n = absurd n
refused said fault Write h n = absurd n
refused said fault TooMuch h n = absurd n
refused said fault (Settings name) h n = subst (λ s. IsRefusedBy s (Settings name)) (sym (h n.0)) n
refused said fault texts.NoMemory h n = tt
