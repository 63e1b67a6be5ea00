use Rattle.std.proofs.Common.{ℕ, ◌≡◌, Bool, true, false, List, ap, refl}
use Rattle.std.specs.Prelude.{if◌then◌else◌}
use Rattle.std.specs.Str.{IsUtf8, is_utf8}
use Rattle.std.proofs.lemmas.Str.{is_utf8-from_IsUtf8, IsUtf8-from_is_utf8}
use Rattle.json.specs.Json.{document}
use Rattle.forwarder_packets.specs.TxAck.{other, failure_of_document, failure_of_text}

-- What stands behind the head of a TX_ACK is a text, or none.

pub failure-text : (bytes : List ℕ) → IsUtf8 bytes → failure_of_text bytes ≡ failure_of_document (document bytes)
failure-text bytes h = ap (λ (t : Bool). if t then failure_of_document (document bytes) else other) (is_utf8-from_IsUtf8 bytes h)

by_test : (bytes : List ℕ) (t : Bool) → is_utf8 bytes ≡ t → ¬ (IsUtf8 bytes) → failure_of_text bytes ≡ other
by_test bytes true e h = absurd (h (IsUtf8-from_is_utf8 bytes e))
by_test bytes false e h = ap (λ (t : Bool). if t then failure_of_document (document bytes) else other) e

pub failure-other : (bytes : List ℕ) → ¬ (IsUtf8 bytes) → failure_of_text bytes ≡ other
failure-other bytes h = by_test bytes (is_utf8 bytes) refl h
