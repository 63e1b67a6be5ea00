-- What a note is made of.
use Rattle.std.specs.Prelude.{◌≤◌, ℕ, List, if◌then◌else◌, nat_le}
use Rattle.std.specs.List.{All}

-- a printable character of ASCII, so neither a line feed nor another control
abbrev pub IsPrintable : ℕ → Type 0
IsPrintable byte = (32 ≤ byte) × (byte ≤ 126)

-- all of the bytes are printable
abbrev pub ArePrintable : List ℕ → Type 0
ArePrintable bytes = All IsPrintable bytes

-- the byte, or a question mark (63) where it is not printable
abbrev pub printable : ℕ → ℕ
printable byte = if nat_le 32 byte then (if nat_le byte 126 then byte else 63) else 63
