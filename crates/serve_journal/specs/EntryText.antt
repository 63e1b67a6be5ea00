use Rattle.std.specs.Prelude.{ℕ, List, [], ◌∷◌, codes, decimal, Option, Some, None}
use Rattle.std.specs.Int.{w32, to_be_bytes}
use Rattle.hex.specs.Hex.{encode_lower}
use Rattle.radio_airtime.specs.DataRate.{number_of}
use Rattle.text_lines.specs.Words.{spaced}
use Rattle.serve_journal.specs.declared.entry.Entry.{Entry}
use Rattle.serve_journal.specs.declared.entry.Entry.TheVariants.{Gateway, Device, Queue, Taken, Clock, Sent}

-- The lines of a journal, spelled as those of a saved book: words with a single space between two, numbers without leading zeros.

-- ADDR: an address, 8 hexadecimal digits in lower case, the most significant first
abbrev pub addr_digits : ℕ → List ℕ
addr_digits addr = encode_lower (to_be_bytes w32 addr)

-- UP: the last uplink counter, or a dash where there was no uplink
abbrev pub up_word : Option ℕ → List ℕ
up_word None = codes "-"
up_word (Some counter) = decimal counter

-- HEX: bytes, two digits for each, or a dash for none
abbrev pub bytes_word : List ℕ → List ℕ
bytes_word [] = codes "-"
bytes_word (byte ∷ more) = encode_lower (byte ∷ more)

-- the words of an entry's line
abbrev pub entry_words : Entry → List (List ℕ)
entry_words (Gateway id eui cap gap) = codes "gateway" ∷ decimal id ∷ encode_lower eui ∷ decimal cap ∷ decimal gap ∷ []
entry_words (Device addr session up down) =
    codes "device" ∷ addr_digits addr ∷ encode_lower session ∷ up_word up ∷ decimal down ∷ []
entry_words (Queue addr payload) =
    codes "queue" ∷ addr_digits addr ∷ decimal payload.port ∷ bytes_word payload.bytes ∷ []
entry_words (Taken addr) = codes "taken" ∷ addr_digits addr ∷ []
entry_words (Clock id high floor) = codes "clock" ∷ decimal id ∷ decimal high ∷ decimal floor ∷ []
entry_words (Sent id start freq_hz rate len) =
    codes "sent" ∷ decimal id ∷ decimal start ∷ decimal freq_hz ∷ decimal (number_of rate) ∷ decimal len ∷ []

-- its line, without its end
abbrev pub entry_text : Entry → List ℕ
entry_text entry = spaced (entry_words entry)
