use Rattle.std.proofs.Common.{◌≡◌, ℕ, zero, suc, ◌+◌, ◌*◌, ◌/◌, ◌^◌, ◌<◌, ◌≤◌, Bool, true, false, List, [], ◌∷◌, length}
use Rattle.std.proofs.Common.{Option, Some, None, refl, sym, ap, ◌∙◌, arith, codes, decimal}
use Rattle.std.specs.Prelude.{⊤, if◌then◌else◌, option_and_then, nat_lt, nat_le}
use Rattle.std.specs.List.{list_all}
use Rattle.std.specs.Option.{option_map}
use Rattle.std.specs.Int.{w32, from_be_bytes, to_be_bytes}
use Rattle.std.specs.Cmp.Lexicographic.{bytes_decides}
use Rattle.std.proofs.lemmas.Bool.{and_parts, and_from, lt-ltb, le-leb, leb-true}
use Rattle.std.proofs.lemmas.Nat.{from_be_bytes-to_be_bytes_4}
use Rattle.hex.specs.Hex.{IsBytes, encode_lower, lower_digits}
use Rattle.hex.proofs.HexLemmas.{length-encode_with}
use Rattle.radio_airtime.specs.DataRate.{number_of, known_rate}
use Rattle.radio_airtime.specs.declared.data_rate.DataRate.{DataRate}
use Rattle.radio_airtime.specs.declared.data_rate.DataRate.TheVariants.{Dr0, Dr1, Dr2, Dr3, Dr4, Dr5, Dr6}
use Rattle.lora_frame.specs.Ports.{is_application_port}
use Rattle.text_lines.specs.Words.{is_named, spaced}
use Rattle.gateway_book.specs.Loading.{plain_number}
use Rattle.gateway_book.proofs.SavedNumbers.{plain-decimal, is_ink, is_ink-decimal, words_between-spaced}
use Rattle.serve_journal.specs.declared.entry.Entry.{Entry}
use Rattle.serve_journal.specs.declared.entry.Entry.TheVariants.{Gateway, Device, Queue, Taken, Clock, Sent}
use Rattle.serve_journal.specs.EntryText.{addr_digits, up_word, bytes_word, entry_words}
use Rattle.serve_journal.specs.EntryWords.{hex_sized, addr_in, up_in, digits_in, bytes_in, payload_in, entry_in, entry_of}
use Rattle.serve_journal.specs.LineLaws.{IsPayload, IsUp, IsEntry, EntriesReadBack}
use Rattle.serve_journal.specs.Payload.{Waiting}
use Rattle.serve_journal.proofs.HexDigits.{hex_back, is_ink-hex}

-- The line of an entry is read as that entry.

-- a number of 32 bits is four bytes
be_bytes : (n : ℕ) → IsBytes (to_be_bytes w32 n)
be_bytes n zero = omega arith
be_bytes n (suc zero) = omega arith
be_bytes n (suc (suc zero)) = omega arith
be_bytes n (suc (suc (suc zero))) = omega arith
be_bytes n (suc (suc (suc (suc i)))) = omega arith

addr_back : (addr : ℕ) → addr < 2 ^ 32 → addr_in (addr_digits addr) ≡ Some addr
addr_back addr small =
    ap (option_map (from_be_bytes w32)) (hex_back 4 (to_be_bytes w32 addr) refl (be_bytes addr))
    ∙ ap Some (from_be_bytes-to_be_bytes_4 addr small)

-- what no number is spelled as
no_dash : (n : ℕ) → n < 2 ^ 32 → (t : Bool) → is_named (codes "-") (decimal n) ≡ t → t ≡ false
no_dash n small true e =
    let same : decimal n ≡ codes "-" = (bytes_decides (decimal n) (codes "-")).0 e in
    let read : plain_number (2 ^ 32) (codes "-") ≡ Some n =
    ap (plain_number (2 ^ 32)) (sym same) ∙ plain-decimal (2 ^ 32) n small (omega arith) in
    let none : plain_number (2 ^ 32) (codes "-") ≡ None = refl in
    absurd (cc (read, none))
no_dash n small false e = refl

up_back : (up : Option ℕ) → IsUp up → up_in (up_word up) ≡ Some up
up_back None is = refl
up_back (Some n) is =
    rw (no_dash n is (is_named (codes "-") (decimal n)) refl, plain-decimal (2 ^ 32) n is (omega arith)) refl

rate_small : (rate : DataRate) → number_of rate < 2 ^ 8
rate_small Dr0 = omega arith
rate_small Dr1 = omega arith
rate_small Dr2 = omega arith
rate_small Dr3 = omega arith
rate_small Dr4 = omega arith
rate_small Dr5 = omega arith
rate_small Dr6 = omega arith

known : (rate : DataRate) → known_rate (number_of rate) ≡ Some rate
known Dr0 = refl
known Dr1 = refl
known Dr2 = refl
known Dr3 = refl
known Dr4 = refl
known Dr5 = refl
known Dr6 = refl

rate_back : (rate : DataRate) → option_and_then known_rate (plain_number (2 ^ 8) (decimal (number_of rate))) ≡ Some rate
rate_back rate =
    ap (option_and_then known_rate) (plain-decimal (2 ^ 8) (number_of rate) (rate_small rate) (omega arith)) ∙ known rate

-- bytes, of which there are some, are no dash
some_no_dash : (b : ℕ) (bytes : List ℕ) (t : Bool) → is_named (codes "-") (encode_lower (b ∷ bytes)) ≡ t → t ≡ false
some_no_dash b bytes true e =
    let same : encode_lower (b ∷ bytes) ≡ codes "-" = (bytes_decides (encode_lower (b ∷ bytes)) (codes "-")).0 e in
    let one : length (encode_lower (b ∷ bytes)) ≡ 1 = ap length same in
    absurd (omega (arith, one, length-encode_with lower_digits (b ∷ bytes)))
some_no_dash b bytes false e = refl

digits_back : (bytes : List ℕ) → 0 < length bytes → length bytes ≤ 242 → IsBytes bytes
    → digits_in (encode_lower bytes) ≡ Some bytes
digits_back bytes some few are =
    let len : length (encode_lower bytes) ≡ 2 * length bytes = length-encode_with lower_digits bytes in
    let a : nat_lt 0 (length (encode_lower bytes)) ≡ true = lt-ltb 0 (length (encode_lower bytes)) (omega arith) in
    let b : nat_le (length (encode_lower bytes)) 484 ≡ true = le-leb (length (encode_lower bytes)) 484 (omega arith) in
    let half : length bytes ≡ length (encode_lower bytes) / 2 = omega arith in
    ap (λ t. if t then hex_sized (length (encode_lower bytes) / 2) (encode_lower bytes) else None) (and_from _ _ a b)
    ∙ hex_back (length (encode_lower bytes) / 2) bytes half are

bytes_back : (bytes : List ℕ) → length bytes ≤ 242 → IsBytes bytes → bytes_in (bytes_word bytes) ≡ Some bytes
bytes_back [] few are = refl
bytes_back (b ∷ bytes) few are =
    ap (λ t. if t then Some [] else digits_in (encode_lower (b ∷ bytes)))
    (some_no_dash b bytes (is_named (codes "-") (encode_lower (b ∷ bytes))) refl)
    ∙ digits_back (b ∷ bytes) (omega arith) few are

port_small : (port : ℕ) → is_application_port port ≡ true → port < 2 ^ 8
port_small port is = omega (arith, leb-true port 223 (and_parts _ _ is).1)

payload_back : (p : Waiting) → IsPayload p → payload_in (decimal p.port) (bytes_word p.bytes) ≡ Some p
payload_back p is =
    rw (plain-decimal (2 ^ 8) p.port (port_small p.port is.port) (omega arith), bytes_back p.bytes is.few is.small)
    (rw (is.port, le-leb (length p.bytes) 242 is.few) refl)

-- the words of an entry are read as it
worded : (e : Entry) → IsEntry e → entry_in (entry_words e) ≡ Some e
worded (Gateway id eui cap gap) is =
    rw (
      plain-decimal (2 ^ 16) id is.0 (omega arith),
      hex_back 8 eui is.1.sized is.1.small,
      plain-decimal (2 ^ 32) cap is.2 (omega arith),
      plain-decimal (2 ^ 32) gap is.3 (omega arith),
    ) refl
worded (Device addr session up down) is =
    rw (
      addr_back addr is.0,
      hex_back 4 session is.1.sized is.1.small,
      up_back up is.2,
      plain-decimal (2 ^ 32 + 1) down (omega (arith, is.3)) (omega arith),
    ) refl
worded (Queue addr payload) is = rw (addr_back addr is.0, payload_back payload is.1) refl
worded (Taken addr) is = rw (addr_back addr is) refl
worded (Clock id high floor) is =
    rw (
      plain-decimal (2 ^ 16) id is.0 (omega arith),
      plain-decimal (2 ^ 64) high is.1 (omega arith),
      plain-decimal (2 ^ 64) floor is.2 (omega arith),
    ) refl
worded (Sent id start freq_hz rate len) is =
    rw (
      plain-decimal (2 ^ 16) id is.0 (omega arith),
      plain-decimal (2 ^ 64) start is.1 (omega arith),
      plain-decimal (2 ^ 32) freq_hz is.2 (omega arith),
      rate_back rate,
      plain-decimal (2 ^ 8) len is.3 (omega arith),
    ) refl

-- no word of an entry has a space or a line feed

abbrev AreInk : List (List ℕ) → Type 0
AreInk [] = ⊤
AreInk (word ∷ words) = (is_ink word ≡ true) × AreInk words

all_ink : (words : List (List ℕ)) → AreInk words → list_all is_ink words ≡ true
all_ink [] are = refl
all_ink (word ∷ words) are = and_from (is_ink word) (list_all is_ink words) are.0 (all_ink words are.1)

ink_up : (up : Option ℕ) → IsUp up → is_ink (up_word up) ≡ true
ink_up None is = refl
ink_up (Some n) is = is_ink-decimal n (omega (arith, is))

ink_bytes : (bytes : List ℕ) → IsBytes bytes → is_ink (bytes_word bytes) ≡ true
ink_bytes [] are = refl
ink_bytes (b ∷ bytes) are = is_ink-hex (b ∷ bytes) are

ink_addr : (addr : ℕ) → is_ink (addr_digits addr) ≡ true
ink_addr addr = is_ink-hex (to_be_bytes w32 addr) (be_bytes addr)

ink_words : (e : Entry) → IsEntry e → AreInk (entry_words e)
ink_words (Gateway id eui cap gap) is = (
  refl,
  (
    is_ink-decimal id (omega (arith, is.0)),
    (
      is_ink-hex eui is.1.small,
      (is_ink-decimal cap (omega (arith, is.2)), (is_ink-decimal gap (omega (arith, is.3)), tt)),
    ),
  ),
)
ink_words (Device addr session up down) is = (
  refl,
  (ink_addr addr, (is_ink-hex session is.1.small, (ink_up up is.2, (is_ink-decimal down (omega (arith, is.3)), tt)))),
)
ink_words (Queue addr payload) is = (
  refl,
  (
    ink_addr addr,
    (
      is_ink-decimal payload.port (omega (arith, port_small payload.port is.1.port)),
      (ink_bytes payload.bytes is.1.small, tt),
    ),
  ),
)
ink_words (Taken addr) is = (refl, (ink_addr addr, tt))
ink_words (Clock id high floor) is = (
  refl,
  (is_ink-decimal id (omega (arith, is.0)), (is_ink-decimal high is.1, (is_ink-decimal floor is.2, tt))),
)
ink_words (Sent id start freq_hz rate len) is = (
  refl,
  (
    is_ink-decimal id (omega (arith, is.0)),
    (
      is_ink-decimal start is.1,
      (
        is_ink-decimal freq_hz (omega (arith, is.2)),
        (
          is_ink-decimal (number_of rate) (omega (arith, rate_small rate)),
          (is_ink-decimal len (omega (arith, is.3)), tt),
        ),
      ),
    ),
  ),
)

pub ink_entry : (e : Entry) → IsEntry e → list_all is_ink (entry_words e) ≡ true
ink_entry e is = all_ink (entry_words e) (ink_words e is)

by_words : (words : List (List ℕ)) (e : Entry) → 0 < length words → list_all is_ink words ≡ true → entry_in words ≡ Some e
    → entry_of (spaced words) ≡ Some e
by_words [] e some ink said = absurd (omega arith)
by_words (word ∷ words) e some ink said = ap entry_in (words_between-spaced word words ink) ∙ said

some_words : (e : Entry) → 0 < length (entry_words e)
some_words (Gateway id eui cap gap) = omega arith
some_words (Device addr session up down) = omega arith
some_words (Queue addr payload) = omega arith
some_words (Taken addr) = omega arith
some_words (Clock id high floor) = omega arith
some_words (Sent id start freq_hz rate len) = omega arith

pub read_back : EntriesReadBack
read_back e is = by_words (entry_words e) e (some_words e) (ink_entry e is) (worded e is)
