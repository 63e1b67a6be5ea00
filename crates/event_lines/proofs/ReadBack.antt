-- The line of an event is read as that event.
use Rattle.std.proofs.Common.{◌≡◌, ◌≤◌, ◌<◌, ◌^◌, ℕ, List, [], ◌∷◌, length, Some, Bool, true, false, not, ◌==◌, All, refl, arith, codes}
use Rattle.std.proofs.lemmas.Bool.{and_parts, le-ltb}
use Rattle.std.proofs.lemmas.List.Elements.{All-cons, All-nil}
use Rattle.std.specs.List.{list_all}
use Rattle.text_lines.specs.Line.{is_too_long}
use Rattle.text_lines.specs.Words.{is_blank, is_comment, words_of}
use Rattle.run_lines.specs.RunEvents.{worded_event, line_event}
use Rattle.server_core.specs.declared.event.Event.{Event}
use Rattle.server_core.specs.declared.event.Event.TheVariants.{Queue, Hear, Pass, Tick, Cancel, Bad}
use Rattle.server_desk.specs.declared.setting.DeviceSetting.{DeviceSetting}
use Rattle.event_lines.specs.EventText.{event_words, event_text}
use Rattle.event_lines.specs.Laws.{IsEvent, EventsReadBack, longest}
use Rattle.event_lines.proofs.SpacedLemmas.{IsWord, AreWords, parted}
use Rattle.event_lines.proofs.WrittenWords.{decimal_word, decimal_back, signed_word, signed_back}
use Rattle.event_lines.proofs.HexWords.{addr_is_word, addr_back, bytes_word, bytes_back, payload_back}

-- a line that is no comment, with these words, of which there are some
read_line : {A : Type 0} (devices : List DeviceSetting) (number : ℕ) (line : List ℕ) (words : List (List ℕ)) (event : Event A)
    → is_too_long line ≡ false → is_comment line ≡ false → words_of line ≡ words → (length words == 0) ≡ false
    → worded_event devices words ≡ Some event → line_event devices number line ≡ Some event
read_line devices number line words event short plain parts some worded = rw (short, plain, parts, some, worded) refl

not_true : (b : Bool) → not b ≡ true → b ≡ false
not_true true is = absurd (cc)
not_true false is = refl

no_blanks : (word : List ℕ) → list_all (λ c. not (is_blank c)) word ≡ true → All (λ c. is_blank c ≡ false) word
no_blanks [] test = All-nil (λ c. is_blank c ≡ false)
no_blanks (c ∷ word) test =
    let parts = and_parts (not (is_blank c)) (list_all (λ x. not (is_blank x)) word) test in
    All-cons (λ x. is_blank x ≡ false) c word (not_true (is_blank c) parts.0) (no_blanks word parts.1)

-- words by a test that computes
by_test : (word : List ℕ) → list_all (λ c. not (is_blank c)) word ≡ true → 0 < length word → IsWord word
by_test word test some = (some, no_blanks word test)

-- the words of an event are words
words_are : {A : Type 0} (event : Event A) → IsEvent event → AreWords (event_words event)
words_are (Queue addr port payload) is =
    (by_test (codes "queue") refl (omega arith), (addr_is_word addr, (decimal_word port (omega (arith, is.1)), (bytes_word payload is.2, tt))))
words_are (Hear bytes heard arrived) is = (
  by_test (codes "hear") refl (omega arith),
  (
    decimal_word heard.gateway (omega (arith, is.0.gateway)),
    (
      decimal_word heard.at is.0.at,
      (
        decimal_word heard.freq_hz (omega (arith, is.0.freq_hz)),
        (
          decimal_word heard.rate (omega (arith, is.0.rate)),
          (
            signed_word heard.snr is.0.snr,
            (
              signed_word heard.rssi is.0.rssi,
              (decimal_word arrived is.1, (bytes_word bytes is.2, tt)),
            ),
          ),
        ),
      ),
    ),
  ),
)
words_are (Pass now) is = (by_test (codes "pass") refl (omega arith), (decimal_word now is, tt))
words_are (Tick gateway now) is =
    (by_test (codes "tick") refl (omega arith), (decimal_word gateway (omega (arith, is.0)), (decimal_word now is.1, tt)))
words_are (Cancel number) is = (by_test (codes "cancel") refl (omega arith), (decimal_word number is, tt))
words_are (Bad line) is = absurd is

-- and are read as it
worded : {A : Type 0} (devices : List DeviceSetting) (event : Event A) → IsEvent event
    → worded_event devices (event_words event) ≡ Some event
worded devices (Queue addr port payload) is =
    rw (addr_back addr is.0, decimal_back (2 ^ 8) port is.1 (omega (arith, is.1)), payload_back payload is.2) refl
worded devices (Hear bytes heard arrived) is =
    rw (
      decimal_back (2 ^ 16) heard.gateway is.0.gateway (omega (arith, is.0.gateway)),
      decimal_back (2 ^ 64) heard.at is.0.at is.0.at,
      decimal_back (2 ^ 32) heard.freq_hz is.0.freq_hz (omega (arith, is.0.freq_hz)),
      decimal_back (2 ^ 8) heard.rate is.0.rate (omega (arith, is.0.rate)),
      signed_back heard.snr is.0.snr,
      signed_back heard.rssi is.0.rssi,
      decimal_back (2 ^ 64) arrived is.1 is.1,
      bytes_back devices bytes is.2,
    ) refl
worded devices (Pass now) is = rw (decimal_back (2 ^ 64) now is is) refl
worded devices (Tick gateway now) is =
    rw (decimal_back (2 ^ 16) gateway is.0 (omega (arith, is.0)), decimal_back (2 ^ 64) now is.1 is.1) refl
worded devices (Cancel number) is = rw (decimal_back (2 ^ 64) number is is) refl
worded devices (Bad line) is = absurd is

by_words : {A : Type 0} (devices : List DeviceSetting) (number : ℕ) (event : Event A) → is_comment (event_text event) ≡ false
    → (length (event_words event) == 0) ≡ false → IsEvent event → length (event_text event) ≤ longest
    → line_event devices number (event_text event) ≡ Some event
by_words devices number event plain some is short =
    read_line devices number (event_text event) (event_words event) event (le-ltb 1024 (length (event_text event)) short) plain
    (parted (event_words event) (words_are event is)) some (worded devices event is)

pub read_back : {A : Type 0} → EventsReadBack A
read_back devices number (Queue addr port payload) is short = by_words devices number (Queue addr port payload) refl refl is short
read_back devices number (Hear bytes heard arrived) is short = by_words devices number (Hear bytes heard arrived) refl refl is short
read_back devices number (Pass now) is short = by_words devices number (Pass now) refl refl is short
read_back devices number (Tick gateway now) is short = by_words devices number (Tick gateway now) refl refl is short
read_back devices number (Cancel uplink) is short = by_words devices number (Cancel uplink) refl refl is short
read_back devices number (Bad line) is short = absurd is
