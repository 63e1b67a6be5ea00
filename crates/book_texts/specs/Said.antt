use Rattle.std.specs.Prelude.{◌≡◌, ℕ, ◌<◌, ◌≤◌, ◌^◌, Bool, true, false, if◌then◌else◌, List, [], ◌∷◌, length, codes, Option, Some}
use Rattle.std.specs.Prelude.{None, option_and_then}
use Rattle.std.specs.Option.{option_map}
use Rattle.std.proofs.Common.{refl, sym, ap, ◌∙◌, arith}
use Rattle.std.proofs.lemmas.Bool.{lt-ltb, ltb-true, ltb-false}
use Rattle.std.proofs.lemmas.List.{take_all, length-take-le}
use Rattle.radio_airtime.specs.declared.data_rate.DataRate.{DataRate}
use Rattle.text_lines.specs.Line.{is_too_long, kept}
use Rattle.text_lines.specs.Number.{number_below}
use Rattle.text_lines.specs.Words.{words_of, is_passed_over}
use Rattle.gateway_book.specs.declared.ask.Ask.{Ask}
use Rattle.gateway_book.specs.Loading.{member_with}
use Rattle.book_texts.specs.declared.command.Command.{Command}
use Rattle.book_texts.specs.declared.command.Command.TheVariants.{Book, Cancel, Tick, Earliest}
use Rattle.book_texts.specs.declared.command.Said.{Said}
use Rattle.book_texts.specs.declared.command.Said.TheVariants.{Nothing, Order, Malformed}
use Rattle.radio_airtime.specs.DataRate.{known_rate}
use Rattle.text_words.specs.Words.{is_named}

-- What a line of input says: a command by its words.

-- the data rate whose number the word is
abbrev pub rate_word : List ℕ → Option DataRate
rate_word word = option_and_then known_rate (number_below (2 ^ 8) word)

-- the ask that these words are
abbrev pub ask_words : List ℕ → List ℕ → List ℕ → List ℕ → List ℕ → Option Ask
ask_words number start freq_hz rate len =
    member_with (number_below (2 ^ 64) number) (number_below (2 ^ 64) start) (number_below (2 ^ 32) freq_hz) (rate_word rate)
    (number_below (2 ^ 8) len)

-- what follows the word `book`: NUMBER START FREQ DR LEN
abbrev pub book_command : List (List ℕ) → Option Command
book_command (number ∷ start ∷ freq_hz ∷ rate ∷ len ∷ []) = option_map Book (ask_words number start freq_hz rate len)
book_command _ = None

-- a cancellation of these fields, where each is there
abbrev pub cancel_with : Option ℕ → Option ℕ → Option Command
cancel_with (Some number) (Some start) = Some (Cancel number start)
cancel_with _ _ = None

-- what follows the word `cancel`: NUMBER START
abbrev pub cancel_command : List (List ℕ) → Option Command
cancel_command (number ∷ start ∷ []) = cancel_with (number_below (2 ^ 64) number) (number_below (2 ^ 64) start)
cancel_command _ = None

-- what follows the word `tick`: NOW
abbrev pub tick_command : List (List ℕ) → Option Command
tick_command (now ∷ []) = option_map Tick (number_below (2 ^ 64) now)
tick_command _ = None

-- a question for the earliest start of an ask until a moment, where each is there
abbrev pub earliest_with : Option Ask → Option ℕ → Option Command
earliest_with (Some ask) (Some last) = Some (Earliest ask last)
earliest_with _ _ = None

-- what follows the word `earliest`: NUMBER NOT_BEFORE LAST FREQ DR LEN
abbrev pub earliest_command : List (List ℕ) → Option Command
earliest_command (number ∷ not_before ∷ last ∷ freq_hz ∷ rate ∷ len ∷ []) =
    earliest_with (ask_words number not_before freq_hz rate len) (number_below (2 ^ 64) last)
earliest_command _ = None

-- the command that the words are, if they are one: the first word decides which
abbrev pub command_of : List (List ℕ) → Option Command
command_of [] = None
command_of (name ∷ words) =
    if is_named (codes "book") name then book_command words
    else (if is_named (codes "cancel") name then cancel_command words
    else (if is_named (codes "tick") name then tick_command words
    else (if is_named (codes "earliest") name then earliest_command words else None)))

abbrev pub order_or_malformed : Option Command → Said
order_or_malformed None = Malformed
order_or_malformed (Some command) = Order command

-- a line is passed over, or is a command, or is malformed, as each line is that is too long
abbrev pub said : List ℕ → Said
said line =
    if is_passed_over line then Nothing
    else (if is_too_long line then Malformed else order_or_malformed (command_of (words_of line)))

-- a line that is too long is malformed
said-long : (line : List ℕ) → is_too_long line ≡ true → said line ≡ Malformed
said-long line e = rw e refl

-- a value that all lines have which are too long is told by what is kept of a line
pub by_kept : {X : Type 0} (f : List ℕ → X) (x : X) → ((line : List ℕ) → is_too_long line ≡ true → f line ≡ x)
    → (line : List ℕ) → f (kept line) ≡ f line
by_kept {X} f x long line = by (is_too_long line) refl
  where
    by : (t : Bool) → is_too_long line ≡ t → f (kept line) ≡ f line
    by true e =
        let above : 1024 < length line = ltb-true 1024 (length line) e in
        let n : length (kept line) ≡ 1025 = length-take-le 1025 line (omega arith) in
        let still : is_too_long (kept line) ≡ true = lt-ltb 1024 (length (kept line)) (omega arith) in
        long (kept line) still ∙ sym (long line e)
    by false e =
        let short : length line ≤ 1024 = ltb-false 1024 (length line) e in
        ap f (take_all 1025 line (omega arith))

-- what is kept of a line says what the line does
pub said-kept : (line : List ℕ) → said (kept line) ≡ said line
said-kept = by_kept said Malformed said-long
