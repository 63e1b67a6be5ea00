-- Lemmas on the lines of an input, and on its two parts.
use Rattle.std.proofs.Common.{◌≡◌, ◌≢◌, ◌==◌, ℕ, zero, suc, ◌+◌, ◌-◌, ◌<◌, ◌≤◌, Bool, true, false, List, [], ◌∷◌, ◌++◌}
use Rattle.std.proofs.Common.{if◌then◌else◌, length, take, drop, get_or, refl, sym, ap, ◌∙◌, arith, append_assoc, append-nil}
use Rattle.std.specs.Prelude.{slice_index}
use Rattle.std.specs.List.{concat}
use Rattle.std.proofs.Math.Seq.{split_at, drop-append_seam, take-append_seam, take-length}
use Rattle.std.proofs.lemmas.Bool.Decides.{nat_tests}
use Rattle.std.proofs.lemmas.List.{take_more, get_or_push, get_or-take, get_or_default, length-take, length-append}
use Rattle.std.proofs.lemmas.List.{length-take-le, drop-drop, length-drop, take-append-drop}
use Rattle.std.specs.Str.Lines.{lines, strip_carriage_return}
use Rattle.text_lines.specs.Line.{lines-first, lines-last}
use Rattle.run_lines.specs.RunInput.{NoFeedBefore, onto_first, raw_lines, is_rule, before_rule, after_rule, settings_part}
use Rattle.run_lines.specs.RunInput.{event_part, without_end}

-- there is a byte where the length isn't 0
pub some-byte : (bytes : List ℕ) → false ≡ (length bytes == 0) → 0 < length bytes
some-byte [] e = absurd (grind (arith, nat_tests, e))
some-byte (byte ∷ bytes) e = omega arith

raw-step : (byte : ℕ) (bytes : List ℕ) (t : Bool) → (byte == 10) ≡ t
    → raw_lines (byte ∷ bytes) ≡ (if t then (byte ∷ []) ∷ raw_lines bytes else onto_first byte (raw_lines bytes))
raw-step byte bytes t e = ap (λ (b : Bool). if b then (byte ∷ []) ∷ raw_lines bytes else onto_first byte (raw_lines bytes)) e

-- the bytes up to a line feed are the first line
raw-suc : (bytes : List ℕ) (k : ℕ) → k < length bytes → NoFeedBefore k bytes → slice_index bytes k ≡ 10
    → raw_lines bytes ≡ take (suc k) bytes ∷ raw_lines (drop (suc k) bytes)
raw-suc [] k h before at = absurd (omega arith)
raw-suc (byte ∷ bytes) zero h before at = raw-step byte bytes true (grind (arith, nat_tests, at))
raw-suc (byte ∷ bytes) (suc k) h before at =
    let other : (byte == 10) ≡ false = grind (arith, nat_tests, before 0) in
    raw-step byte bytes false other ∙ ap (onto_first byte) (raw-suc bytes k (omega arith)
    (λ i j. before (suc i) (omega arith)) at)

pub raw-feed : (bytes : List ℕ) (k : ℕ) → k < length bytes → NoFeedBefore k bytes → slice_index bytes k ≡ 10
    → raw_lines bytes ≡ take (k + 1) bytes ∷ raw_lines (drop (k + 1) bytes)
raw-feed bytes k h before at =
    let e : suc k ≡ k + 1 = omega arith in
    raw-suc bytes k h before at ∙ ap (λ n. take n bytes ∷ raw_lines (drop n bytes)) e

-- bytes without a line feed are one line, if there is a byte
pub raw-last : (bytes : List ℕ) → 0 < length bytes → NoFeedBefore (length bytes) bytes → raw_lines bytes ≡ bytes ∷ []
raw-last [] h none = absurd (omega arith)
raw-last (byte ∷ []) h none = raw-step byte [] false (grind (arith, nat_tests, none 0))
raw-last (byte ∷ next ∷ bytes) h none =
    let other : (byte == 10) ≡ false = grind (arith, nat_tests, none 0) in
    raw-step byte (next ∷ bytes) false other ∙ ap (onto_first byte)
    (raw-last (next ∷ bytes) (omega arith) (λ i j. none (suc i) (omega arith)))

unbroken-front : (bytes : List ℕ) (k i d : ℕ) → NoFeedBefore k bytes → i < length (take k bytes) → get_or (take k bytes) i d ≢ 10
unbroken-front bytes k i d before j e =
    let low : i < k = omega (arith, length-take k bytes, j) in
    before i low (sym (get_or-take k bytes i 0 low) ∙ get_or_default (take k bytes) i 0 d j ∙ e)

-- a line that a line feed ends
without_end-feed : (line : List ℕ) → without_end (line ++ 10 ∷ []) ≡ strip_carriage_return line
without_end-feed line =
    let last : length (line ++ 10 ∷ []) - 1 ≡ length line = omega (arith, length-append line (10 ∷ [])) in
    rw (last, get_or_push line 10 0 (length line) refl, take-append_seam line (10 ∷ [])) refl

-- the same of lines without their ends
pub lines-feed : (bytes : List ℕ) (k : ℕ) → k < length bytes → NoFeedBefore k bytes → slice_index bytes k ≡ 10
    → lines bytes ≡ without_end (take (k + 1) bytes) ∷ lines (drop (k + 1) bytes)
lines-feed bytes k h before at =
    let e : suc k ≡ k + 1 = omega arith in
    let cut : bytes ≡ take k bytes ++ 10 ∷ drop (suc k) bytes =
    split_at bytes k 0 h ∙ ap (λ b. take k bytes ++ b ∷ drop (suc k) bytes) at in
    let line : take (k + 1) bytes ≡ take k bytes ++ 10 ∷ [] = take_more bytes k 0 h ∙ ap (λ b. take k bytes ++ b ∷ []) at in
    ap lines cut ∙ lines-first (take k bytes) (drop (suc k) bytes) (λ i d j. unbroken-front bytes k i d before j)
    ∙ ap (λ l. l ∷ lines (drop (suc k) bytes)) (sym (ap without_end line ∙ without_end-feed (take k bytes)))
    ∙ ap (λ n. without_end (take (k + 1) bytes) ∷ lines (drop n bytes)) e

-- bytes without a line feed are one line, if there is a byte
pub lines-alone : (bytes : List ℕ) → 0 < length bytes → NoFeedBefore (length bytes) bytes → lines bytes ≡ without_end bytes ∷ []
lines-alone bytes h none =
    let other : (slice_index bytes (length bytes - 1) == 10) ≡ false =
    grind (arith, nat_tests, none (length bytes - 1) (omega arith)) in
    rw other (lines-last bytes h (λ i d j e. none i j (get_or_default bytes i 0 d j ∙ e)))

concat-onto : (byte : ℕ) (ls : List (List ℕ)) → concat (onto_first byte ls) ≡ byte ∷ concat ls
concat-onto byte [] = refl
concat-onto byte (l ∷ ls) = refl

concat-step : (byte : ℕ) (bytes : List ℕ) (t : Bool) → concat (raw_lines bytes) ≡ bytes
    → concat (if t then (byte ∷ []) ∷ raw_lines bytes else onto_first byte (raw_lines bytes)) ≡ byte ∷ bytes
concat-step byte bytes true e = ap (λ l. byte ∷ l) e
concat-step byte bytes false e = concat-onto byte (raw_lines bytes) ∙ ap (λ l. byte ∷ l) e

-- the lines with their ends are all the bytes
pub concat-raw_lines : (bytes : List ℕ) → concat (raw_lines bytes) ≡ bytes
concat-raw_lines [] = refl
concat-raw_lines (byte ∷ bytes) = concat-step byte bytes (byte == 10) (concat-raw_lines bytes)

pub settings-nil : settings_part [] ≡ []
unfolding settings_part
settings-nil = refl

pub events-nil : event_part [] ≡ []
unfolding event_part
events-nil = refl

-- the parts of bytes that begin with a line that parts them
pub settings-at_rule : (bytes line rest : List ℕ) → raw_lines bytes ≡ line ∷ raw_lines rest → is_rule line ≡ true
    → settings_part bytes ≡ []
unfolding settings_part
settings-at_rule bytes line rest e r = ap (λ l. concat (before_rule l)) e
    ∙ ap (λ (t : Bool). concat (if t then [] else line ∷ before_rule (raw_lines rest))) r

pub events-at_rule : (bytes line rest : List ℕ) → raw_lines bytes ≡ line ∷ raw_lines rest → is_rule line ≡ true
    → event_part bytes ≡ rest
unfolding event_part
events-at_rule bytes line rest e r =
    ap (λ l. concat (after_rule l)) e ∙ ap (λ (t : Bool). concat (if t then raw_lines rest else after_rule (raw_lines rest))) r
    ∙ concat-raw_lines rest

-- and with another line
pub settings-at_line : (bytes line rest : List ℕ) → raw_lines bytes ≡ line ∷ raw_lines rest → is_rule line ≡ false
    → settings_part bytes ≡ line ++ settings_part rest
unfolding settings_part
settings-at_line bytes line rest e r = ap (λ l. concat (before_rule l)) e
    ∙ ap (λ (t : Bool). concat (if t then [] else line ∷ before_rule (raw_lines rest))) r

pub events-at_line : (bytes line rest : List ℕ) → raw_lines bytes ≡ line ∷ raw_lines rest → is_rule line ≡ false
    → event_part bytes ≡ event_part rest
unfolding event_part
events-at_line bytes line rest e r = ap (λ l. concat (after_rule l)) e
    ∙ ap (λ (t : Bool). concat (if t then raw_lines rest else after_rule (raw_lines rest))) r

-- what is taken of an input, and the first of what follows
pub taken-line : (input line rest : List ℕ) (n : ℕ) → n ≤ length input → drop n input ≡ line ++ rest
    → take (n + length line) input ≡ take n input ++ line
taken-line input line rest n h e =
    let whole : input ≡ (take n input ++ line) ++ rest = sym (take-append-drop n input) ∙ ap (λ l. take n input ++ l) e
    ∙ sym (append_assoc (take n input) line rest) in
    let len : length (take n input ++ line) ≡ n + length line =
    length-append (take n input) line ∙ ap (λ k. k + length line) (length-take-le n input h) in
    ap (λ k. take k input) (sym len) ∙ ap (take (length (take n input ++ line))) whole
    ∙ take-append_seam (take n input ++ line) rest

pub left-line : (input line rest : List ℕ) (n : ℕ) → drop n input ≡ line ++ rest → drop (n + length line) input ≡ rest
left-line input line rest n e = sym (drop-drop (length line) n input) ∙ ap (drop (length line)) e ∙ drop-append_seam line rest

-- an input of which n bytes are settings, and then a line that isn't the one that parts it
pub settings-on : (input line rest : List ℕ) (n : ℕ) → n ≤ length input → drop n input ≡ line ++ rest
    → raw_lines (drop n input) ≡ line ∷ raw_lines rest → is_rule line ≡ false
    → settings_part input ≡ take n input ++ settings_part (drop n input)
    → settings_part input ≡ take (n + length line) input ++ settings_part (drop (n + length line) input)
settings-on input line rest n h e first r s =
    s ∙ ap (λ l. take n input ++ l) (settings-at_line (drop n input) line rest first r)
    ∙ sym (append_assoc (take n input) line (settings_part rest))
    ∙ ap (λ l. l ++ settings_part rest) (sym (taken-line input line rest n h e))
    ∙ ap (λ l. take (n + length line) input ++ settings_part l) (sym (left-line input line rest n e))

pub events-on : (input line rest : List ℕ) (n : ℕ) → drop n input ≡ line ++ rest
    → raw_lines (drop n input) ≡ line ∷ raw_lines rest → is_rule line ≡ false
    → event_part input ≡ event_part (drop n input) → event_part input ≡ event_part (drop (n + length line) input)
events-on input line rest n e first r s =
    s ∙ events-at_line (drop n input) line rest first r ∙ ap event_part (sym (left-line input line rest n e))

-- an input of which n bytes are settings, and then the line that parts it
pub settings-rule : (input line rest : List ℕ) (n : ℕ) → raw_lines (drop n input) ≡ line ∷ raw_lines rest → is_rule line ≡ true
    → settings_part input ≡ take n input ++ settings_part (drop n input) → take n input ≡ settings_part input
settings-rule input line rest n first r s =
    sym (s ∙ ap (λ l. take n input ++ l) (settings-at_rule (drop n input) line rest first r) ∙ append-nil (take n input))

pub within-line : (input line rest : List ℕ) (n : ℕ) → n ≤ length input → drop n input ≡ line ++ rest
    → n + length line ≤ length input
within-line input line rest n h e =
    let len : length (drop n input) ≡ length line + length rest = ap length e ∙ length-append line rest in
    omega (arith, len, length-drop n input)

-- an input without that line
pub settings-end : (input : List ℕ) (n : ℕ) → n ≤ length input → drop n input ≡ []
    → settings_part input ≡ take n input ++ settings_part (drop n input) → input ≡ settings_part input
settings-end input n h e s =
    let all : n ≡ length input = omega (arith, length-drop n input, ap length e) in
    sym (s ∙ ap (λ l. take n input ++ settings_part l) e ∙ ap (λ l. take n input ++ l) settings-nil ∙ append-nil (take n input)
    ∙ ap (λ k. take k input) all ∙ take-length input)

pub events-end : (input : List ℕ) (n : ℕ) → drop n input ≡ [] → event_part input ≡ event_part (drop n input)
    → [] ≡ event_part input
events-end input n e s = sym (s ∙ ap event_part e ∙ events-nil)
