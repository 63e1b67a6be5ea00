-- How far the lines of an input were read, and what follows where the reading ends.
use Rattle.std.proofs.Common.{◌≡◌, ℕ, ◌+◌, ◌<◌, ◌≤◌, List, [], ◌∷◌, ◌++◌, length, Bool, Option, None, Some, Ok}
use Rattle.std.proofs.Common.{refl, sym, ap, ◌∙◌, arith, subst, append-nil, append_assoc, length-append}
use Rattle.std.specs.Prelude.{⊤}
use Rattle.std.specs.Io.KnownBytes.{Consumes}
use Rattle.std.specs.Str.Lines.{lines}
use Rattle.std.proofs.lemmas.List.{length_push}
use Rattle.text_lines.specs.Ahead.{Ahead, unread, TakesFront}
use Rattle.text_lines.specs.Line.{kept}
use Rattle.text_lines.specs.Progress.{ReadsAll, ReadsPart}
use Rattle.text_lines.specs.Promise.{KeepsLimitFrom}
use Rattle.text_lines.specs.Reading.{GivesLine, IsEndWithin}
use Rattle.text_lines.specs.declared.ahead.NextLine.{NextLine}
use Rattle.text_lines.specs.declared.ahead.NextLine.TheVariants.{Whole, Last, End}

-- `taken` stands at the front of the bytes and `rest` follows; whatever follows `taken`, its lines are the first, and this
-- holds of them. The count began at `from`
pub record SoFar (from : ℕ) (bytes rest : List ℕ) (count number : ℕ) (Holds : List (List ℕ) → Type 0) : Type 0 where
  pub taken : List ℕ
  pub front : bytes ≡ taken ++ rest
  pub counted : count ≡ from + length taken
  pub read : List (List ℕ)
  pub first : (more : List ℕ) → lines (taken ++ more) ≡ read ++ lines more
  pub numbered : number ≡ 1 + length read
  pub each : length read ≤ length taken
  pub holds : Holds read

-- the same where the reader tells what it has left
abbrev pub IsSoFar : ℕ → Option (List ℕ) → Option (List ℕ) → ℕ → ℕ → (List (List ℕ) → Type 0) → Type 0
IsSoFar from None now count number Holds = ⊤
IsSoFar from (Some bytes) None count number Holds = ⊥
IsSoFar from (Some bytes) (Some rest) count number Holds = SoFar from bytes rest count number Holds

-- what holds of some lines holds, or something else does, of one line more
abbrev pub GoesOn : ℕ → List ℕ → (List (List ℕ) → Type 0) → (List (List ℕ) → Type 0) → Type 0
GoesOn number held Holds HoldsThen =
    (read : List (List ℕ)) (line : List ℕ) → number ≡ 1 + length read → held ≡ kept line → Holds read
    → HoldsThen (read ++ line ∷ [])

-- a line that stands whatever follows is not nothing
some_taken : (taken line : List ℕ) → ((more : List ℕ) → lines (taken ++ more) ≡ line ∷ lines more) → 0 < length taken
some_taken [] line first = let e : lines [] ≡ line ∷ lines [] = first [] in absurd (cc)
some_taken (x ∷ taken) line first = omega arith

-- the same length follows where the same list does
same_front : (bytes a b rest : List ℕ) → bytes ≡ a ++ rest → bytes ≡ b ++ rest → length a ≡ length b
same_front bytes a b rest e f = omega (arith, ap length e, ap length f, length-append a rest, length-append b rest)

-- one line more
pub IsSoFar-next : (from : ℕ) (left now now_after : Option (List ℕ)) (count number : ℕ) (Holds HoldsThen : List (List ℕ) → Type 0)
    (found : NextLine) (held front : List ℕ) (count_after : ℕ)
    → IsSoFar from left now count number Holds → GivesLine now now_after found held → Consumes now now_after front
    → count_after ≡ count + length front → (found ≡ End → ⊥) → (found ≡ Last → ⊥) → GoesOn number held Holds HoldsThen
    → IsSoFar from left now_after count_after (number + 1) HoldsThen
IsSoFar-next from None now now_after count number Holds HoldsThen found held front count_after far line consumed counted some
    whole on = tt
IsSoFar-next from (Some bytes) None now_after count number Holds HoldsThen found held front count_after far line consumed counted
    some whole on = absurd far
IsSoFar-next from (Some bytes) (Some rest) None count number Holds HoldsThen found held front count_after far line consumed
    counted some whole on = absurd line
IsSoFar-next from (Some bytes) (Some rest) (Some rest_after) count number Holds HoldsThen End held front count_after far line
    consumed counted some whole on = absurd (some refl)
IsSoFar-next from (Some bytes) (Some rest) (Some rest_after) count number Holds HoldsThen Last held front count_after far line
    consumed counted some whole on = absurd (whole refl)
IsSoFar-next from (Some bytes) (Some rest) (Some rest_after) count number Holds HoldsThen Whole held front count_after far
    line consumed counted some whole on =
    let more : length front ≡ length line.taken = same_front rest front line.taken rest_after consumed line.front in
    let begun : 0 < length line.taken = some_taken line.taken line.line line.first in
    record {
      taken = far.taken ++ line.taken;
      front = far.front ∙ ap (λ l. far.taken ++ l) line.front ∙ sym (append_assoc far.taken line.taken rest_after);
      counted = omega (arith, counted, far.counted, more, length-append far.taken line.taken);
      read = far.read ++ line.line ∷ [];
      first = λ l. ap lines (append_assoc far.taken line.taken l) ∙ far.first (line.taken ++ l)
          ∙ ap (λ m. far.read ++ m) (line.first l) ∙ sym (append_assoc far.read (line.line ∷ []) (lines l));
      numbered = omega (arith, far.numbered, length_push far.read line.line);
      each = omega (arith, far.each, begun, length_push far.read line.line, length-append far.taken line.taken);
      holds = on far.read line.line far.numbered line.keeps far.holds;
    }

-- nothing more was answered, whatever was read
pub ReadsPart-now : (from : ℕ) (left left_old left_after : Option (List ℕ)) (old new : Ahead) (number : ℕ)
    (Holds HoldsThen : List (List ℕ) → Type 0)
    → IsSoFar from left (unread old left_old) old.taken number Holds → TakesFront old left_old new left_after
    → ((read : List (List ℕ)) → Holds read → HoldsThen read) → ReadsPart left left_after HoldsThen
ReadsPart-now from None left_old left_after old new number Holds HoldsThen far front on = tt
ReadsPart-now from (Some bytes) None left_after old new number Holds HoldsThen far front on = absurd far
ReadsPart-now from (Some bytes) (Some x) None old new number Holds HoldsThen far front on = absurd front.consumed
ReadsPart-now from (Some bytes) (Some x) (Some y) old new number Holds HoldsThen far front on =
    let gone : List ℕ = front.front ++ new.pending in
    record {
      read = far.taken ++ gone;
      consumed = far.front ∙ ap (λ l. far.taken ++ l) (front.consumed ∙ sym (append_assoc front.front new.pending y))
          ∙ sym (append_assoc far.taken gone y);
      first = far.read;
      more = lines (old.pending ++ x);
      more_read = lines gone;
      of_all = ap lines far.front ∙ far.first (old.pending ++ x);
      of_read = far.first gone;
      holds = on far.read far.holds;
    }

-- nothing was read
pub TakesFront-none : (input : Ahead) (left : Option (List ℕ)) → TakesFront input left input left
TakesFront-none input None = record { front = []; consumed = tt; counted = omega arith }
TakesFront-none input (Some bytes) = record { front = []; consumed = refl; counted = omega arith }

-- the input has ended, and all bytes were read
all_read : (bytes : List ℕ) (new : Ahead) (y : List ℕ) → new.pending ++ y ≡ [] → new.pending ≡ [] → bytes ≡ bytes ++ y
all_read bytes new y e none =
    let nothing : y ≡ [] = rw none at e in sym (append-nil bytes) ∙ ap (λ l. bytes ++ l) (sym nothing)

-- the next line was answered, but its answer not wholly written
pub ReadsPart-line : (from : ℕ) (left left_old left_after : Option (List ℕ)) (old new : Ahead) (number : ℕ)
    (Holds HoldsThen : List (List ℕ) → Type 0) (found : NextLine) (held : List ℕ)
    → IsSoFar from left (unread old left_old) old.taken number Holds
    → GivesLine (unread old left_old) (unread new left_after) found held → IsEndWithin new found → (found ≡ End → ⊥)
    → GoesOn number held Holds HoldsThen → ReadsPart left left_after HoldsThen
ReadsPart-line from None left_old left_after old new number Holds HoldsThen found held far line within some on = tt
ReadsPart-line from (Some bytes) None left_after old new number Holds HoldsThen found held far line within some on = absurd far
ReadsPart-line from (Some bytes) (Some x) None old new number Holds HoldsThen found held far line within some on = absurd line
ReadsPart-line from (Some bytes) (Some x) (Some y) old new number Holds HoldsThen End held far line within some on =
    absurd (some refl)
ReadsPart-line from (Some bytes) (Some x) (Some y) old new number Holds HoldsThen Whole held far line within some on =
    let gone : List ℕ = line.taken ++ new.pending in
    record {
      read = far.taken ++ gone;
      consumed = far.front ∙ ap (λ l. far.taken ++ l) (line.front ∙ sym (append_assoc line.taken new.pending y))
          ∙ sym (append_assoc far.taken gone y);
      first = far.read ++ line.line ∷ [];
      more = lines (new.pending ++ y);
      more_read = lines new.pending;
      of_all = ap lines far.front ∙ far.first (old.pending ++ x)
          ∙ ap (λ m. far.read ++ m) (ap lines line.front ∙ line.first (new.pending ++ y))
          ∙ sym (append_assoc far.read (line.line ∷ []) (lines (new.pending ++ y)));
      of_read = far.first gone ∙ ap (λ m. far.read ++ m) (line.first new.pending)
          ∙ sym (append_assoc far.read (line.line ∷ []) (lines new.pending));
      holds = on far.read line.line far.numbered line.keeps far.holds;
    }
ReadsPart-line from (Some bytes) (Some x) (Some y) old new number Holds HoldsThen Last held far line within some on =
    let rest : List ℕ = old.pending ++ x in
    let all : lines bytes ≡ far.read ++ rest ∷ [] =
    ap lines far.front ∙ far.first rest ∙ ap (λ l. far.read ++ l) line.last in
    record {
      read = bytes;
      consumed = all_read bytes new y line.none within.0;
      first = far.read ++ rest ∷ [];
      more = [];
      more_read = [];
      of_all = all ∙ sym (append-nil (far.read ++ rest ∷ []));
      of_read = all ∙ sym (append-nil (far.read ++ rest ∷ []));
      holds = on far.read rest far.numbered line.keeps far.holds;
    }

-- or after a line without a line feed
pub ReadsAll-last : (from : ℕ) (left left_old left_after : Option (List ℕ)) (old new : Ahead) (number : ℕ)
    (Holds HoldsThen : List (List ℕ) → Type 0) (held : List ℕ)
    → IsSoFar from left (unread old left_old) old.taken number Holds → TakesFront old left_old new left_after
    → GivesLine (unread old left_old) (unread new left_after) Last held → IsEndWithin new Last
    → GoesOn number held Holds HoldsThen → ReadsAll from left left_after HoldsThen
ReadsAll-last from None left_old left_after old new number Holds HoldsThen held far front line within on = tt
ReadsAll-last from (Some bytes) None left_after old new number Holds HoldsThen held far front line within on = absurd far
ReadsAll-last from (Some bytes) (Some x) None old new number Holds HoldsThen held far front line within on = absurd line
ReadsAll-last from (Some bytes) (Some x) (Some y) old new number Holds HoldsThen held far front line within on =
    let rest : List ℕ = old.pending ++ x in
    let all : lines bytes ≡ far.read ++ rest ∷ [] =
    ap lines far.front ∙ far.first rest ∙ ap (λ l. far.read ++ l) line.last in
    let gone : rest ≡ front.front = front.consumed ∙ ap (λ l. front.front ++ l) line.none ∙ append-nil front.front in
    record {
      consumed = all_read bytes new y line.none within.0;
      within = omega (
        arith,
        within.1,
        far.counted,
        front.counted,
        ap length far.front,
        ap length gone,
        length-append far.taken rest,
      );
      holds = subst HoldsThen (sym all) (on far.read rest far.numbered line.keeps far.holds);
    }

-- all bytes were read, and are not too many
pub KeepsLimit-all : (from : ℕ) (left left_after : Option (List ℕ)) (Holds : List (List ℕ) → Type 0) (refused : Bool)
    → ReadsAll from left left_after Holds → KeepsLimitFrom from left (Ok refused)
KeepsLimit-all from None left_after Holds refused all = tt
KeepsLimit-all from (Some bytes) left_after Holds refused all = all.within
