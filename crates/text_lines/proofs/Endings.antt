-- From the answers that were written to the whole output.
use Rattle.std.proofs.Common.{◌≡◌, ℕ, ◌+◌, Bool, ◌||◌, List, ◌++◌, length, Option, None, Some, refl, sym, ap, ◌∙◌}
use Rattle.std.proofs.Common.{append_assoc}
use Rattle.std.specs.Io.KnownBytes.{Appends}
use Rattle.std.specs.Str.Lines.{lines}
use Rattle.std.proofs.Math.Bool.{or-false}
use Rattle.std.proofs.lemmas.List.Folds.{list_any-append}
use Rattle.text_lines.specs.Line.{text_of, text_of-append}
use Rattle.text_lines.specs.Progress.{AreTurns, AreTurnsInPart, ReadsAll, ReadsPart}
use Rattle.text_lines.specs.Promise.{IsAnsweredInPart, AnswersAll, AnswersFront, AnswersRead, by_lines}
use Rattle.text_lines.specs.Turns.{Turns, EndsWithoutRefusal, is_refusal, has_refusal, reached, answers, output_of}
use Rattle.text_lines.specs.Turns.{answers-append}
use Rattle.text_lines.specs.Writing.{WritesFront, WritesFront-more, WritesAllBut-more, Appends-after, WritesFront-after}

module _ {S : Type 0} (turns : Turns S) (s : S) where
  -- what was written for the first lines is a front of the output for all
  in_part : (bytes starved : List ℕ) (first more : List (List ℕ)) (before after : Option (List ℕ)) → lines bytes ≡ first ++ more
      → WritesFront before after (text_of (answers turns starved 1 s first))
      → IsAnsweredInPart (by_lines (output_of turns s)) bytes before after
  in_part bytes starved first more before after e wrote =
      let front : List (List ℕ) = answers turns starved 1 s first in
      let rest : List (List ℕ) = answers turns starved (1 + length first) (reached turns starved 1 s first) more in
      let ending : List (List ℕ) = turns.ending (reached turns starved 1 s (lines bytes)) in
      let whole : output_of turns s starved (lines bytes) ≡ front ++ (rest ++ ending) =
      ap (λ l. answers turns starved 1 s l ++ ending) e
      ∙ ap (λ l. l ++ ending) (answers-append turns starved 1 s first more (1 + length first) refl)
      ∙ append_assoc front rest ending in
      record {
        starved = starved;
        written = rw (ap text_of whole ∙ text_of-append front (rest ++ ending))
            (WritesFront-more before after (text_of front) _ wrote);
      }

module _ {S : Type 0} (turns : Turns S) (s : S) (Old : S → Type 0) (stood : Old s) where
  -- a part of the answers was written
  pub AnswersFront-part : (left left_after before after : Option (List ℕ))
      → ReadsPart left left_after (AreTurnsInPart turns Old before after) → AnswersFront (output_of turns s) left before after
  AnswersFront-part None left_after before after part = tt
  AnswersFront-part (Some bytes) left_after before after part =
      let wrote = part.holds s stood in in_part turns s bytes wrote.0 part.first part.more before after part.of_all wrote.1

  pub AnswersRead-part : (left left_after before after : Option (List ℕ))
      → ReadsPart left left_after (AreTurnsInPart turns Old before after)
      → AnswersRead (output_of turns s) left left_after before after
  AnswersRead-part None left_after before after part = tt
  AnswersRead-part (Some bytes) left_after before after part =
      let wrote = part.holds s stood in
      record {
        read = part.read;
        consumed = part.consumed;
        answered = in_part turns s part.read wrote.0 part.first part.more_read before after part.of_read wrote.1;
      }

module _ {S : Type 0} (turns : Turns S) (s : S) (Old : S → Type 0) (stood : Old s) (Now : S → Type 0)
    (before mid after : Option (List ℕ)) (pending : List ℕ) (refused : Bool) (taken : ℕ) where
  -- all was written
  pub AnswersAll-ended : (left left_after : Option (List ℕ)) → EndsWithoutRefusal turns
      → ReadsAll taken left left_after (AreTurns turns Old Now refused before mid pending)
      → ((now : S) → Now now → Appends mid after (pending ++ text_of (turns.ending now)))
      → AnswersAll (output_of turns s) left left_after before after refused
  AnswersAll-ended None left_after quiet all wrote = tt
  AnswersAll-ended (Some bytes) left_after quiet all wrote =
      let far = all.holds s stood in
      let front : List (List ℕ) = answers turns far.starved 1 s (lines bytes) in
      let now : S = reached turns far.starved 1 s (lines bytes) in
      record {
        starved = far.starved;
        consumed = all.consumed;
        written = rw (text_of-append front (turns.ending now))
            (Appends-after before mid after _ _ (WritesAllBut-more before mid _ pending _ far.written)
            (wrote now far.stands));
        told = far.told ∙ sym (or-false (has_refusal front)) ∙ ap (λ t. has_refusal front || t) (sym (quiet now))
            ∙ sym (list_any-append is_refusal front (turns.ending now));
      }

  -- the ending was not wholly written
  pub AnswersFront-ended : (left left_after : Option (List ℕ))
      → ReadsAll taken left left_after (AreTurns turns Old Now refused before mid pending)
      → ((now : S) → Now now → WritesFront mid after (pending ++ text_of (turns.ending now)))
      → AnswersFront (output_of turns s) left before after
  AnswersFront-ended None left_after all wrote = tt
  AnswersFront-ended (Some bytes) left_after all wrote =
      let far = all.holds s stood in
      let front : List (List ℕ) = answers turns far.starved 1 s (lines bytes) in
      let now : S = reached turns far.starved 1 s (lines bytes) in
      record {
        starved = far.starved;
        written = rw (text_of-append front (turns.ending now))
            (WritesFront-after before mid after _ _ (WritesAllBut-more before mid _ pending _ far.written)
            (wrote now far.stands));
      }

  -- all bytes had been read then
  pub AnswersRead-ended : (left left_after : Option (List ℕ))
      → ReadsAll taken left left_after (AreTurns turns Old Now refused before mid pending)
      → AnswersFront (output_of turns s) left before after → AnswersRead (output_of turns s) left left_after before after
  AnswersRead-ended None left_after all front = tt
  AnswersRead-ended (Some bytes) left_after all front = record { read = bytes; consumed = all.consumed; answered = front }
