-- A line that was carried out is the book's turn, from each standing.
use Rattle.std.proofs.Common.{◌≡◌, ℕ, Bool, true, false, ◌||◌, List, [], ◌∷◌, ◌++◌, Option, None, Some, ap, ◌∙◌, refl, sym, subst}
use Rattle.text_lines.specs.Progress.{IsAnswer}
use Rattle.text_words.specs.Words.{is_refusal}
use Rattle.gateway_book.specs.Answer.{Rules}
use Rattle.gateway_book.specs.Book.{Book}
use Rattle.gateway_book.specs.Remembers.{StandsFor}
use Rattle.book_texts.specs.declared.reply.Reply.{Reply}
use Rattle.book_texts.specs.Said.{said}
use Rattle.book_texts.specs.Reply.{reply_line}
use Rattle.book_texts.specs.Answering.{answer_to, state_after_line}
use Rattle.book_texts.specs.Output.{Standing, book_turns}
use Rattle.book_texts.specs.Progress.{StandsIn, IsReplied, reply_lines}

alone : (t : Bool) → t ≡ (t || false)
alone true = refl
alone false = refl

module _ (old new : Book) (number : ℕ) (line : List ℕ) (at : Standing) (stood : StandsIn old at) where
  -- the answer, and what stands then
  answered : (o : Option Reply) (r : IsReplied old new number line o)
      → answer_to at.rules r.starved number at.state (said line) ≡ reply_lines o
  answered o r =
      ap (λ (rules : Rules). answer_to rules r.starved number at.state (said line)) (sym stood.rules)
      ∙ r.answered at.state stood.stands

  reached : (o : Option Reply) (r : IsReplied old new number line o)
      → StandsIn new (book_turns.after r.starved at line)
  reached o r =
      let P : Rules → Type 0 = λ rules. StandsFor new (state_after_line rules r.starved at.state (said line)) in
      record {
        id = r.id ∙ stood.id;
        rules = r.rules ∙ stood.rules;
        stands = subst P stood.rules (r.reached at.state stood.stands);
      }

  pub turn_unanswered : (text : List ℕ) → IsReplied old new number line None → text ≡ []
      → IsAnswer book_turns at (StandsIn new) number line text false
  turn_unanswered text r e =
      record { starved = r.starved; is_text = rw (answered None r) e; told = rw (answered None r) refl; stands = reached None r }

  pub turn_answered : (text : List ℕ) (refused : Bool) (reply : Reply) → IsReplied old new number line (Some reply)
      → text ≡ reply_line reply ++ (10 ∷ []) → refused ≡ is_refusal (reply_line reply)
      → IsAnswer book_turns at (StandsIn new) number line text refused
  turn_answered text refused reply r e f =
      record {
        starved = r.starved;
        is_text = rw (answered (Some reply) r) e;
        told = rw (answered (Some reply) r) (f ∙ alone (is_refusal (reply_line reply)));
        stands = reached (Some reply) r;
      }
