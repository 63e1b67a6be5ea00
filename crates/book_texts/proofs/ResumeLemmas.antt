-- What a book that is opened again stands for, and the output for what follows its text.
use Rattle.std.proofs.Common.{◌≡◌, ℕ, Bool, List, [], ◌++◌, take, Option, None, Some, Ok}
use Rattle.std.proofs.Common.{refl, sym, ap, ◌∙◌, arith, subst, append_assoc}
use Rattle.std.specs.Io.KnownBytes.{Appends}
use Rattle.text_lines.specs.Ahead.{Ahead, unread}
use Rattle.text_lines.specs.Line.{text_of}
use Rattle.text_lines.specs.Promise.{AnswersAll, AnswersFront, AnswersRead, AnswersWhole, AnswersInPart, AnswersSoFar}
use Rattle.text_lines.specs.Rest.{IsRest, gone_of}
use Rattle.text_lines.specs.Turns.{has_refusal, output_of}
use Rattle.text_lines.specs.Writing.{WritesFront, WritesAllBut-refl}
use Rattle.gateway_book.specs.Book.{Book}
use Rattle.gateway_book.specs.Loading.{Loaded, loaded, Loads, IsSavable}
use Rattle.gateway_book.specs.Saved.{Saved, saved_of, opened_again, text_in}
use Rattle.gateway_book.proofs.SavedAgain.{saved_is_read_again}
use Rattle.gateway_book.proofs.SavedWas.{loaded_was_saved}
use Rattle.book_texts.specs.Opening.{resumed_standing, output_behind, resumed_output}
use Rattle.book_texts.specs.Output.{Standing, book_turns}
use Rattle.book_texts.specs.Progress.{StandsToEnd}

-- a saved book, and what follows it: whatever follows in its place, the book is read
pub record IsFollowed (bytes : List ℕ) (s : Saved) (rest : List ℕ) : Type 0 where
  pub front : List ℕ
  pub parts : bytes ≡ front ++ rest
  pub again : (other : List ℕ) → loaded (front ++ other) ≡ Ok (s, other)

followed : (bytes : List ℕ) (s : Saved) (rest : List ℕ) → loaded bytes ≡ Ok (s, rest) → IsFollowed bytes s rest
followed bytes s rest e =
    let was = loaded_was_saved bytes s rest e in
    let version : ℕ = was.1.0 in
    record {
      front = text_in version s;
      parts = was.1.2;
      again = λ other. saved_is_read_again version s other was.1.1 was.0;
    }

-- the book stands for what it keeps
stands_again : (b : Book) (save : Bool) → IsSavable (saved_of b) → b ≡ opened_again (saved_of b)
    → StandsToEnd b save (resumed_standing save (saved_of b))
stands_again b save h opened =
    record {
      stands = record {
        id = refl;
        rules = refl;
        stands = record {
          orderly = record { rested = h.list.rested; by_start = h.list.by_start; lawful = h.list.lawful };
          balanced = omega arith;
          remembers = record {
            floor = refl;
            list = sym h.list.kept_whole;
            booked = ap (λ (x : Book). x.booked) opened;
            cancelled = ap (λ (x : Book). x.cancelled) opened;
          };
        };
      };
      saves = refl;
    }

module _ (save : Bool) (bytes : List ℕ) (s : Saved) (rest : List ℕ) (e : loaded bytes ≡ Ok (s, rest))
    (before after : Option (List ℕ)) where
  abbrev output : List ℕ → List (List ℕ) → List (List ℕ)
  output = output_of book_turns (resumed_standing save s)

  resumed_all : (left_after : Option (List ℕ)) (refused : Bool) → AnswersAll output (Some rest) left_after before after refused
      → AnswersWhole (resumed_output save) (Some bytes) left_after before after refused
  resumed_all None refused r = absurd (r.consumed)
  resumed_all (Some left) refused r =
      let f = followed bytes s rest e in
      record {
        starved = r.starved;
        consumed = f.parts ∙ ap (λ l. f.front ++ l) r.consumed ∙ sym (append_assoc f.front rest left)
            ∙ ap (λ l. l ++ left) (sym f.parts);
        written = subst (λ (l : Loaded). Appends before after (text_of (output_behind save r.starved l))) (sym e) r.written;
        told = subst (λ (l : Loaded). refused ≡ has_refusal (output_behind save r.starved l)) (sym e) r.told;
      }

  resumed_front : AnswersFront output (Some rest) before after → AnswersInPart (resumed_output save) (Some bytes) before after
  resumed_front r =
      record {
        starved = r.starved;
        written = subst (λ (l : Loaded). WritesFront before after (text_of (output_behind save r.starved l))) (sym e) r.written;
      }

  resumed_read : (left_after : Option (List ℕ)) → AnswersRead output (Some rest) left_after before after
      → AnswersSoFar (resumed_output save) (Some bytes) left_after before after
  resumed_read None r = absurd (r.consumed)
  resumed_read (Some left) r =
      let f = followed bytes s rest e in
      let starved : List ℕ = r.answered.starved in
      record {
        read = f.front ++ r.read;
        consumed = f.parts ∙ ap (λ l. f.front ++ l) r.consumed ∙ sym (append_assoc f.front r.read left);
        answered = record {
          starved = starved;
          written = subst (λ (l : Loaded). WritesFront before after (text_of (output_behind save starved l)))
              (sym (f.again r.read)) r.answered.written;
        };
      }

-- the same where the reader tells what it has left
module _ (save : Bool) (b : Book) (opened : b ≡ opened_again (saved_of b)) (before after : Option (List ℕ)) where
  pub Answers-resumed : (left behind left_after : Option (List ℕ)) (refused : Bool) → Loads left behind (Ok b)
      → ((s : Standing) → StandsToEnd b save s → AnswersAll (output_of book_turns s) behind left_after before after refused)
      → AnswersWhole (resumed_output save) left left_after before after refused
  Answers-resumed None behind left_after refused loads told = tt
  Answers-resumed (Some bytes) behind left_after refused loads told =
      let s : Saved = saved_of b in
      let at : Standing = resumed_standing save s in
      let P : Option (List ℕ) → Type 0 = λ l. AnswersAll (output_of book_turns at) l left_after before after refused in
      resumed_all save bytes s loads.0 loads.2 before after left_after refused
      (subst P loads.1 (told at (stands_again b save (loaded_was_saved bytes s loads.0 loads.2).0 opened)))

  pub Front-resumed : (left behind : Option (List ℕ)) → Loads left behind (Ok b)
      → ((s : Standing) → StandsToEnd b save s → AnswersFront (output_of book_turns s) behind before after)
      → AnswersInPart (resumed_output save) left before after
  Front-resumed None behind loads told = tt
  Front-resumed (Some bytes) behind loads told =
      let s : Saved = saved_of b in
      let at : Standing = resumed_standing save s in
      let P : Option (List ℕ) → Type 0 = λ l. AnswersFront (output_of book_turns at) l before after in
      resumed_front save bytes s loads.0 loads.2 before after
      (subst P loads.1 (told at (stands_again b save (loaded_was_saved bytes s loads.0 loads.2).0 opened)))

  pub Read-resumed : (left behind left_after : Option (List ℕ)) → Loads left behind (Ok b)
      → ((s : Standing) → StandsToEnd b save s → AnswersRead (output_of book_turns s) behind left_after before after)
      → AnswersSoFar (resumed_output save) left left_after before after
  Read-resumed None behind left_after loads told = tt
  Read-resumed (Some bytes) behind left_after loads told =
      let s : Saved = saved_of b in
      let at : Standing = resumed_standing save s in
      let P : Option (List ℕ) → Type 0 = λ l. AnswersRead (output_of book_turns at) l left_after before after in
      resumed_read save bytes s loads.0 loads.2 before after left_after
      (subst P loads.1 (told at (stands_again b save (loaded_was_saved bytes s loads.0 loads.2).0 opened)))

-- where no book was opened nothing was written, whatever was read
pub Read-unopened : (output : List ℕ → List ℕ → List (List ℕ)) (left left_after before : Option (List ℕ)) (input : Ahead)
    → ((bytes : List ℕ) → left ≡ Some bytes → IsRest bytes (unread input left_after) input.taken)
    → AnswersSoFar output left left_after before before
Read-unopened output None left_after before input rest = tt
Read-unopened output (Some bytes) None before input rest = absurd (cc (rest bytes refl).known)
Read-unopened output (Some bytes) (Some left) before input rest =
    let r = rest bytes refl in
    let front : List ℕ = take (gone_of bytes (unread input (Some left))) bytes in
    record {
      read = front ++ input.pending;
      consumed = r.ends ∙ sym (append_assoc front input.pending left);
      answered = record { starved = []; written = (_, WritesAllBut-refl before _) };
    }
