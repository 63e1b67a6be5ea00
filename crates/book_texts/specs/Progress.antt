use Rattle.std.specs.Prelude.{◌≡◌, ℕ, Bool, true, false, if◌then◌else◌, List, [], ◌∷◌, ◌++◌, map, Option, Some, None}
use Rattle.std.proofs.Common.{refl, ap, ◌∙◌}
use Rattle.std.proofs.lemmas.List.Folds.{list_any-append}
use Rattle.text_lines.specs.Turns.{TurnsByKept, EndsWithoutRefusal}
use Rattle.resv_list.specs.declared.reservation.Reservation.{Reservation}
use Rattle.gateway_book.specs.Book.{Book}
use Rattle.gateway_book.specs.Step.{State}
use Rattle.gateway_book.specs.Remembers.{StandsFor}
use Rattle.gateway_book.specs.Kept.{kept}
use Rattle.gateway_book.specs.Saved.{Saved, lines_in, member_words, end_words}
use Rattle.text_words.specs.Busiest.{all_busiest_lines, busiest-refuses_nothing}
use Rattle.text_words.specs.Words.{is_refusal, has_refusal, spaced}
use Rattle.book_texts.specs.declared.command.Command.{Command}
use Rattle.book_texts.specs.declared.reply.Reply.{Reply}
use Rattle.book_texts.specs.Said.{said, said-kept}
use Rattle.book_texts.specs.Reply.{reply_line}
use Rattle.book_texts.specs.Report.{totals_lines}
use Rattle.book_texts.specs.Answering.{reply_to, state_after, answer_to, state_after_line}
use Rattle.book_texts.specs.Output.{Standing, book_turns, counted_at, report_at, saved_at}

-- What a book does with a line, and what stands then.

-- the lines of an answer, if there is one
abbrev pub reply_lines : Option Reply → List (List ℕ)
reply_lines None = []
reply_lines (Some reply) = reply_line reply ∷ []

-- a command was carried out, and this is the answer, by each state that the book stands for
pub record IsCarriedOut (old new : Book) (command : Command) (reply : Reply) : Type 0 where
  pub starved : Bool
  pub answered : (s : State) → StandsFor old s → reply ≡ reply_to old.rules starved s command
  pub reached : (s : State) → StandsFor old s → StandsFor new (state_after old.rules starved s command)
  pub rules : new.rules ≡ old.rules
  pub id : new.id ≡ old.id

-- a line was carried out, and this is the answer, if it has one
pub record IsReplied (old new : Book) (number : ℕ) (line : List ℕ) (reply : Option Reply) : Type 0 where
  pub starved : Bool
  pub answered : (s : State) → StandsFor old s → answer_to old.rules starved number s (said line) ≡ reply_lines reply
  pub reached : (s : State) → StandsFor old s → StandsFor new (state_after_line old.rules starved s (said line))
  pub rules : new.rules ≡ old.rules
  pub id : new.id ≡ old.id

-- what stands in a book, which has forgotten what no answer to a command depends on
pub record StandsIn (book : Book) (at : Standing) : Type 0 where
  pub id : book.id ≡ at.id
  pub rules : book.rules ≡ at.rules
  pub stands : StandsFor book at.state

-- what is kept of a line does what the line does
pub book_turns_by_kept : TurnsByKept book_turns
book_turns_by_kept starved number at line = (
  ap (answer_to at.rules starved number at.state) (said-kept line),
  ap (λ what. record {
    saves = at.saves;
    id = at.id;
    rules = at.rules;
    state = state_after_line at.rules starved at.state what;
  }) (said-kept line),
)

-- what stands in a book, and whether it is saved at the end
pub record StandsToEnd (book : Book) (save : Bool) (at : Standing) : Type 0 where
  pub stands : StandsIn book at
  pub saves : save ≡ at.saves

-- no line of the report begins with `no` or `bad`
pub report-refuses_nothing : (s : State) → has_refusal (report_at s) ≡ false
report-refuses_nothing s =
    let l : List Reservation = kept s.list s.floor in
    list_any-append is_refusal (totals_lines (counted_at s)) (all_busiest_lines None l) ∙ busiest-refuses_nothing None l

-- nor one of a saved book
saved-refuses_nothing : (s : Saved) → has_refusal (lines_in 2 s) ≡ false
saved-refuses_nothing s = members s.list
  where
    members : (l : List Reservation) → has_refusal (map spaced (map member_words l ++ end_words s.list ∷ [])) ≡ false
    members [] = refl
    members (r ∷ l) = members l

pub book_ends_without_refusal : EndsWithoutRefusal book_turns
book_ends_without_refusal at = by at.saves
  where
    by : (saves : Bool) → has_refusal (if saves then lines_in 2 (saved_at at) else report_at at.state) ≡ false
    by true = saved-refuses_nothing (saved_at at)
    by false = report-refuses_nothing at.state
