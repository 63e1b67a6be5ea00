-- A booking that is tried on the copy of a book is the plan's turn.
use Rattle.std.proofs.Common.{◌≡◌, ℕ, true, false, List, [], ◌∷◌, ◌++◌, Option, None, Some, Ok, Err, MatchOption}
use Rattle.std.proofs.Common.{IsOkAnd, refl, sym, ap, ◌∙◌, Bool}
use Rattle.text_lines.specs.Progress.{IsAnswer, IsTurn}
use Rattle.text_words.specs.Words.{is_refusal}
use Rattle.gateway_book.specs.declared.ask.Ask.{Ask}
use Rattle.gateway_book.specs.declared.refusal.Refusal.{Refusal}
use Rattle.gateway_book.specs.Answer.{IsAsked, refusal_of}
use Rattle.gateway_book.specs.Step.{State, book_step}
use Rattle.gateway_book.specs.Book.{Book, terms_of, state_of}
use Rattle.book_texts.specs.declared.command.Command.TheVariants.{Book as Booking, Earliest}
use Rattle.book_texts.specs.declared.command.Command.{Command}
use Rattle.book_texts.specs.declared.command.Said.TheVariants.{Order}
use Rattle.book_texts.specs.declared.reply.Reply.{Reply}
use Rattle.book_texts.specs.declared.reply.Reply.TheVariants.{Booked, Refused, Cancelled, NotCancelled, Floor, At, NoStart, Bad}
use Rattle.book_texts.specs.Said.{said}
use Rattle.book_texts.specs.Answering.{booking_reply, reply_of}
use Rattle.airtime_planner.specs.WhatIf.{Answer, IsAnswer as IsAnswerTo}
use Rattle.book_texts.specs.Planning.{Planned, plan_turns, opens_plan, if_line, tried_reply, tried_after, tried_start}
use Rattle.book_texts.specs.Planning.{planned_line, planned_after}
use Rattle.book_texts.specs.Trying.{IsTried, IsTriedOn, IsSoughtOn, IsCopyOf, IsTrialTurn, StandsPlanned}
use Rattle.book_texts.specs.Output.{Standing, book_turns}
use Rattle.book_texts.specs.Progress.{StandsIn}

-- a booking that is tried is told its answer
pub told_answer : (ask : Ask) (o : Option Refusal) (answer : Answer)
    → MatchOption o (IsOkAnd answer (IsAsked ask)) (λ refusal. answer ≡ Err refusal)
    → booking_reply false o ask ≡ reply_of ask answer
told_answer ask None (Ok r) a = rw (a.number, a.start, a.rate, a.len) refl
told_answer ask None (Err refusal) a = absurd (a)
told_answer ask (Some refusal) answer e = rw e refl

pub tried-answered : (old new : Book) (ask : Ask) (answer : Answer) → IsAnswerTo old.rules (state_of old) ask answer
    → state_of new ≡ book_step old.rules (state_of old) ask → new.rules ≡ old.rules
    → IsTried old new ask (reply_of ask answer)
tried-answered old new ask answer h step same =
    record {
      starved = false;
      answered = sym (told_answer ask (refusal_of (terms_of old) old.list ask) answer h);
      reached = ap Some step;
      rules = same;
    }

-- a line that begins with `if` begins with neither `no` nor `bad`
pub if_line-unrefused : (reply : Reply) → is_refusal (if_line reply) ≡ false
if_line-unrefused (Booked number start end) = refl
if_line-unrefused (Refused number refusal) = refl
if_line-unrefused (Cancelled number airtime) = refl
if_line-unrefused (NotCancelled number fault) = refl
if_line-unrefused (Floor floor) = refl
if_line-unrefused (At number start) = refl
if_line-unrefused (NoStart number) = refl
if_line-unrefused (Bad line) = refl

-- a command of the plan whose line begins with `if`
module _ (number : ℕ) (line text : List ℕ) (command : Command) (reply : Reply) (is : said line ≡ Order command)
    (put : text ≡ if_line reply ++ (10 ∷ [])) where
  turn_at : (new : Option Book) (at : Planned) (o : Option State) (starved : Bool) → at.trial ≡ Some o
      → if_line reply ≡ planned_line at.rules starved number o command
      → IsCopyOf new (record { rules = at.rules; state = at.state; trial = Some (planned_after at.rules starved o command) })
      → IsAnswer plan_turns at (λ next. (next.rules ≡ at.rules) × (next.state ≡ at.state) × IsCopyOf new next) number line text
      false
  turn_at new at o starved trial e stood =
      record {
        starved = starved;
        is_text = rw (trial, is) (put ∙ ap (λ l. l ++ (10 ∷ [])) e);
        told = rw (trial, is, sym e, if_line-unrefused reply) refl;
        stands = rw (trial, is) (refl, refl, stood);
      }

module _ (number : ℕ) (line text : List ℕ) (ask : Ask) (reply : Reply) (is : said line ≡ Order (Booking ask))
    (put : text ≡ if_line reply ++ (10 ∷ [])) where
  pub turn_tried : (old new : Option Book) → IsTriedOn old new ask reply → IsTrialTurn old new number line text false
  turn_tried None (Some new) e = elim e [ ]
  turn_tried (Some old) None tried = elim tried [ ]
  turn_tried None None e = λ at stood.
      turn_at number line text (Booking ask) reply is put None at None true stood (ap if_line e) refl
  turn_tried (Some old) (Some new) tried = λ at stood.
      let answered : reply ≡ tried_reply at.rules tried.starved (Some (state_of old)) ask = rw (sym stood.0) tried.answered in
      let reached : Some (state_of new) ≡ tried_after at.rules tried.starved (Some (state_of old)) ask =
      rw (sym stood.0) tried.reached in
      turn_at number line text (Booking ask) reply is put (Some new) at (Some (state_of old)) tried.starved stood.1
      (ap if_line answered) (tried.rules ∙ stood.0, ap Some (sym reached))

-- the earliest start that is looked for on the copy is the plan's turn, and leaves the copy as it is
pub turn_sought : (number : ℕ) (line text : List ℕ) (ask : Ask) (last : ℕ) (reply : Reply)
    → said line ≡ Order (Earliest ask last) → text ≡ if_line reply ++ (10 ∷ []) → (copy : Option Book)
    → IsSoughtOn copy ask last reply → IsTrialTurn copy copy number line text false
turn_sought number line text ask last reply is put None e = λ at stood.
    turn_at number line text (Earliest ask last) reply is put None at None true stood (ap if_line e) refl
turn_sought number line text ask last reply is put (Some copy) e = λ at stood.
    let answered : reply ≡ tried_start at.rules (Some (state_of copy)) ask last = rw (sym stood.0) e in
    turn_at number line text (Earliest ask last) reply is put (Some copy) at (Some (state_of copy)) false stood.1
    (ap if_line answered) (stood.0, refl)

-- before the plan a line is the book's own turn
pub turn_before : (old new : Book) (is_planned : Bool) (copy : Option Book) (number : ℕ) (line text : List ℕ) (refused : Bool)
    → is_planned ≡ false → opens_plan line ≡ false → IsTurn book_turns (StandsIn old) (StandsIn new) number line text refused
    → IsTurn plan_turns (StandsPlanned old is_planned copy) (StandsPlanned new is_planned copy) number line text refused
turn_before old new true copy number line text refused live shut turn = absurd (cc)
turn_before old new false copy number line text refused live shut turn = λ at stood.
    let here : Standing = record { saves = false; id = old.id; rules = at.rules; state = at.state } in
    let told = turn here (record { id = refl; rules = stood.rules; stands = stood.stands }) in
    record {
      starved = told.starved;
      is_text = rw (stood.plan, shut) told.is_text;
      told = rw (stood.plan, shut) told.told;
      stands = rw (stood.plan, shut) (record { rules = told.stands.rules; stands = told.stands.stands; plan = refl });
    }
