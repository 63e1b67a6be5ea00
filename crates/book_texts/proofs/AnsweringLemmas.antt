-- Lemmas on one line: how a command is carried out, and its answer written.
use Rattle.std.proofs.Common.{◌≡◌, ℕ, max, true, false, Option, None, Some, Result, Ok, Err, MatchOption}
use Rattle.std.proofs.Common.{IfOk, OnErr, IsOkUnless, refl, sym, ap, ◌∙◌, subst}
use Rattle.resv_list.specs.declared.reservation.Reservation.{Reservation}
use Rattle.resv_list.specs.Reservations.{end_of}
use Rattle.gateway_book.specs.declared.ask.Ask.{Ask}
use Rattle.gateway_book.specs.declared.cancel.CancelFault.{CancelFault}
use Rattle.gateway_book.specs.declared.refusal.Refusal.{Refusal}
use Rattle.gateway_book.specs.declared.refusal.Refusal.TheVariants.{NoMemory}
use Rattle.gateway_book.specs.Answer.{IsAsked, refusal_of}
use Rattle.gateway_book.specs.Step.{after_answer, cancel_answer, cancel_step}
use Rattle.gateway_book.specs.Book.{Book, terms_of, state_of, with_booked, with_cancelled, ticked, airtime_answer}
use Rattle.gateway_book.specs.Remembers.{StandsFor}
use Rattle.gateway_book.proofs.RememberedLaws.{remembers_cancel}
use Rattle.gateway_book.proofs.StandingLaws.{stands_answer, stands_booked, stands_cancelled, stands_ticked}
use Rattle.book_texts.specs.declared.command.Command.TheVariants.{Book as Booking, Cancel, Tick, Earliest}
use Rattle.gateway_book.specs.EarliestValue.{earliest_of}
use Rattle.gateway_book.proofs.EarliestValue.{stands_earliest}
use Rattle.book_texts.specs.declared.reply.Reply.{Reply}
use Rattle.book_texts.specs.declared.reply.Reply.TheVariants.{Booked, Refused, Cancelled, NotCancelled, Floor}
use Rattle.book_texts.specs.Answering.{booking_reply, cancel_reply, start_reply, reply_of}
use Rattle.book_texts.specs.Progress.{IsCarriedOut}

refused_by : (old : Book) (ask : Ask) (refusal : Refusal) (o : Option Refusal) → refusal_of (terms_of old) old.list ask ≡ o
    → MatchOption o (IsOkUnless {T = Reservation} (Err refusal) NoMemory)
    (λ e. ◌≡◌ {A = Result Reservation Refusal} (Err refusal) (Err e))
    → IsCarriedOut old old (Booking ask) (Refused ask.number refusal)
refused_by old ask refusal None is h =
    record {
      starved = true;
      answered = λ s stood.
          ap (λ e. Refused ask.number e) h
          ∙ sym (ap (λ o. booking_reply true o ask) (sym (stands_answer old s stood ask) ∙ is));
      reached = λ s stood. stood;
      rules = refl;
      id = refl;
    }
refused_by old ask refusal (Some e) is h =
    let same : refusal ≡ e = cc in
    record {
      starved = false;
      answered = λ s stood.
          ap (λ e. Refused ask.number e) same
          ∙ sym (ap (λ o. booking_reply false o ask) (sym (stands_answer old s stood ask) ∙ is));
      reached = λ s stood.
          subst (StandsFor old) (sym (ap (λ o. after_answer o s ask) (sym (stands_answer old s stood ask) ∙ is))) stood;
      rules = refl;
      id = refl;
    }

-- a booking that is refused changes nothing
carried_out-refused : (old new : Book) (ask : Ask) (refusal : Refusal)
    → MatchOption (refusal_of (terms_of old) old.list ask) (IsOkUnless {T = Reservation} (Err refusal) NoMemory)
    (λ e. ◌≡◌ {A = Result Reservation Refusal} (Err refusal) (Err e)) → new ≡ old
    → IsCarriedOut old new (Booking ask) (Refused ask.number refusal)
carried_out-refused old new ask refusal h same =
    let P : Book → Type 0 = λ b. IsCarriedOut old b (Booking ask) (Refused ask.number refusal) in
    subst P (sym same) (refused_by old ask refusal (refusal_of (terms_of old) old.list ask) refl h)

accepted_none : (o : Option Refusal) (r : Reservation) → MatchOption o (IsOkUnless {T = Reservation} (Ok r) NoMemory)
    (λ e. ◌≡◌ {A = Result Reservation Refusal} (Ok r) (Err e)) → o ≡ None
accepted_none None r h = refl
accepted_none (Some e) r h = absurd (cc)

-- a booking that is accepted is one step
carried_out-booked : (old new : Book) (ask : Ask) (r : Reservation)
    → MatchOption (refusal_of (terms_of old) old.list ask) (IsOkUnless {T = Reservation} (Ok r) NoMemory)
    (λ e. ◌≡◌ {A = Result Reservation Refusal} (Ok r) (Err e)) → IsAsked ask r → new ≡ with_booked old r
    → IsCarriedOut old new (Booking ask) (Booked r.number r.start (end_of r))
carried_out-booked old new ask r h a is =
    let none = accepted_none (refusal_of (terms_of old) old.list ask) r h in
    record {
      starved = false;
      answered = λ s stood.
          rw (a.number, a.start, a.rate, a.len)
          (sym (ap (λ o. booking_reply false o ask) (sym (stands_answer old s stood ask) ∙ none)));
      reached = λ s stood. rw is (stands_booked old s stood ask r a none);
      rules = rw is refl;
      id = rw is refl;
    }

-- a booking is one step, and told as it was answered
pub carried_out-booking : (old new : Book) (ask : Ask) (answer : Result Reservation Refusal)
    → MatchOption (refusal_of (terms_of old) old.list ask) (IsOkUnless answer NoMemory) (λ e. answer ≡ Err e)
    → IfOk answer (IsAsked ask) → IfOk answer (λ r. new ≡ with_booked old r) → OnErr answer (new ≡ old)
    → IsCarriedOut old new (Booking ask) (reply_of ask answer)
carried_out-booking old new ask (Ok r) h a is same = carried_out-booked old new ask r h a is
carried_out-booking old new ask (Err refusal) h a is same = carried_out-refused old new ask refusal h same

-- a cancel is one step, whether or not it takes out
pub carried_out-cancelled : (old new : Book) (number start airtime : ℕ)
    → Ok airtime ≡ airtime_answer (cancel_answer old.floor old.list number start)
    → new ≡ with_cancelled old number start airtime → state_of new ≡ cancel_step (state_of old) number start
    → IsCarriedOut old new (Cancel number start) (Cancelled number airtime)
carried_out-cancelled old new number start airtime h is step =
    record {
      starved = false;
      answered = λ s stood.
          ap (cancel_reply number) (h ∙ ap airtime_answer (remembers_cancel old s stood.orderly stood.remembers number start));
      reached = λ s stood. stands_cancelled old s stood number start new (rw is refl) step;
      rules = rw is refl;
      id = rw is refl;
    }

pub carried_out-not_cancelled : (old new : Book) (number start : ℕ) (fault : CancelFault)
    → Err fault ≡ airtime_answer (cancel_answer old.floor old.list number start) → new ≡ old
    → state_of new ≡ cancel_step (state_of old) number start
    → IsCarriedOut old new (Cancel number start) (NotCancelled number fault)
carried_out-not_cancelled old new number start fault h is step =
    record {
      starved = false;
      answered = λ s stood.
          ap (cancel_reply number) (h ∙ ap airtime_answer (remembers_cancel old s stood.orderly stood.remembers number start));
      reached = λ s stood. stands_cancelled old s stood number start new (rw is refl) step;
      rules = rw is refl;
      id = rw is refl;
    }

pub carried_out-ticked : (old new : Book) (now floor : ℕ) → new ≡ ticked old now → floor ≡ new.floor
    → IsCarriedOut old new (Tick now) (Floor floor)
carried_out-ticked old new now floor is f =
    record {
      starved = false;
      answered = λ s stood.
          ap Floor (f ∙ ap (λ (b : Book). b.floor) is ∙ ap (λ n. max n now) stood.remembers.floor);
      reached = λ s stood. rw is (stands_ticked old s stood now);
      rules = rw is refl;
      id = rw is refl;
    }

-- a question for the earliest start changes nothing
pub carried_out-sought : (old : Book) (ask : Ask) (last : ℕ) (reply : Reply)
    → reply ≡ start_reply ask.number (earliest_of (terms_of old) old.list ask ask.start last)
    → IsCarriedOut old old (Earliest ask last) reply
carried_out-sought old ask last reply h =
    record {
      starved = false;
      answered = λ s stood. h ∙ ap (start_reply ask.number) (stands_earliest old s stood ask ask.start last);
      reached = λ s stood. stood;
      rules = refl;
      id = refl;
    }
