use Rattle.std.specs.Prelude.{ℕ, ◌≡◌, ◌≢◌, max, List, [], ◌∷◌, Option, Some, Result, slice_get, ◌≤◌}
use Rattle.resv_list.specs.declared.reservation.Reservation.{Reservation}
use Rattle.gateway_book.specs.declared.ask.Ask.{Ask}
use Rattle.gateway_book.specs.declared.refusal.Refusal.{Refusal}
use Rattle.gateway_book.specs.declared.cancel.CancelFault.{CancelFault}
use Rattle.gateway_book.specs.Kept.{kept}
use Rattle.gateway_book.specs.Lawful.{IsLawful}
use Rattle.gateway_book.specs.Answer.{Rules, refusal_of}
use Rattle.gateway_book.specs.Step.{State, terms_at, book_step, cancel_answer, cancel_step, tick_step}
use Rattle.gateway_book.specs.Disjoint.{most_gap}

-- A gateway that forgets what its floor has put out of sight, beside one that forgets nothing.

-- what a gateway is told
pub data Command : Type 0 where
  Book : Ask → Command
  Cancel : ℕ → ℕ → Command
  Tick : ℕ → Command

-- what it answers: the refusal or none, what is taken out or why nothing is, the floor
pub data Reply : Type 0 where
  Answered : Option Refusal → Reply
  TakenOut : Result Reservation CancelFault → Reply
  Floor : ℕ → Reply

abbrev pub reply_to : Rules → State → Command → Reply
reply_to rules s (Book ask) = Answered (refusal_of (terms_at rules s) s.list ask)
reply_to rules s (Cancel number start) = TakenOut (cancel_answer s.floor s.list number start)
reply_to rules s (Tick now) = Floor (max s.floor now)

abbrev pub after_command : Rules → State → Command → State
after_command rules s (Book ask) = book_step rules s ask
after_command rules s (Cancel number start) = cancel_step s number start
after_command rules s (Tick now) = tick_step s now

-- the state with what is kept alone
abbrev pub forgetful : State → State
forgetful s = record s { list = kept s.list s.floor }

-- the replies of a gateway that forgets nothing
abbrev pub replies : Rules → State → List Command → List Reply
replies rules s [] = []
replies rules s (c ∷ cs) = reply_to rules s c ∷ replies rules (after_command rules s c) cs

-- those of one that forgets after each command
abbrev pub forgetful_replies : Rules → State → List Command → List Reply
forgetful_replies rules s [] = []
forgetful_replies rules s (c ∷ cs) = reply_to rules s c ∷ forgetful_replies rules (forgetful (after_command rules s c)) cs

-- members at different places begin at different moments
abbrev pub HaveOwnStarts : List Reservation → Type 0
HaveOwnStarts l =
    (i j : ℕ) (r s : Reservation) → slice_get l i ≡ Some r → slice_get l j ≡ Some s → i ≢ j → r.start ≢ s.start

-- what is forgotten is seen in no reply to a command, and in none to a list of commands; what is kept after a command is the
-- same; and a lawful list stays lawful
pub record IsUnseen (rules : Rules) (s : State) : Type 0 where
  pub reply : (c : Command) → reply_to rules (forgetful s) c ≡ reply_to rules s c
  pub after : (c : Command) → forgetful (after_command rules (forgetful s) c) ≡ forgetful (after_command rules s c)
  pub replies : (cs : List Command) → forgetful_replies rules (forgetful s) cs ≡ replies rules s cs
  pub lawful : (c : Command) → IsLawful rules.gap s.list → IsLawful rules.gap (after_command rules s c).list

-- the law: so it is for every gap that a gateway may have, and every list whose members have starts of their own, by start or
-- not, lawful or not
abbrev pub ForgettingIsUnseen : Type 0
ForgettingIsUnseen = (rules : Rules) (s : State) → rules.gap ≤ most_gap → HaveOwnStarts s.list → IsUnseen rules s
