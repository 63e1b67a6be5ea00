-- What the calling thread files, number by number.
use Rattle.std.proofs.Common.{◌≡◌, ℕ, ◌++◌, ◌+◌, List, [], ◌∷◌, Some, subst, sym}
use Rattle.std.proofs.Common.{ap, ◌∙◌, append-nil, refl, length, ◌==◌, Bool, true, map, arith}
use Rattle.std.specs.Global.{Global}
use Rattle.std.proofs.Math.Logic.{∥∥₁_map}
use Rattle.std.proofs.lemmas.Bool.Decides.{nat_tests}
use Rattle.std.proofs.lemmas.List.Elements.{All-nil}
use Rattle.std.proofs.lemmas.List.{map-append}
use Rattle.air_ledger.specs.Tills.{Holding}
use Rattle.answer_ticket.specs.declared.tried.Receipt.{Receipt}
use Rattle.server_station.specs.Handling.{IsHandled}
use Rattle.server_station.specs.declared.handled.Handled.{Handled}
use Rattle.server_station.specs.declared.handled.Handled.TheVariants.{NotTaken, Settled, Stray}
use Rattle.server_workers.specs.declared.served.Served.{Served}
use Rattle.server_workers.specs.Filing.{Filing, nothing, put_behind, filing, IsByNumber}
use Rattle.server_workers.specs.Lists.{lists_of_served}
use Rattle.server_workers.specs.Served.{IsServed}
use Rattle.server_workers.specs.Turns.{Turns, IsOneOf}
use Rattle.server_workers.proofs.FilingLemmas.{filing_is, put_behind-nothing, filed_behind, reordered-refl, nothing_by_number}
use Rattle.server_workers.proofs.TurnLemmas.{handed_on}
use Rattle.run_server.specs.declared.pass_answers.Answer.{Answer}
use Rattle.run_server.specs.Booking.{booking_of}
use Rattle.run_server.specs.PassEnds.{left_by}
use Rattle.run_server.specs.PassAnswers.{answer_in}
use Rattle.run_server.specs.PassTurns.{WereEnded, IsFiled, HasFiled, HasFiledInOrder, ended_by}
use Rattle.run_server.specs.PassTold.{raised, IsPassTold, IsPassToldFrom, IsPassToldAlone}

-- one more number was taken up
pub filed_more : (ids numbers : List ℕ) (n : ℕ) (turn : Handled Global) (first till last : Holding)
    (old mid new : Filing Global) → HasFiled ids numbers first till old mid → IsHandled ids n till last turn
    → IsFiled n turn mid new → HasFiled ids (numbers ++ n ∷ []) first last old new
filed_more ids numbers n turn first till last old mid new so_far handled filed =
    let turns : Turns Global = so_far.0 in
    let t : ℕ × Handled Global = (n, turn) in
    let one : new ≡ put_behind mid (ended_by n turn) =
    filing_is new (put_behind mid (ended_by n turn)) filed.receipts filed.outcomes
    (filed.skipped ∙ sym (append-nil mid.skipped)) filed.refused filed.strays in (
      turns ++ t ∷ [],
      map-append (λ (s : ℕ × Handled Global). s.0) turns (t ∷ []) ∙ ap (λ l. l ++ n ∷ []) so_far.1,
      handed_on ids turns n turn first till last so_far.2 handled,
      filed_behind (λ (s : ℕ × Handled Global). ended_by s.0 s.1) turns t old mid new so_far.3 one,
    )

-- no number was taken up
pub nothing_filed : (ids : List ℕ) (till : Holding) (f : Filing Global) → HasFiled ids [] till till f f
nothing_filed ids till f = ([], refl, refl, sym (put_behind-nothing f))

pub none_filed : (ids : List ℕ) (till : Holding) (f : Filing Global) → HasFiledInOrder ids [] till till f f
none_filed ids till f = (f, nothing_filed ids till f, reordered-refl f)

-- a list that is empty
pub is_none : (l : List ℕ) (t : Bool) → t ≡ (length l == 0) → t ≡ true → l ≡ []
is_none [] t e f = refl
is_none (n ∷ l) t e f =
    let none : length (n ∷ l) ≡ 0 = grind (arith, nat_tests, e, f) in
    absurd (omega (arith, none))

-- what is told of a pass once what the workers left was taken up
pub told_in_order : (ids : List ℕ) (before after : Holding) (workers all : Filing Global) (numbers left : List ℕ)
    (answers : List Answer) (booked : List (Receipt Global)) → HasFiledInOrder ids left before after workers all
    → left ≡ left_by workers numbers → IsByNumber all → answers ≡ map (answer_in all) numbers
    → map booking_of booked ≡ map booking_of all.receipts → IsPassToldFrom ids before after workers numbers answers booked
told_in_order ids before after workers all numbers left answers booked filed same sorted told receipts =
    record {
      finished = filed.0;
      all = all;
      rest = subst (λ l. HasFiled ids l before after workers filed.0) same filed.1;
      reordered = filed.2;
      sorted = sorted;
      told = told;
      receipts = receipts;
    }

-- what workers served is how they ended it
pub served_ended : {B : Type 0} (numbers : List ℕ) (served : Served B Global) → IsServed numbers served
    → WereEnded numbers (filing (lists_of_served served))
served_ended numbers served all =
    ∥∥₁_map all (λ s. (s.0, record { among = s.1.among; told = s.1.told; filed = s.1.filed }))

-- where nobody worked the till is as it was
pub raised_none : (till : Holding) → till ≡ raised till nothing
raised_none till =
    let same : till.amount + 0 ≡ till.amount = omega arith in
    sym (ap (λ n. record till { amount = n }) same)

-- where nobody worked none ended
none_ended : (numbers : List ℕ) → WereEnded numbers nothing
none_ended numbers =
    ∣ (
      [],
      record {
        among = All-nil (λ (t : ℕ × Handled Global). IsOneOf (Some numbers) t.0);
        told = All-nil _;
        filed = reordered-refl nothing;
      },
    ) ∣₁

-- what the calling thread told alone is told where no worker ended any
pub told_alone : (ids : List ℕ) (before after : Holding) (numbers : List ℕ) (answers : List Answer)
    (booked : List (Receipt Global)) → IsPassToldAlone ids before after numbers answers booked
    → IsPassTold ids before after numbers answers booked
told_alone ids before after numbers answers booked alone =
    record { workers = nothing; by_number = nothing_by_number; ended = none_ended numbers; told = alone }

-- the till keeps its parts
pub handled_parts : (ids : List ℕ) (n : ℕ) (old new : Holding) (turn : Handled Global) → IsHandled ids n old new turn
    → new.parts ≡ old.parts
handled_parts ids n old new (NotTaken fault) h = ap (λ (t : Holding). t.parts) h.till
handled_parts ids n old new (Settled outcome receipt) h = ap (λ (t : Holding). t.parts) h.till
handled_parts ids n old new (Stray outcome receipt) h = ap (λ (t : Holding). t.parts) h.till
