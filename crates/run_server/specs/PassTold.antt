use Rattle.std.specs.Prelude.{ℕ, ◌≡◌, ◌+◌, List, map}
use Rattle.std.specs.Global.{Global}
use Rattle.air_ledger.specs.Tills.{Holding}
use Rattle.answer_ticket.specs.declared.tried.Receipt.{Receipt}
use Rattle.server_workers.specs.Works.{outcomes_airtime}
use Rattle.server_workers.specs.Filing.{Filing, nothing, IsReordered, IsByNumber}
use Rattle.run_server.specs.declared.pass_answers.Answer.{Answer}
use Rattle.run_server.specs.Booking.{booking_of}
use Rattle.run_server.specs.PassEnds.{left_by}
use Rattle.run_server.specs.PassAnswers.{answer_in}
use Rattle.run_server.specs.PassTurns.{HasFiled, WereEnded}

-- What a station with workers tells of the uplinks that one `pass` closed (docs/FORMATS.md, "airbook run").

-- one answer for each of these numbers, in their order: by how the workers ended it, and where none of them did, by how the
-- calling thread, which took up just those at a station of these gateways, did; and the receipts of all that was booked, but for
-- their frames, which the answers have
pub record IsPassToldFrom (ids : List ℕ) (before after : Holding) (workers : Filing Global) (numbers : List ℕ) (answers : List Answer)
    (booked : List (Receipt Global)) : Type 0 where
  pub finished : Filing Global
  pub all : Filing Global
  pub rest : HasFiled ids (left_by workers numbers) before after workers finished
  pub reordered : IsReordered finished all
  pub sorted : IsByNumber all
  pub told : answers ≡ map (answer_in all) numbers
  pub receipts : map booking_of booked ≡ map booking_of all.receipts

-- the till with the airtime of what workers settled
abbrev pub raised : Holding → Filing Global → Holding
raised till workers = record till { amount = till.amount + outcomes_airtime workers.outcomes }

-- the same, as workers ended some of them; the till has the airtime of all that they and the calling thread settled
pub record IsPassTold (ids : List ℕ) (before after : Holding) (numbers : List ℕ) (answers : List Answer)
    (booked : List (Receipt Global)) : Type 0 where
  pub workers : Filing Global
  pub by_number : IsByNumber workers
  pub ended : WereEnded numbers workers
  pub told : IsPassToldFrom ids (raised before workers) after workers numbers answers booked

-- the same where no worker ended any: the calling thread took up each of them
abbrev pub IsPassToldAlone : List ℕ → Holding → Holding → List ℕ → List Answer → List (Receipt Global) → Type 0
IsPassToldAlone ids before after numbers answers booked =
    IsPassToldFrom ids (raised before nothing) after nothing numbers answers booked
