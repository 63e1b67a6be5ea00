use Rattle.std.specs.Prelude.{Bool, false, []}
use Rattle.std.specs.Global.{Global}
use Rattle.answer_ticket.specs.declared.tried.Receipt.{Receipt}

-- One booking of a run with workers, after this project's profile.

-- what was booked for the uplink with the receipt's number, and whether it was cancelled
pub record Booking : Type 0 where
  pub receipt : Receipt Global
  pub is_cancelled : Bool

-- what a receipt says was booked, and is not cancelled; its frame is not kept
abbrev pub booking_of : Receipt Global → Booking
booking_of r = record { receipt = record r { frame = [] }; is_cancelled = false }
