use Rattle.std.specs.Prelude.{ℕ, ◌≡◌, List, []}
use Rattle.std.specs.Global.{Global}
use Rattle.air_ledger.specs.Tills.{Holding}
use Rattle.gateway_book.specs.declared.totals.Totals.{Totals}
use Rattle.gateway_book.specs.Book.{Book}
use Rattle.server_core.specs.declared.entry.Entry.{Entry}
use Rattle.server_core.specs.declared.event.Event.{Event}
use Rattle.server_desk.specs.declared.setting.GatewaySetting.{GatewaySetting}
use Rattle.book_audit.specs.Audit.{booked_by}
use Rattle.server_station.specs.Stations.{AreInOrder}
use Rattle.text_words.specs.declared.fault.TextFault.{TextFault}
use Rattle.run_server.specs.Booking.{Booking}
use Rattle.run_server.specs.Bookings.{open_receipts}
use Rattle.run_server.specs.WorkersRun.{run_state, opening_till, AreDone, IsClosing, IsClosingFault}

-- A run at a station of workers, and how it ends.

-- these events were done for one after another at a station of these gateways, which was closed then: the books have booked the
-- airtime of all that was settled meanwhile
pub record IsFinished (ids : List ℕ) (es : List (Event Global)) (entries : List (Entry Global)) (totals : List (ℕ × Totals))
    (books : List Book) : Type 0 where
  pub till : Holding
  pub bookings : List Booking
  pub done : AreDone ids 0 es (run_state opening_till [] []) (run_state till bookings entries)
  pub closing : IsClosing ids (open_receipts bookings) totals books
  pub booked : booked_by books ≡ till.amount

-- at a station of gateways with these settings
pub record IsPlayed (gateways : List GatewaySetting) (es : List (Event Global)) (entries : List (Entry Global))
    (totals : List (ℕ × Totals)) (books : List Book) : Type 0 where
  pub ids : List ℕ
  pub in_order : AreInOrder gateways ids
  pub finished : IsFinished ids es entries totals books

-- these events were done for one after another at a station of these gateways, whose books then didn't go with a desk, or with
-- just the receipts of what was not cancelled
pub record IsFinishedApart (ids : List ℕ) (es : List (Event Global)) (fault : TextFault) : Type 0 where
  pub till : Holding
  pub bookings : List Booking
  pub entries : List (Entry Global)
  pub done : AreDone ids 0 es (run_state opening_till [] []) (run_state till bookings entries)
  pub cause : IsClosingFault ids (open_receipts bookings) fault

-- at a station of gateways with these settings
pub record IsPlayedApart (gateways : List GatewaySetting) (es : List (Event Global)) (fault : TextFault) : Type 0 where
  pub ids : List ℕ
  pub in_order : AreInOrder gateways ids
  pub finished : IsFinishedApart ids es fault
