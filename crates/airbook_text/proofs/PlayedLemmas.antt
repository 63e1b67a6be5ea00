-- Lemmas on a run that was played to its end.
use Rattle.std.proofs.Common.{◌≡◌, ◌≢◌, ℕ, List, [], sym, subst, Result, Ok, Err, IfOk, IfErr, Vec}
use Rattle.std.specs.Global.{Global}
use Rattle.air_ledger.specs.Tills.{Holding}
use Rattle.book_audit.specs.Audit.{booked_by}
use Rattle.server_core.specs.declared.entry.Entry.{Entry}
use Rattle.server_core.specs.declared.event.Event.{Event}
use Rattle.server_desk.specs.declared.setting.GatewaySetting.{GatewaySetting}
use Rattle.server_station.specs.Stations.{AreInOrder}
use Rattle.text_words.specs.declared.fault.TextFault.{TextFault}
use Rattle.text_words.specs.declared.fault.TextFault.TheVariants.{NoMemory}
use Rattle.run_server.specs.Booking.{Booking}
use Rattle.run_server.specs.WorkersRun.{run_state, opening_till, AreDone, IsClosing, IsClosingFault}
use Rattle.run_server.specs.Bookings.{open_receipts}
use Rattle.run_server.specs.declared.station_run.Played.{Played}
use Rattle.airbook_text.specs.Played.{IsFinished, IsPlayed, IsFinishedApart, IsPlayedApart}

-- what was done for all events, and the books then
pub finished_with : {E : Type 0} (ids : List ℕ) (es : List (Event Global)) (till : Holding) (bookings : List Booking)
    (entries : Vec (Entry Global) Global) (r : Result Played E)
    → AreDone ids 0 es (run_state opening_till [] []) (run_state till bookings entries.items)
    → IfOk r (λ (p : Played). p.entries ≡ entries)
    → IfOk r (λ (p : Played). IsClosing ids (open_receipts bookings) p.totals.items p.books.items)
    → IfOk r (λ (p : Played). booked_by p.books.items ≡ till.amount)
    → IfOk r (λ (p : Played). IsFinished ids es p.entries.items p.totals.items p.books.items)
finished_with ids es till bookings entries (Ok p) done same closing booked =
    record {
      till = till;
      bookings = bookings;
      done = subst
          (λ (v : Vec (Entry Global) Global). AreDone ids 0 es (run_state opening_till [] []) (run_state till bookings v.items))
          (sym same) done;
      closing = closing;
      booked = booked;
    }
finished_with ids es till bookings entries (Err e) done same closing booked = tt

-- what was done for all events, and why the books didn't go together then
pub apart_with : {T : Type 0} (ids : List ℕ) (es : List (Event Global)) (till : Holding) (bookings : List Booking)
    (entries : List (Entry Global)) (r : Result T TextFault)
    → AreDone ids 0 es (run_state opening_till [] []) (run_state till bookings entries)
    → IfErr r (λ fault. fault ≢ NoMemory → IsClosingFault ids (open_receipts bookings) fault)
    → IfErr r (λ fault. fault ≢ NoMemory → IsFinishedApart ids es fault)
apart_with ids es till bookings entries (Ok p) done why = tt
apart_with ids es till bookings entries (Err fault) done why = λ other.
    record { till = till; bookings = bookings; entries = entries; done = done; cause = why other }

-- at a station of gateways with these settings
pub played_apart : {T : Type 0} (gateways : List GatewaySetting) (ids : List ℕ) (es : List (Event Global))
    (r : Result T TextFault) → AreInOrder gateways ids
    → IfErr r (λ fault. fault ≢ NoMemory → IsFinishedApart ids es fault)
    → IfErr r (λ fault. fault ≢ NoMemory → IsPlayedApart gateways es fault)
played_apart gateways ids es (Ok p) in_order finished = tt
played_apart gateways ids es (Err fault) in_order finished = λ other.
    record { ids = ids; in_order = in_order; finished = finished other }

-- a run that was finished at a station of gateways with these settings
pub played_with : {E : Type 0} (gateways : List GatewaySetting) (ids : List ℕ) (es : List (Event Global)) (r : Result Played E)
    → AreInOrder gateways ids → IfOk r (λ (p : Played). IsFinished ids es p.entries.items p.totals.items p.books.items)
    → IfOk r (λ (p : Played). IsPlayed gateways es p.entries.items p.totals.items p.books.items)
played_with gateways ids es (Ok p) in_order finished = record { ids = ids; in_order = in_order; finished = finished }
played_with gateways ids es (Err fault) in_order finished = tt
