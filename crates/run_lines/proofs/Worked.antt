-- The definition of the lines at a worked replay.
use Rattle.std.proofs.Common.{◌≡◌, ℕ, false, true, List, [], ◌∷◌, map, codes, refl}
use Rattle.std.specs.Fmt.{digits}
use Rattle.hex.specs.Hex.{encode_with}
use Rattle.radio_airtime.specs.declared.data_rate.DataRate.TheVariants.{Dr0, Dr5}
use Rattle.radio_airtime.specs.TimeOnAir.{airtime_of}
use Rattle.radio_bands.specs.Band.{band_of}
use Rattle.resv_list.specs.Reservations.{begun, net}
use Rattle.gateway_book.specs.Kept.{kept}
use Rattle.gateway_book.specs.Answer.{overlap}
use Rattle.gateway_book.specs.Duty.{full_hour}
use Rattle.gateway_book.specs.Busiest.{busiest_of}
use Rattle.gateway_book.specs.declared.refusal.Refusal.TheVariants.{Taken, DutyFull}
use Rattle.gateway_book.specs.Step.{State, book_step}
use Rattle.rx_windows.specs.declared.candidate.Window.TheVariants.{Rx1, Rx2}
use Rattle.server_core.specs.declared.entry.Line.{Line}
use Rattle.server_core.specs.declared.entry.Line.TheVariants.{Queued, NotQueued, Heard, NotHeard, Silent, NotTaken, Send, Frame}
use Rattle.server_core.specs.declared.entry.Line.TheVariants.{Unanswered, Stray, Cancelled, NotCancelled, Floor, NotTicked, Bad}
use Rattle.server_desk.specs.declared.heard.DeskHeard.TheVariants.{Opened, Joined}
use Rattle.lora_frame.specs.declared.reading.FrameFault.TheVariants.{Short, OptionsCut}
use Rattle.server_core.specs.Entries.{entry_at}
use Rattle.run_lines.specs.ReplayText.{replay_lines}
use Rattle.server_desk.specs.declared.faults.QueueFault.TheVariants.{QueueFull}
use Rattle.server_desk.specs.declared.faults.TakeFault.TheVariants.{CounterSpent}
use Rattle.gateway_book.specs.declared.cancel.CancelFault.TheVariants.{Begun}
use Rattle.radio_bands.specs.declared.band.Band.TheVariants.{K}
use Rattle.std.specs.List.{list_any}
use Rattle.text_words.specs.Words.{is_refusal}
use Rattle.run_lines.specs.EntryLine.{line_text}
use Rattle.server_desk.specs.declared.faults.DeskFault.TheVariants as hears

-- nothing was sent at a gateway
pub none_sent : State
none_sent = record { floor = 0; list = []; booked = 0; cancelled = 0 }

-- one transmission
pub one_sent : State
one_sent = book_step (record { cap = 4096; gap = 0 }) none_sent (record
    { number = 1; start = 10000000; freq_hz = 868100000; rate = Dr5; len = 12 })

pub worked_lines : List (Line ℕ)
worked_lines =
    Queued 637606874 2 ∷ Heard (Opened 1 false) ∷ Heard (Opened 2 true) ∷ Heard (Joined 1 2) ∷ NotHeard (hears.Frame Short)
    ∷ Send 1 (record { gateway = 2; window = Rx1; start = 10000000; freq_hz = 868100000; rate = Dr5; len = 12; carries = false })
    ∷ Frame 1 (96 ∷ 218 ∷ 10 ∷ []) ∷ Silent 2 ∷ Unanswered 3 (Taken 5) ∷ []

-- two gateways that are not in order
pub replay_of_two_gateways :
    replay_lines (map (entry_at 0) worked_lines) (record { id = 10; rules = record { cap = 4096; gap = 0 }; state = one_sent }
    ∷ record { id = 2; rules = record { cap = 1; gap = 0 }; state = none_sent } ∷ [])
    ≡ codes "queued 26011bda 2" ∷ codes "opened 1" ∷ codes "opened 2 repeat" ∷ codes "joined 1 2" ∷ codes "no hear Short"
    ∷ codes "send 1 2 RX1 10000000 868100000 5 12" ∷ codes "frame 1 60da0a" ∷ codes "silent 2" ∷ codes "unanswered 3 Taken"
    ∷ codes "gateway 2 booked 0 cancelled 0 retired 0 kept 0" ∷ codes "gateway 10 booked 41216 cancelled 0 retired 0 kept 1"
    ∷ codes "busiest 10 M 10000000 41216" ∷ codes "answered 1 unanswered 1 silent 1" ∷ []
unfolding none_sent one_sent worked_lines airtime_of band_of net kept begun overlap full_hour busiest_of digits encode_with
replay_of_two_gateways = refl

-- two transmissions, of which the second is in RX2's sub-band
pub two_sent : State
two_sent = book_step (record { cap = 4096; gap = 0 }) one_sent (record
    { number = 1; start = 11000000; freq_hz = 869525000; rate = Dr0; len = 12 })

pub each_form : List (Line ℕ)
each_form =
    Queued 10 2 ∷ NotQueued QueueFull ∷ Heard (Opened 1 false) ∷ Heard (Opened 2 true) ∷ Heard (Joined 1 2)
    ∷ NotHeard (hears.Frame OptionsCut) ∷ NotHeard hears.UnknownGateway ∷ Silent 2 ∷ NotTaken 3 CounterSpent
    ∷ Send 1 (record { gateway = 2; window = Rx1; start = 10000000; freq_hz = 868100000; rate = Dr5; len = 12; carries = false })
    ∷ Frame 1 (96 ∷ 218 ∷ 27 ∷ 1 ∷ 255 ∷ [])
    ∷ Send 4 (record { gateway = 1; window = Rx2; start = 11000000; freq_hz = 869525000; rate = Dr0; len = 12; carries = false })
    ∷ Frame 4 []
    ∷ Unanswered 5 (Taken 10000000) ∷ Unanswered 6 (DutyFull K 0 2973696) ∷ Cancelled 1 41216 ∷ NotCancelled 7 Begun
    ∷ Floor 1 18446744073709551615 ∷ NotTicked ∷ Stray 8 ∷ Bad 12 ∷ []

-- a line of each form
pub replay_of_each_form :
    replay_lines (map (entry_at 0) each_form) (record { id = 2; rules = record { cap = 4096; gap = 0 }; state = two_sent }
    ∷ record { id = 1; rules = record { cap = 4096; gap = 0 }; state = none_sent } ∷ [])
    ≡ codes "queued 0000000a 2" ∷ codes "no queue QueueFull" ∷ codes "opened 1" ∷ codes "opened 2 repeat" ∷ codes "joined 1 2"
    ∷ codes "no hear OptionsCut" ∷ codes "no hear UnknownGateway" ∷ codes "silent 2" ∷ codes "no 3 CounterSpent"
    ∷ codes "send 1 2 RX1 10000000 868100000 5 12" ∷ codes "frame 1 60da1b01ff" ∷ codes "send 4 1 RX2 11000000 869525000 0 12"
    ∷ codes "frame 4 -"
    ∷ codes "unanswered 5 Taken" ∷ codes "unanswered 6 DutyFull" ∷ codes "cancelled 1 41216" ∷ codes "no cancel 7 Begun"
    ∷ codes "floor 1 18446744073709551615" ∷ codes "no tick UnknownGateway" ∷ codes "no 8 Stray" ∷ codes "bad 12 Syntax"
    ∷ codes "gateway 1 booked 0 cancelled 0 retired 0 kept 0" ∷ codes "gateway 2 booked 1032448 cancelled 0 retired 0 kept 2"
    ∷ codes "busiest 2 M 10000000 41216" ∷ codes "busiest 2 P 11000000 991232" ∷ codes "answered 2 unanswered 2 silent 1" ∷ []
unfolding none_sent one_sent two_sent each_form airtime_of band_of net kept begun overlap full_hour busiest_of digits encode_with
replay_of_each_form = refl

-- one of them begins with `no`
pub each_form_refuses : list_any (λ e. is_refusal (line_text e.line)) (map (entry_at 0) each_form) ≡ true
unfolding each_form digits encode_with
each_form_refuses = refl
