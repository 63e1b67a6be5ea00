-- No line of a run has a line feed inside.
use Rattle.std.proofs.Common.{◌≡◌, ℕ, true, false, List, [], ◌∷◌, ◌++◌, refl, codes, Option, Some, None}
use Rattle.std.specs.Prelude.{decimal}
use Rattle.std.specs.Int.{w32, to_be_bytes}
use Rattle.radio_airtime.specs.DataRate.{number_of}
use Rattle.radio_bands.specs.declared.band.Band.{Band}
use Rattle.radio_bands.specs.declared.band.Band.TheVariants.{K, L, M, N, P, Q}
use Rattle.rx_windows.specs.declared.candidate.Candidate.{Candidate}
use Rattle.rx_windows.specs.declared.candidate.Window.{Window}
use Rattle.rx_windows.specs.declared.candidate.Window.TheVariants.{Rx1, Rx2}
use Rattle.rx_windows.specs.Window.{window_text}
use Rattle.lora_frame.specs.declared.reading.FrameFault.{FrameFault}
use Rattle.lora_frame.specs.declared.reading.FrameFault.TheVariants as frames
use Rattle.gateway_book.specs.declared.refusal.Refusal.{Refusal}
use Rattle.gateway_book.specs.declared.refusal.Refusal.TheVariants as refusals
use Rattle.gateway_book.specs.declared.cancel.CancelFault.{CancelFault}
use Rattle.gateway_book.specs.declared.cancel.CancelFault.TheVariants.{Begun, NotHere}
use Rattle.gateway_book.specs.Busiest.{busiest_of}
use Rattle.resv_list.specs.declared.reservation.Reservation.{Reservation}
use Rattle.server_desk.specs.declared.faults.QueueFault.{QueueFault}
use Rattle.server_desk.specs.declared.faults.DeskFault.{DeskFault}
use Rattle.server_desk.specs.declared.faults.TakeFault.{TakeFault}
use Rattle.server_desk.specs.declared.faults.QueueFault.TheVariants as queues
use Rattle.server_desk.specs.declared.faults.DeskFault.TheVariants as hears
use Rattle.server_desk.specs.declared.faults.TakeFault.TheVariants as takes
use Rattle.server_desk.specs.declared.heard.DeskHeard.{DeskHeard}
use Rattle.server_desk.specs.declared.heard.DeskHeard.TheVariants.{Opened, Joined}
use Rattle.server_core.specs.declared.entry.Line.{Line}
use Rattle.server_core.specs.declared.entry.Line.TheVariants as lines
use Rattle.server_core.specs.World.{Gateway}
use Rattle.text_words.specs.Words.{spaced, fault_word, refusal_name, band_word}
use Rattle.text_words.specs.Busiest.{gateway_words, hour_lines, busiest_lines, all_busiest_lines}
use Rattle.run_lines.specs.EntryName.{queue_name, frame_name, hear_name, take_name}
use Rattle.run_lines.specs.EntryLine.{addr_digits, hex_digits, heard_words, candidate_words, line_words, line_text}
use Rattle.run_lines.specs.ReplayText.{counts_line, totals_at, gateway_lines, entry_lines, report_lines}
use Rattle.run_lines.specs.UplinkCounts.{counts_of, counts_text}
use Rattle.run_lines.specs.ReplayText.{replay_lines, by_id}
use Rattle.run_lines.specs.WholeLines.{LinesAreWhole}
use Rattle.run_lines.proofs.WholeLineLemmas.{is_whole, AreWhole, no_feeds, next, lines_append, lines_map, lines_of_each, joined}
use Rattle.run_lines.proofs.WholeLineLemmas.{whole_decimal, whole_hex}

-- no words
none : AreWhole []
none = record { test = refl }

-- a number and more words
counted : (n : ℕ) (words : List (List ℕ)) → AreWhole words → AreWhole (decimal n ∷ words)
counted n words h = next (decimal n) words (whole_decimal n) h

whole_queue : (fault : QueueFault) → is_whole (queue_name fault) ≡ true
whole_queue queues.UnknownDevice = refl
whole_queue queues.Port = refl
whole_queue queues.Long = refl
whole_queue queues.QueueFull = refl
whole_queue queues.NoMemory = refl

whole_frame : (fault : FrameFault) → is_whole (frame_name fault) ≡ true
whole_frame frames.Short = refl
whole_frame frames.Long = refl
whole_frame frames.NotData = refl
whole_frame frames.Major = refl
whole_frame frames.OptionsCut = refl

whole_hear : (fault : DeskFault) → is_whole (hear_name fault) ≡ true
whole_hear (hears.Frame fault) = whole_frame fault
whole_hear hears.UnknownGateway = refl
whole_hear hears.NoRate = refl
whole_hear hears.NoBand = refl
whole_hear hears.Moment = refl
whole_hear hears.SameGateway = refl
whole_hear hears.TooManyCopies = refl
whole_hear hears.Late = refl
whole_hear hears.UnknownDevice = refl
whole_hear hears.BadMic = refl
whole_hear hears.Crowded = refl
whole_hear hears.NoMemory = refl

whole_take : (fault : TakeFault) → is_whole (take_name fault) ≡ true
whole_take takes.NotReady = refl
whole_take takes.Taken = refl
whole_take takes.Silent = refl
whole_take takes.Engaged = refl
whole_take takes.CounterSpent = refl
whole_take takes.NoMemory = refl

whole_refusal : (refusal : Refusal) → is_whole (refusal_name refusal) ≡ true
whole_refusal refusals.NoBand = refl
whole_refusal refusals.TooLong = refl
whole_refusal refusals.PastEnd = refl
whole_refusal refusals.Passed = refl
whole_refusal (refusals.Taken start) = refl
whole_refusal (refusals.DutyFull band from spent) = refl
whole_refusal refusals.Full = refl
whole_refusal refusals.TotalsFull = refl
whole_refusal refusals.NoMemory = refl

whole_fault : (fault : CancelFault) → is_whole (fault_word fault) ≡ true
whole_fault Begun = refl
whole_fault NotHere = refl

whole_window : (window : Window) → is_whole (window_text window) ≡ true
whole_window Rx1 = refl
whole_window Rx2 = refl

whole_bytes : (bytes : List ℕ) → is_whole (hex_digits bytes) ≡ true
whole_bytes [] = refl
whole_bytes (b ∷ bytes) = whole_hex (b ∷ bytes)

whole_heard : (heard : DeskHeard) → AreWhole (heard_words heard)
whole_heard (Opened n false) = next (codes "opened") _ refl (counted n [] none)
whole_heard (Opened n true) = next (codes "opened") _ refl (counted n (codes "repeat" ∷ []) (record { test = refl }))
whole_heard (Joined n copies) = next (codes "joined") _ refl (counted n (decimal copies ∷ []) (counted copies [] none))

whole_candidate : (c : Candidate) → AreWhole (candidate_words c)
whole_candidate c =
    counted c.gateway _ (next (window_text c.window) _ (whole_window c.window) (counted c.start _ (counted c.freq_hz _
    (counted (number_of c.rate) _ (counted c.len [] none)))))

-- a name at the end
last : (word : List ℕ) → is_whole word ≡ true → AreWhole (word ∷ [])
last word h = next word [] h none

whole_words : {A : Type 0} (line : Line A) → AreWhole (line_words line)
whole_words (lines.Queued addr count) =
    next (codes "queued") _ refl (next (addr_digits addr) _ (whole_hex (to_be_bytes w32 addr)) (counted count [] none))
whole_words (lines.NotQueued fault) =
    next (codes "no") _ refl (next (codes "queue") _ refl (last (queue_name fault) (whole_queue fault)))
whole_words (lines.Heard heard) = whole_heard heard
whole_words (lines.NotHeard fault) =
    next (codes "no") _ refl (next (codes "hear") _ refl (last (hear_name fault) (whole_hear fault)))
whole_words (lines.Silent number) = next (codes "silent") _ refl (counted number [] none)
whole_words (lines.NotTaken number fault) =
    next (codes "no") _ refl (counted number _ (last (take_name fault) (whole_take fault)))
whole_words (lines.Send number candidate) = next (codes "send") _ refl (counted number _ (whole_candidate candidate))
whole_words (lines.Frame number bytes) =
    next (codes "frame") _ refl (counted number _ (last (hex_digits bytes) (whole_bytes bytes)))
whole_words (lines.Unanswered number refusal) =
    next (codes "unanswered") _ refl (counted number _ (last (refusal_name refusal) (whole_refusal refusal)))
whole_words (lines.Stray number) = next (codes "no") _ refl (counted number _ (last (codes "Stray") refl))
whole_words (lines.Cancelled number airtime) = next (codes "cancelled") _ refl (counted number _ (counted airtime [] none))
whole_words (lines.NotCancelled number fault) =
    next (codes "no") _ refl (next (codes "cancel") _ refl (counted number _ (last (fault_word fault) (whole_fault fault))))
whole_words (lines.Floor gateway floor) = next (codes "floor") _ refl (counted gateway _ (counted floor [] none))
whole_words lines.NotTicked = record { test = refl }
whole_words (lines.Bad line) = next (codes "bad") _ refl (counted line _ (last (codes "Syntax") refl))

whole_band : (band : Band) → is_whole (band_word band) ≡ true
whole_band K = refl
whole_band L = refl
whole_band M = refl
whole_band N = refl
whole_band P = refl
whole_band Q = refl

whole_gateway : (gateway : Option ℕ) → AreWhole (gateway_words gateway)
whole_gateway None = none
whole_gateway (Some id) = counted id [] none

whole_hour : (gateway : Option ℕ) (band : Band) (hour : Option (ℕ × ℕ)) → AreWhole (hour_lines gateway band hour)
whole_hour gateway band None = none
whole_hour gateway band (Some (from, sum)) =
    let words = gateway_words gateway ++ band_word band ∷ decimal from ∷ decimal sum ∷ [] in
    let rest : AreWhole words =
    lines_append (gateway_words gateway) _ (whole_gateway gateway)
    (next (band_word band) _ (whole_band band) (counted from _ (counted sum [] none))) in
    next (spaced (codes "busiest" ∷ words)) [] (joined (codes "busiest" ∷ words) (next (codes "busiest") words refl rest))
    none

whole_busiest : (gateway : Option ℕ) (l : List Reservation) → AreWhole (all_busiest_lines gateway l)
whole_busiest gateway l =
    let of = λ (band : Band). whole_hour gateway band (busiest_of l band) in
    lines_append (busiest_lines gateway l K) _ (of K) (lines_append (busiest_lines gateway l L) _ (of L)
    (lines_append (busiest_lines gateway l M) _ (of M) (lines_append (busiest_lines gateway l N) _ (of N)
    (lines_append (busiest_lines gateway l P) (busiest_lines gateway l Q) (of P) (of Q)))))

whole_counts : (g : Gateway) → is_whole (counts_line g.id (totals_at g.state)) ≡ true
whole_counts g =
    let t = totals_at g.state in
    let words : AreWhole (codes "gateway" ∷ decimal g.id ∷ codes "booked" ∷ decimal t.booked ∷ codes "cancelled"
    ∷ decimal t.cancelled ∷ codes "retired" ∷ decimal t.retired ∷ codes "kept" ∷ decimal t.kept ∷ []) =
    next (codes "gateway") _ refl (counted g.id _ (next (codes "booked") _ refl (counted t.booked _
    (next (codes "cancelled") _ refl (counted t.cancelled _ (next (codes "retired") _ refl (counted t.retired _
    (next (codes "kept") _ refl (counted t.kept [] none))))))))) in
    joined _ words

whole_at_gateway : (g : Gateway) → AreWhole (gateway_lines g)
whole_at_gateway g =
    next (counts_line g.id (totals_at g.state)) (all_busiest_lines (Some g.id) g.state.list) (whole_counts g)
    (whole_busiest (Some g.id) g.state.list)

-- the three counts, whatever they are
whole_uplink_counts : (answered unanswered silent : ℕ)
    → is_whole (spaced (codes "answered" ∷ decimal answered ∷ codes "unanswered" ∷ decimal unanswered ∷ codes "silent"
    ∷ decimal silent ∷ [])) ≡ true
whole_uplink_counts answered unanswered silent =
    let words : AreWhole (codes "answered" ∷ decimal answered ∷ codes "unanswered" ∷ decimal unanswered ∷ codes "silent"
    ∷ decimal silent ∷ []) =
    next (codes "answered") _ refl (counted answered _ (next (codes "unanswered") _ refl (counted unanswered _
    (next (codes "silent") _ refl (counted silent [] none))))) in
    joined _ words

pub lines_are_whole : LinesAreWhole
lines_are_whole entries gateways =
    let all : AreWhole (replay_lines entries gateways) =
    lines_append (entry_lines entries) (report_lines entries gateways)
    (lines_map (λ e. line_text e.line) (λ e. joined (line_words e.line) (whole_words e.line)) entries)
    (lines_append _ (counts_text (counts_of entries) ∷ []) (lines_of_each gateway_lines whole_at_gateway (by_id gateways))
    (next (counts_text (counts_of entries)) [] (whole_uplink_counts _ _ _) none)) in
    no_feeds (replay_lines entries gateways) all.test
