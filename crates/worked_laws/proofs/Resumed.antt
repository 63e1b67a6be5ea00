-- A worked run after a restart. Each gateway's book holds a reservation from before, with the number 0. Then two uplinks of one
-- device are heard, the first by both gateways, the second by the first gateway alone. On this gateway RX1 is refused to both,
-- as a reservation from before begins then. So the first is answered on the second gateway, and the second in RX2. Each clause
-- of the law tells a fact.
use Rattle.server_core.proofs.Words
use Words.{All-cons, All-head, All-nil, AllPairs-head, ap, arith, inl, inr, subst, sym, ◌∙◌, Contains, List, None, Ok, Some, []}
use Words.{Bool, length, map, refl, true, false, ℕ, ◌∷◌, ◌≡◌, ◌≢◌, ◌≤◌, ◌+◌, Reservation, Book, IsOrderly, orderly_nil}
use Words.{AreBooksFor, IsWhole, resuming, AreSettings}
use Words.{SettingLists, DeviceSetting, Gateway, World, HeardCopy, Candidate, Job, Answer, Waiting, Open, Booked, Settled}
use Words.{Sent, HaveOwnCounters, numbered, same_Some, Hear, Pass, Take, Settle, Try, Step, Run, step, decide, due_of}
use Words.{take_answer, ask_for, refusal_of, terms, net}
use Rattle.worked_laws.proofs.Inputs.{settings, limits, first_device, bytes_same, has_its_mic, copy_at, device_at}
use Rattle.worked_laws.proofs.Inputs.{gateway_at, unused, kept_copy, world, job, both_copies, sent_at, ended_at, with_booked}
use Rattle.worked_laws.proofs.Inputs.{gathering, asked_by, rx1}
use Rattle.worked_laws.proofs.Steps.{Row, Go, row, also, ran, first, second}
use Rattle.worked_laws.proofs.Promise.{HoldsAt}
use Rattle.server_core.proofs.GatewaySteps.{booking, booked_in_order}
use Rattle.server_core.proofs.Holds.{IsInOrder}
use Rattle.server_core.proofs.ResumedRuns.{every_resumed_run_keeps_headline}
use Rattle.server_desk.proofs.SettingsLemmas.{are_settings}
use Rattle.server_desk.specs.Settings.{settings_fault}
use Rattle.radio_airtime.specs.TimeOnAir.{airtime_of}
use Rattle.radio_airtime.specs.declared.data_rate.DataRate.TheVariants.{Dr0}
use Rattle.radio_bands.specs.Band.{band_of}
use Rattle.radio_bands.specs.declared.band.Band.TheVariants.{M}
use Rattle.resv_list.specs.OnAir.{on_air}
use Rattle.resv_list.specs.Reservations.{begun}
use Rattle.gateway_book.specs.{Answer.overlap, Book.IsBookList, Kept.kept, Duty.full_hour}
use Rattle.gateway_book.specs.declared.refusal.Refusal.TheVariants.{Taken}
use Rattle.uplink_gather.specs.Gatherings.{newest}
use Rattle.rx_windows.specs.declared.candidate.Window.TheVariants.{Rx1, Rx2}
use Rattle.rx_windows.specs.{Rank.ranked, Windows.candidates_of}
use Rattle.server_desk.specs.declared.heard.DeskHeard.TheVariants.{Opened, Joined}
use Rattle.server_core.specs.Headline.{IsOfItsUplink}
use Rattle.server_core.specs.Resumed.{HasNoNumbers, KeepsResumed, WasHeld}
use Rattle.server_core.specs.Steps as replies

-- What there was before.

-- seven downlink counters were given
abbrev device : DeviceSetting
device = record first_device { down = 7 }

abbrev later_settings : SettingLists
later_settings = record settings { devices = device ∷ [] }

are : AreSettings later_settings.gateways later_settings.devices
unfolding settings_fault band_of
are = are_settings later_settings.gateways later_settings.devices refl

-- a job of before, whose number is not known any more
abbrev old_job : Job
old_job = job device 0 6 []

abbrev old_1 : Gateway
old_1 = with_booked old_job (rx1 1 6000000) (gateway_at 1 unused)

abbrev old_2 : Gateway
old_2 = with_booked old_job (rx1 2 8000000) (gateway_at 2 unused)

-- its book, which has retired nothing
abbrev book_of : Gateway → Book
book_of g = record {
  id = g.id;
  rules = g.rules;
  floor = g.state.floor;
  list = g.state.list;
  booked = g.state.booked;
  cancelled = g.state.cancelled;
  retired = 0;
}

abbrev books : List Book
books = book_of old_1 ∷ book_of old_2 ∷ []

old_orderly : (id start : ℕ) → refusal_of (terms (gateway_at id unused)) [] (ask_for old_job (rx1 id start)) ≡ None
    → IsOrderly 0 (with_booked old_job (rx1 id start) (gateway_at id unused)).state.list
old_orderly id start e =
    let g = gateway_at id unused in
    let ask = ask_for old_job (rx1 id start) in
    let o : IsInOrder [] g = record { orderly = orderly_nil 0 (omega arith); balanced = λ i p there same. absurd (cc (there)) } in
    (booked_in_order g ask e [] o (booking g ask e)).orderly

-- a book may keep such a list
whole_by : (l : List Reservation) → IsOrderly 0 l → length l ≡ 1 → kept l 0 ≡ l → net l ≡ 41216
    → IsBookList (record { cap = 4096; gap = 0 }) 0 41216 l
whole_by l o one kept_whole net_is =
    record {
      opened = omega arith;
      capped = omega arith;
      counted = omega (arith, one);
      by_start = o.by_start;
      rested = o.rested;
      lawful = o.lawful;
      kept_whole = kept_whole;
      covered = omega (arith, net_is);
      bounded = omega arith;
    }

whole_1 : IsWhole (book_of old_1)
unfolding airtime_of band_of overlap full_hour kept begun net
whole_1 = whole_by old_1.state.list (old_orderly 1 6000000 refl) refl refl refl

whole_2 : IsWhole (book_of old_2)
unfolding airtime_of band_of overlap full_hour kept begun net
whole_2 = whole_by old_2.state.list (old_orderly 2 8000000 refl) refl refl refl

unnumbered_1 : HasNoNumbers (book_of old_1)
unfolding airtime_of band_of overlap full_hour kept begun
unnumbered_1 = All-cons (λ r. r.number ≡ 0) _ [] refl (All-nil (λ r. r.number ≡ 0))

unnumbered_2 : HasNoNumbers (book_of old_2)
unfolding airtime_of band_of overlap full_hour kept begun
unnumbered_2 = All-cons (λ r. r.number ≡ 0) _ [] refl (All-nil (λ r. r.number ≡ 0))

-- The worlds on the way, each after so many steps.

-- the first uplink
abbrev on_first : ℕ → List HeardCopy → Bool → Answer → Gateway → World
on_first given copies closed answer second_gateway = world (device_at device (Some 0) given ∷ [])
    (gathering first 1000 copies closed ∷ []) (asked_by 0 ∷ []) (answer ∷ []) (old_1 ∷ second_gateway ∷ [])

abbrev job_1 : Job
job_1 = job device 1 7 both_copies

abbrev new_2 : Gateway
new_2 = with_booked job_1 (rx1 2 10000000) old_2

abbrev first_settled : Answer
first_settled = Settled (Some (sent_at 2 10000000))

-- the second uplink
abbrev one_copy : List HeardCopy
one_copy = kept_copy 1 5000000 55 ∷ []

abbrev on_second : ℕ → Bool → Answer → Gateway → World
on_second given closed answer first_gateway = world (device_at device (Some 1) given ∷ [])
    (gathering first 1000 both_copies true ∷ gathering second 300000 one_copy closed ∷ []) (asked_by 0 ∷ asked_by 0 ∷ [])
    (first_settled ∷ answer ∷ []) (first_gateway ∷ new_2 ∷ [])

abbrev job_2 : Job
job_2 = job device 2 8 one_copy

abbrev rx2 : Candidate
rx2 = record {
  gateway = 1;
  window = Rx2;
  start = 7000000;
  freq_hz = 869525000;
  rate = Dr0;
  len = 12;
  carries = false;
}

abbrev sent_in_rx2 : Sent
sent_in_rx2 = record { gateway = 1; start = 7000000; airtime = 991232 }

abbrev new_1 : Gateway
new_1 = with_booked job_2 rx2 old_1

abbrev end : World
end = on_second 9 true (Booked sent_in_rx2 Rx2 false) new_1

abbrev rows : List Row
rows =
    row (Hear first (copy_at 1 5000000 55) 1000) (on_first 7 one_copy false Waiting old_2) (replies.Heard (Ok (Opened 1 false)))
    ∷ row (Hear first (copy_at 2 9000000 50) 1100) (on_first 7 both_copies false Waiting old_2) (replies.Heard (Ok (Joined 1 2)))
    ∷ row (Pass 201001) (on_first 7 both_copies true Waiting old_2) (replies.Passed (Some 1))
    ∷ row (Take 1) (on_first 8 both_copies true (Open 0 job_1) old_2) (replies.Given (Ok job_1))
    ∷ row (Try 1) (on_first 8 both_copies true (Open 1 job_1) old_2) (replies.Tried (Some (Some (Taken 6000000))))
    ∷ row (Try 1) (on_first 8 both_copies true (Booked (sent_at 2 10000000) Rx1 false) new_2) (replies.Tried (Some None))
    ∷ row (Settle 1) (on_first 8 both_copies true first_settled new_2) (replies.Ended (Some (ended_at 2 10000000)))
    ∷ row (Hear second (copy_at 1 5000000 55) 300000) (on_second 8 false Waiting old_1) (replies.Heard (Ok (Opened 2 false)))
    ∷ row (Pass 500001) (on_second 8 true Waiting old_1) (replies.Passed (Some 2))
    ∷ row (Take 2) (on_second 9 true (Open 0 job_2) old_1) (replies.Given (Ok job_2))
    ∷ row (Try 2) (on_second 9 true (Open 1 job_2) old_1) (replies.Tried (Some (Some (Taken 6000000))))
    ∷ row (Try 2) end (replies.Tried (Some None))
    ∷ []

each_step : Go (resuming later_settings limits books) rows
unfolding step decide newest band_of due_of take_answer ranked candidates_of airtime_of overlap full_hour kept begun
each_step =
    also (rw (has_its_mic 0xda 0) refl) (also (rw (bytes_same first, bytes_same first) refl) (also refl (also refl (also refl
    (also refl (also refl (also (rw (has_its_mic 0xda 1) refl) (also refl (also refl (also refl (also refl tt)))))))))))

abbrev steps : List Step
steps = map (λ r. r.does) rows

abbrev after : Run
after = record { world = end; replies = map (λ r. r.says) rows }

-- What the law tells of it.

old_at_1 : HoldsAt new_1 0 old_job (rx1 1 6000000)
unfolding airtime_of band_of overlap full_hour kept begun
old_at_1 = record { member = _; there = refl; asked = assumption }

new_at_1 : HoldsAt new_1 1 job_2 rx2
unfolding airtime_of band_of overlap full_hour kept begun
new_at_1 = record { member = _; there = refl; asked = assumption }

new_at_2 : HoldsAt new_2 1 job_1 (rx1 2 10000000)
unfolding airtime_of band_of overlap full_hour kept begun
new_at_2 = record { member = _; there = refl; asked = assumption }

has_number : new_at_1.member.number ≢ 0
has_number e = absurd (omega (arith, e, new_at_1.asked.number))

module _ (law : KeepsResumed later_settings books after) where
  -- the old reservation ends before the new one starts
  disjoint : old_at_1.member.start + airtime_of old_at_1.member.rate old_at_1.member.len ≤ new_at_1.member.start
  disjoint = elim (law.disjoint 0 0 1 new_1 old_at_1.member new_at_1.member refl old_at_1.there new_at_1.there
      (λ e. absurd (omega (arith, e))))
      [ inl e ↦ e | inr e ↦ absurd (omega (arith, e, old_at_1.asked.start, new_at_1.asked.start)) ]

  hour_kept : begun M 8000000 3608000000 new_2.state.list ≤ 36000000
  hour_kept = law.hour 1 new_2 refl M 8000000

  on_air_kept : on_air M 8000001 3608000001 new_2.state.list ≤ 36000000
  on_air_kept = law.on_air 1 new_2 refl M 8000001

  was_held : WasHeld books 0 old_at_1.member
  was_held = law.old 0 0 new_1 old_at_1.member refl old_at_1.there old_at_1.asked.number

  held_by_the_first : Contains old_1.state.list old_at_1.member
  held_by_the_first = subst (λ (b : Book). Contains b.list old_at_1.member) (same_Some _ _ (sym was_held.there)) was_held.member

  numbers_differ : new_at_1.member.number ≡ new_at_2.member.number → ⊥
  numbers_differ e =
      let same = (law.once 0 1 1 1 new_1 new_2 new_at_1.member new_at_2.member refl new_at_1.there refl new_at_2.there has_number
      e).0 in
      absurd (omega (arith, same))

  own : IsOfItsUplink later_settings end.reg.gathered.list new_2 new_at_2.member
  own = law.own 1 1 new_2 new_at_2.member refl new_at_2.there (λ e. absurd (omega (arith, e, new_at_2.asked.number)))

  its_uplink : own.uplink ≡ gathering first 1000 both_copies true
  its_uplink = same_Some _ _ (sym own.its_own ∙ ap (λ n. numbered n end.reg.gathered.list) new_at_2.asked.number)

  tickets_differ : job_1.number ≢ job_2.number
  tickets_differ = All-head (λ b. job_1.number ≢ b.number) job_2 []
      (AllPairs-head (λ a b. a.number ≢ b.number) job_1 (job_2 ∷ []) law.tickets)

  counters_differ : job_1.counter ≢ job_2.counter
  counters_differ =
      All-head (HaveOwnCounters job_1) job_2 [] (AllPairs-head HaveOwnCounters job_1 (job_2 ∷ []) law.counters) refl

  -- and the first of them goes on from the seven of before
  goes_on : 7 ≤ job_1.counter
  goes_on = law.next job_1 device (0, omega arith, refl) (0, omega arith, refl) refl

pub resumed_run : KeepsResumed later_settings books after
resumed_run =
    let for : AreBooksFor later_settings.gateways books =
    (record { id = refl; rules = refl }, (record { id = refl; rules = refl }, tt)) in
    let whole = All-cons IsWhole (book_of old_1) (book_of old_2 ∷ []) whole_1
    (All-cons IsWhole (book_of old_2) [] whole_2 (All-nil IsWhole)) in
    let unnumbered = All-cons HasNoNumbers (book_of old_1) (book_of old_2 ∷ []) unnumbered_1
    (All-cons HasNoNumbers (book_of old_2) [] unnumbered_2 (All-nil HasNoNumbers)) in
    subst (KeepsResumed later_settings books) (ran (resuming later_settings limits books) rows each_step)
    (every_resumed_run_keeps_headline later_settings are limits books for whole unnumbered steps)
