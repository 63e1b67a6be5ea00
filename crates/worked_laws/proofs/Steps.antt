-- A worked run: three uplinks, one after another, two of the first device and one of the second. Both gateways hear the first
-- two. The first is answered on the first gateway; there the answer to the second, in the same window, is refused, and it goes
-- to the second gateway. This one alone hears the third; there RX1 is refused, since it sends to the first device then, and RX2
-- is taken. From there on, two of the three are cancelled. Each step computes.
use Rattle.server_core.proofs.Words
use Words.{suc, zero, ◌-◌, true, false, Bool, List, [], ◌∷◌, ◌++◌, map, ℕ, ◌≡◌, Some, None, Ok, refl, Gathering, Job, Answer}
use Words.{Waiting, Open, Booked, Settled, Gateway, World, Hear, Pass, Take, Settle, Try, Cancel, opening, step, decide, due_of}
use Words.{take_answer, HeardCopy, Step, Reply, Run, run, run_from, ⊤}
use Rattle.worked_laws.proofs.Inputs.{settings, limits, uplink, bytes_same, has_its_mic, copy_at, device_at, gateway_at}
use Rattle.worked_laws.proofs.Inputs.{unused, kept_copy, world, job, both_copies, sent_at, ended_at, with_booked, gathering}
use Rattle.worked_laws.proofs.Inputs.{first_alone, asked_by, first_device, second_device, rx1, rx2, sent_in_rx2}
use Rattle.radio_airtime.specs.TimeOnAir.{airtime_of}
use Rattle.radio_bands.specs.Band.{band_of}
use Rattle.resv_list.specs.Reservations.{begun}
use Rattle.gateway_book.specs.{Answer.overlap, Kept.kept, Duty.full_hour, declared.refusal.Refusal.TheVariants.Taken}
use Rattle.uplink_gather.specs.Gatherings.{newest}
use Rattle.rx_windows.specs.declared.candidate.Window.TheVariants.{Rx1, Rx2}
use Rattle.rx_windows.specs.{Rank.ranked, Windows.candidates_of}
use Rattle.server_desk.specs.declared.heard.DeskHeard.TheVariants.{Opened, Joined}
use Rattle.server_core.specs.Steps as replies

-- The worlds on the way, each after so many steps.

abbrev pub first : List ℕ
first = uplink 0xda 0

abbrev pub second : List ℕ
second = uplink 0xda 1

abbrev pub third : List ℕ
third = uplink 0xdb 0

-- the first uplink: its gathering, and its answer
abbrev on_first : ℕ → List HeardCopy → Bool → Answer → List Gateway → World
on_first given copies closed answer gateways = world (first_alone (Some 0) given)
    (gathering first 1000 copies closed ∷ []) (asked_by 0 ∷ []) (answer ∷ []) gateways

abbrev none_booked : List Gateway
none_booked = gateway_at 1 unused ∷ gateway_at 2 unused ∷ []

abbrev w1 : World
w1 = on_first 0 (kept_copy 1 5000000 55 ∷ []) false Waiting none_booked

abbrev w2 : World
w2 = on_first 0 both_copies false Waiting none_booked

abbrev pub w3 : World
w3 = on_first 0 both_copies true Waiting none_booked

abbrev pub job_1 : Job
job_1 = job first_device 1 0 both_copies

abbrev pub w4 : World
w4 = on_first 1 both_copies true (Open 0 job_1) none_booked

abbrev pub gateway_1 : Gateway
gateway_1 = with_booked job_1 (rx1 1 6000000) (gateway_at 1 unused)

abbrev one_booked : List Gateway
one_booked = gateway_1 ∷ gateway_at 2 unused ∷ []

abbrev pub w5 : World
w5 = on_first 1 both_copies true (Booked (sent_at 1 6000000) Rx1 false) one_booked

abbrev first_settled : Answer
first_settled = Settled (Some (sent_at 1 6000000))

abbrev pub w6 : World
w6 = on_first 1 both_copies true first_settled one_booked

-- the second uplink
abbrev both_done : List HeardCopy → Bool → List Gathering
both_done copies closed = gathering first 1000 both_copies true ∷ gathering second 300000 copies closed ∷ []

abbrev on_second : ℕ → List HeardCopy → Bool → Answer → List Gateway → World
on_second given copies closed answer gateways = world (first_alone (Some 1) given) (both_done copies closed)
    (asked_by 0 ∷ asked_by 0 ∷ []) (first_settled ∷ answer ∷ []) gateways

abbrev pub w7 : World
w7 = on_second 1 (kept_copy 1 5000000 55 ∷ []) false Waiting one_booked

abbrev w8 : World
w8 = on_second 1 both_copies false Waiting one_booked

abbrev w9 : World
w9 = on_second 1 both_copies true Waiting one_booked

abbrev pub job_2 : Job
job_2 = job first_device 2 1 both_copies

abbrev w10 : World
w10 = on_second 2 both_copies true (Open 0 job_2) one_booked

abbrev pub w11 : World
w11 = on_second 2 both_copies true (Open 1 job_2) one_booked

abbrev gateway_2 : Gateway
gateway_2 = with_booked job_2 (rx1 2 10000000) (gateway_at 2 unused)

abbrev two_booked : List Gateway
two_booked = gateway_1 ∷ gateway_2 ∷ []

abbrev w12 : World
w12 = on_second 2 both_copies true (Booked (sent_at 2 10000000) Rx1 false) two_booked

abbrev second_settled : Answer
second_settled = Settled (Some (sent_at 2 10000000))

abbrev w13 : World
w13 = on_second 2 both_copies true second_settled two_booked

-- the third uplink, of the second device
abbrev pub third_copy : List HeardCopy
third_copy = kept_copy 2 8000000 50 ∷ []

abbrev on_third : ℕ → Bool → Answer → List Gateway → World
on_third given closed answer gateways = world
    (device_at first_device (Some 1) 2 ∷ device_at second_device (Some 0) given ∷ [])
    (both_done both_copies true ++ gathering third 600000 third_copy closed ∷ []) (asked_by 0 ∷ asked_by 0 ∷ asked_by 1 ∷ [])
    (first_settled ∷ second_settled ∷ answer ∷ []) gateways

abbrev pub w14 : World
w14 = on_third 0 false Waiting two_booked

abbrev pub w15 : World
w15 = on_third 0 true Waiting two_booked

abbrev pub job_3 : Job
job_3 = job second_device 3 0 third_copy

abbrev pub w16 : World
w16 = on_third 1 true (Open 0 job_3) two_booked

-- in RX1 the second gateway sends to the first device
abbrev pub w17 : World
w17 = on_third 1 true (Open 1 job_3) two_booked

abbrev pub gateway_3 : Gateway
gateway_3 = with_booked job_3 rx2 gateway_2

abbrev pub w18 : World
w18 = on_third 1 true (Booked sent_in_rx2 Rx2 false) (gateway_1 ∷ gateway_3 ∷ [])

-- The steps, the worlds that they make, and what is answered.

pub record Row : Type 0 where
  pub does : Step
  pub makes : World
  pub says : Reply

abbrev pub row : Step → World → Reply → Row
row does makes says = record { does = does; makes = makes; says = says }

abbrev rows : List Row
rows =
    row (Hear first (copy_at 1 5000000 55) 1000) w1 (replies.Heard (Ok (Opened 1 false)))
    ∷ row (Hear first (copy_at 2 9000000 50) 1100) w2 (replies.Heard (Ok (Joined 1 2)))
    ∷ row (Pass 201001) w3 (replies.Passed (Some 1))
    ∷ row (Take 1) w4 (replies.Given (Ok job_1))
    ∷ row (Try 1) w5 (replies.Tried (Some None))
    ∷ row (Settle 1) w6 (replies.Ended (Some (ended_at 1 6000000)))
    ∷ row (Hear second (copy_at 1 5000000 55) 300000) w7 (replies.Heard (Ok (Opened 2 false)))
    ∷ row (Hear second (copy_at 2 9000000 50) 300100) w8 (replies.Heard (Ok (Joined 2 2)))
    ∷ row (Pass 500001) w9 (replies.Passed (Some 2))
    ∷ row (Take 2) w10 (replies.Given (Ok job_2))
    ∷ row (Try 2) w11 (replies.Tried (Some (Some (Taken 6000000))))
    ∷ row (Try 2) w12 (replies.Tried (Some None))
    ∷ row (Settle 2) w13 (replies.Ended (Some (ended_at 2 10000000)))
    ∷ row (Hear third (copy_at 2 8000000 50) 600000) w14 (replies.Heard (Ok (Opened 3 false)))
    ∷ row (Pass 800001) w15 (replies.Passed (Some 3))
    ∷ row (Take 3) w16 (replies.Given (Ok job_3))
    ∷ row (Try 3) w17 (replies.Tried (Some (Some (Taken 10000000))))
    ∷ row (Try 3) w18 (replies.Tried (Some None))
    ∷ []

-- the rows are steps one after another, from this world
abbrev pub Go : World → List Row → Type 0
Go w [] = ⊤
Go w (r ∷ rs) = (step w r.does ≡ (r.makes, r.says)) × Go r.makes rs

-- one step, and the others
pub also : {P Q : Type 0} → P → Q → P × Q
also p q = (p, q)

each_step : Go (opening settings limits) rows
unfolding step decide newest band_of due_of take_answer ranked candidates_of airtime_of overlap full_hour kept begun
each_step =
    also (rw (has_its_mic 0xda 0) refl) (also (rw (bytes_same first, bytes_same first) refl) (also refl (also refl (also refl
    (also refl (also (rw (has_its_mic 0xda 1) refl) (also (rw (bytes_same second, bytes_same second) refl) (also refl (also refl
    (also refl (also refl (also refl (also (rw (has_its_mic 0xdb 0) refl) (also refl (also refl (also refl (also refl
    tt)))))))))))))))))

-- the step with this number, counted from 0, is made
abbrev Makes : ℕ → World → List Row → Type 0
Makes k w [] = ⊤
Makes zero w (r ∷ rs) = step w r.does ≡ (r.makes, r.says)
Makes (suc k) w (r ∷ rs) = Makes k r.makes rs

made_at : (k : ℕ) (w : World) (rs : List Row) → Go w rs → Makes k w rs
made_at k w [] g = tt
made_at zero w (r ∷ rs) g = g.0
made_at (suc k) w (r ∷ rs) g = made_at k r.makes rs g.1

-- counted from 1
pub made : (n : ℕ) → Makes (n - 1) (opening settings limits) rows
made n = made_at (n - 1) (opening settings limits) rows each_step

-- The run as a whole.

abbrev pub last : World → List Row → World
last w [] = w
last w (r ∷ rs) = last r.makes rs

pub ran : (w : World) (rs : List Row) → Go w rs
    → run_from w (map (λ r. r.does) rs) ≡ record { world = last w rs; replies = map (λ r. r.says) rs }
unfolding run_from
ran w [] g = refl
ran w (r ∷ rs) g = rw (g.0, ran r.makes rs g.1) refl

abbrev pub steps : List Step
steps = map (λ r. r.does) rows

abbrev pub after : Run
after = record { world = w18; replies = map (λ r. r.says) rows }

pub whole_run : run settings limits steps ≡ after
whole_run = ran (opening settings limits) rows each_step

-- Two of the three are cancelled: one whose answer is settled, and one whose answer is not.

abbrev gateway_4 : Gateway
gateway_4 = gateway_at 1 (record { floor = 0; list = []; booked = 41216; cancelled = 41216 })

abbrev pub w19 : World
w19 = record w18 { gateways = gateway_4 ∷ gateway_3 ∷ [] }

pub cancelled_19 : step w18 (Cancel 1) ≡ (w19, replies.Cancelled (Ok 41216))
unfolding step airtime_of band_of overlap full_hour kept begun
cancelled_19 = refl

abbrev gateway_5 : Gateway
gateway_5 = record gateway_2 { state = record gateway_2.state { booked = 185600; cancelled = 144384 } }

cancelled_20 : step w19 (Cancel 3) ≡ (record w19 { gateways = gateway_4 ∷ gateway_5 ∷ [] }, replies.Cancelled (Ok 144384))
unfolding step airtime_of band_of overlap full_hour kept begun
cancelled_20 = refl
