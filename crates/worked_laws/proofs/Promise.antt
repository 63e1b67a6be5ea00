-- What the promise says of the worked run: each of its records has a member there, and each of its clauses tells a fact.
use Rattle.server_core.proofs.Words
use Words.{ap, arith, inl, inr, subst, sym, ◌∙◌, All-head, Contains, Some, [], length, refl, slice_get, suc, true, ℕ, zero, ◌+◌}
use Words.{◌≡◌, ◌≢◌, ◌≤◌, ◌∷◌, Reservation, IsAsked, Gathering, HeardCopy, numbered, AllPairs-head, Candidate, Job, ask_for}
use Words.{candidates, Device, Gateway, AreSettings, same_Some, HaveOwnCounters, IsMember, IsOwnWindow, IsSafe, plan_for}
use Words.{setting_of, net, None, addr_of, Bool, false, ◌==◌, ⊤, List}
use Rattle.worked_laws.proofs.Inputs.{settings, limits, first_device, second_device, kept_copy, both_copies, gathering}
use Rattle.worked_laws.proofs.Inputs.{uplink, rx1, rx2, device_at}
use Rattle.worked_laws.proofs.Steps.{job_1, job_2, job_3, gateway_1, gateway_3, third_copy, w18, steps, after, whole_run}
use Rattle.server_core.proofs.Runs.{every_interleaving_is_safe}
use Rattle.server_desk.proofs.SettingsLemmas.{are_settings}
use Rattle.server_desk.specs.Settings.{settings_fault}
use Rattle.std.proofs.Common.{eq-eqb}
use Rattle.radio_airtime.specs.TimeOnAir.{airtime_of}
use Rattle.radio_bands.specs.{declared.band.Band.TheVariants.M, Band.band_of}
use Rattle.resv_list.specs.Reservations.{begun, spent}
use Rattle.gateway_book.specs.{Answer.overlap, Kept.kept, Duty.full_hour}

-- the settings are accepted
pub are : AreSettings settings.gateways settings.devices
unfolding settings_fault band_of
are = are_settings settings.gateways settings.devices refl

-- the gateway's member at place k is what this candidate asks for
pub record HoldsAt (g : Gateway) (k : ℕ) (job : Job) (c : Candidate) : Type 0 where
  pub member : Reservation
  pub there : slice_get g.state.list k ≡ Some member
  pub asked : IsAsked (ask_for job c) member

pub first_held : HoldsAt gateway_1 0 job_1 (rx1 1 6000000)
unfolding airtime_of band_of overlap full_hour kept begun
first_held = record { member = _; there = refl; asked = assumption }

unfoldable pub second_held : HoldsAt gateway_3 0 job_2 (rx1 2 10000000)
unfolding airtime_of band_of overlap full_hour kept begun
second_held = record { member = _; there = refl; asked = assumption }

pub third_held : HoldsAt gateway_3 1 job_3 rx2
unfolding airtime_of band_of overlap full_hour kept begun
third_held = record { member = _; there = refl; asked = assumption }

first_member : IsMember w18 0 0 gateway_1 first_held.member
first_member = record { gateway = refl; member = first_held.there }

second_member : IsMember w18 1 0 gateway_3 second_held.member
second_member = record { gateway = refl; member = second_held.there }

third_member : IsMember w18 1 1 gateway_3 third_held.member
third_member = record { gateway = refl; member = third_held.there }

-- of the members of a list one alone has its key
abbrev pub When : Bool → Type 0 → Type 0
When true P = P
When false P = ⊤

abbrev pub IsOnly : {X : Type 0} → (X → ℕ) → X → List X → Type 0
IsOnly key x [] = ⊤
IsOnly key x (y ∷ ys) = When (key y == key x) (y ≡ x) × IsOnly key x ys

pub the_only : {X : Type 0} (key : X → ℕ) (x : X) (xs : List X) (z : X) → IsOnly key x xs → Contains xs z → key z ≡ key x → z ≡ x
the_only key x [] z h c e = absurd (omega (arith, c.1))
the_only key x (y ∷ ys) z h (zero, l, e) same =
    let h = rw (eq-eqb (key y) (key x) (ap key e ∙ same)) at h in
    sym e ∙ h.0
the_only key x (y ∷ ys) z h (suc k, l, e) same = the_only key x ys z h.1 (k, omega (arith, l), e) same

module _ (safe : IsSafe settings after) where
  gateway_set : Some (setting_of gateway_3) ≡ slice_get settings.gateways 1
  gateway_set = ap (λ l. slice_get l 1) safe.gateways

  device_set : Some (device_at second_device (Some 0) 1).setting ≡ slice_get settings.devices 1
  device_set = ap (λ l. slice_get l 1) safe.devices

  all_told : length w18.reg.asked ≡ 3
  all_told = safe.told

  all_answered : length w18.answers ≡ 3
  all_answered = safe.answered

  hour_kept : spent gateway_1.state.list M 6000000 ≤ 36000000
  hour_kept = (safe.lawful 0 gateway_1 refl).duty M 6000000

  -- what the second gateway holds is disjoint: its second member starts after its first ended
  disjoint : second_held.member.start + airtime_of second_held.member.rate second_held.member.len ≤ third_held.member.start
  disjoint =
      let apart = (safe.lawful 1 gateway_3 refl).apart 0 1 second_held.member third_held.member second_held.there third_held.there
      (λ e. absurd (omega (arith, e))) in
      elim apart [ inl e ↦ omega (arith, e) | inr e ↦ absurd (omega (arith, e, second_held.asked.start, third_held.asked.start)) ]

  booked_is : 41216 ≡ 0 + net gateway_1.state.list
  unfolding airtime_of band_of overlap full_hour kept begun
  booked_is = safe.counted 0 gateway_1 refl

  -- the two gateways hold different numbers
  numbers_differ : first_held.member.number ≡ second_held.member.number → ⊥
  numbers_differ e =
      let same = (safe.once 0 1 0 0 gateway_1 gateway_3 first_held.member second_held.member first_member second_member e).0 in
      absurd (omega (arith, same))

  -- what the second gateway holds for the second uplink is RX1 of the copy that it heard, by the second ticket
  own : IsOwnWindow after gateway_3 second_held.member
  own = safe.own 1 0 gateway_3 second_held.member second_member

  number_is : second_held.member.number ≡ 2
  number_is = second_held.asked.number

  its_gathering : own.gathering ≡ gathering (uplink 0xda 1) 300000 both_copies true
  its_gathering = same_Some _ _ (sym own.gathered ∙ ap (λ n. numbered n w18.reg.gathered.list) number_is)

  its_job : own.job ≡ job_2
  its_job = the_only (λ (j : Job). j.number) job_2 (job_1 ∷ job_2 ∷ job_3 ∷ []) own.job (assumption) own.given
      (sym own.asked.number ∙ number_is)

  its_copy : own.window.copy ≡ kept_copy 2 9000000 50
  its_copy = the_only (λ (c : HeardCopy). c.gateway) (kept_copy 2 9000000 50) both_copies own.window.copy (assumption)
      (subst (λ (g : Gathering). Contains g.copies own.window.copy) its_gathering own.window.heard)
      (sym own.window.gateway ∙ own.here)

  its_start : own.candidate.start ≡ 10000000
  its_start = sym own.asked.start ∙ second_held.asked.start

  its_place : Contains (candidates job_2) own.candidate
  its_place = subst (λ (j : Job). Contains (candidates j) own.candidate) its_job own.tried

  its_address : own.device.setting.addr ≡ 0x26011bda
  its_address = own.its_own ∙ ap (λ (g : Gathering). addr_of g.bytes) its_gathering

  -- of the two devices it is the first
  its_device : own.device ≡ device_at first_device (Some 1) 2
  its_device = the_only (λ (d : Device). d.setting.addr) (device_at first_device (Some 1) 2) w18.reg.devices own.device
      (assumption) own.served its_address

  -- the two tickets answer different uplinks, and have different counters
  tickets_differ : job_1.number ≢ job_2.number
  tickets_differ =
      All-head (λ b. job_1.number ≢ b.number) job_2 (job_3 ∷ [])
      (AllPairs-head (λ a b. a.number ≢ b.number) job_1 (job_2 ∷ job_3 ∷ []) safe.tickets)

  counters_differ : job_1.counter ≢ job_2.counter
  counters_differ =
      All-head (HaveOwnCounters job_1) job_2 (job_3 ∷ [])
      (AllPairs-head HaveOwnCounters job_1 (job_2 ∷ job_3 ∷ []) safe.counters) refl

  -- what it holds for the third uplink is RX2 of the only copy, as the second device listens, by the third ticket
  third_own : IsOwnWindow after gateway_3 third_held.member
  third_own = safe.own 1 1 gateway_3 third_held.member third_member

  third_gathering : third_own.gathering ≡ gathering (uplink 0xdb 0) 600000 third_copy true
  third_gathering = same_Some _ _ (sym third_own.gathered ∙ ap (λ n. numbered n w18.reg.gathered.list) third_held.asked.number)

  third_job : third_own.job ≡ job_3
  third_job = the_only (λ (j : Job). j.number) job_3 (job_1 ∷ job_2 ∷ job_3 ∷ []) third_own.job (assumption) third_own.given
      (sym third_own.asked.number ∙ third_held.asked.number)

  third_is_heard : third_own.window.copy ≡ kept_copy 2 8000000 50
  third_is_heard = the_only (λ (c : HeardCopy). c.gateway) (kept_copy 2 8000000 50) third_copy third_own.window.copy (assumption)
      (subst (λ (g : Gathering). Contains g.copies third_own.window.copy) third_gathering third_own.window.heard)
      (sym third_own.window.gateway ∙ third_own.here)

  third_address : third_own.device.setting.addr ≡ 0x26011bdb
  third_address = third_own.its_own ∙ ap (λ (g : Gathering). addr_of g.bytes) third_gathering

  third_device : third_own.device ≡ device_at second_device (Some 0) 1
  third_device = the_only (λ (d : Device). d.setting.addr) (device_at second_device (Some 0) 1) w18.reg.devices third_own.device
      (assumption) third_own.served third_address

  third_start : third_own.candidate.start ≡ 11000000
  third_start = sym third_own.asked.start ∙ third_held.asked.start

  -- RX1 begins a second before
  third_window : third_own.candidate ≡ rx2
  third_window = elim (rw (third_device, third_job, third_is_heard) at third_own.window.window)
      [ inl e ↦ absurd (omega (arith, third_start, ap (λ (c : Candidate). c.start) e)) | inr e ↦ e ]

  third_takes : third_held.member.freq_hz ≡ 868500000
  third_takes = third_own.asked.freq_hz ∙ ap (λ (c : Candidate). c.freq_hz) third_window

  its_plan : third_own.job.plan ≡ plan_for second_device None
  its_plan =
      third_own.plan ∙ ap (λ (d : Device). plan_for d.setting third_own.job.body) third_device
      ∙ ap (λ (j : Job). plan_for second_device j.body) third_job

  its_job_address : third_own.job.addr ≡ 0x26011bdb
  its_job_address = third_own.addr ∙ ap (λ (g : Gathering). addr_of g.bytes) third_gathering

pub safe_run : IsSafe settings after
safe_run = subst (IsSafe settings) whole_run (every_interleaving_is_safe settings are limits steps)
