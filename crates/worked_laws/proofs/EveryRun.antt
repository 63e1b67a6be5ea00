-- The headline and the promise once more, clause by clause, of every run: who loosens a clause has to loosen it here too.
use Rattle.std.proofs.Common.{ℕ, List, ◌≡◌, ◌≢◌, ◌+◌, ◌-◌, ◌*◌, ◌≤◌, length, map, slice_get, Contains, Some, refl, subst, sym}
use Rattle.std.specs.Prelude.{All, AllPairs, ◌⊎◌, ◌^◌}
use Rattle.radio_airtime.specs.DataRate.{number_of, rate_numbered}
use Rattle.radio_airtime.specs.TimeOnAir.{airtime_of}
use Rattle.radio_airtime.specs.declared.data_rate.DataRate.TheVariants.{Dr0}
use Rattle.radio_bands.specs.Band.{limit_of}
use Rattle.radio_bands.specs.declared.band.Band.{Band}
use Rattle.resv_list.specs.declared.reservation.Reservation.{Reservation}
use Rattle.resv_list.specs.OnAir.{on_air}
use Rattle.resv_list.specs.Reservations.{begun, net}
use Rattle.gateway_book.specs.Answer.{IsAsked}
use Rattle.gateway_book.specs.Book.{Book}
use Rattle.gateway_book.specs.Lawful.{IsLawful}
use Rattle.lora_frame.specs.Reading.{addr_of}
use Rattle.uplink_gather.specs.declared.heard.HeardCopy.{HeardCopy}
use Rattle.uplink_gather.specs.declared.limits.Limits.{Limits}
use Rattle.uplink_gather.specs.Gatherings.{Gathering, numbered}
use Rattle.rx_windows.specs.Laws.{IsWindowOf}
use Rattle.rx_windows.specs.declared.plan.Plan.{Plan}
use Rattle.answer_ticket.specs.Ended.{longest_us}
use Rattle.answer_ticket.specs.Job.{Job, ask_for, candidates}
use Rattle.server_desk.specs.Airtime.{settled_limit}
use Rattle.server_desk.specs.declared.setting.DeviceSetting.{DeviceSetting}
use Rattle.server_desk.specs.Settings.{AreSettings, SettingLists}
use Rattle.server_desk.specs.Taking.{plan_for}
use Rattle.server_desk.specs.World.{Gateway}
use Rattle.server_core.specs.Headline.{EveryRunKeepsHeadline, IsOfItsUplink, TakesRx1, TakesRx2}
use Rattle.server_core.specs.Promise.{EveryInterleavingIsSafe, IsOwnWindow, jobs_given, setting_of}
use Rattle.server_core.specs.Opened.{AreBooksFor, IsWhole, resuming}
use Rattle.server_core.specs.Resumed.{EveryResumedRunKeepsHeadline, HasNoNumbers, KeepsResumed}
use Rattle.server_core.specs.Steps.{Run, Step, run, run_from}

-- A window: RX1 begins RECEIVE_DELAY1 after the uplink's end, on its channel, at its rate less RX1DROffset; RX2 a second later.

module _ (device : DeviceSetting) (copy : HeardCopy) (a : Reservation) where
  rx1 : TakesRx1 device copy a → (a.start ≡ copy.at + device.delay * 1000000) × (a.freq_hz ≡ copy.freq_hz)
      × (a.rate ≡ rate_numbered (number_of copy.rate - device.offset))
  rx1 takes = (takes.start, takes.freq_hz, takes.rate)

  rx2 : TakesRx2 device copy a → (a.start ≡ copy.at + (device.delay + 1) * 1000000) × (a.freq_hz ≡ device.rx2_freq)
      × (a.rate ≡ device.rx2_rate)
  rx2 takes = (takes.start, takes.freq_hz, takes.rate)

-- the greatest time on air of an answer is that of 64 bytes at DR0
longest : airtime_of Dr0 64 ≡ longest_us
unfolding airtime_of
longest = refl

-- and the limit of all settled answers is 2^32 times that, since there are fewer than 2^32 uplinks
all_settled : settled_limit ≡ 2793472 * 2 ^ 32
all_settled = refl

module _ (settings : SettingLists) (accepted : AreSettings settings.gateways settings.devices) (limits : Limits)
    (steps : List Step) where
  abbrev r : Run
  r = run settings limits steps

  abbrev has : ℕ → ℕ → Gateway → Reservation → Type 0
  has i k g a = (slice_get r.world.gateways i ≡ Some g) × (slice_get g.state.list k ≡ Some a)

  module _ (law : EveryRunKeepsHeadline) where
    disjoint : (i k l : ℕ) (g : Gateway) (a b : Reservation) → has i k g a → slice_get g.state.list l ≡ Some b → k ≢ l
        → (a.start + airtime_of a.rate a.len ≤ b.start) ⊎ (b.start + airtime_of b.rate b.len ≤ a.start)
    disjoint i k l g a b h e = (law settings accepted limits steps).disjoint i k l g a b h.0 h.1 e

    hour : (i : ℕ) (g : Gateway) → slice_get r.world.gateways i ≡ Some g → (band : Band) (t : ℕ)
        → begun band t (t + 3600000000) g.state.list ≤ limit_of band
    hour = (law settings accepted limits steps).hour

    hour_on_air : (i : ℕ) (g : Gateway) → slice_get r.world.gateways i ≡ Some g → (band : Band) (t : ℕ)
        → on_air band t (t + 3600000000) g.state.list ≤ limit_of band
    hour_on_air = (law settings accepted limits steps).on_air

    once : (i j k l : ℕ) (g h : Gateway) (a b : Reservation) → has i k g a → has j l h b → a.number ≡ b.number
        → (i ≡ j) × (k ≡ l)
    once i j k l g h a b p q = (law settings accepted limits steps).once i j k l g h a b p.0 p.1 q.0 q.1

    own : (i k : ℕ) (g : Gateway) (a : Reservation) → has i k g a
        → (uplink : Gathering) × (copy : HeardCopy) × (device : DeviceSetting)
        × (numbered a.number r.world.reg.gathered.list ≡ Some uplink) × Contains uplink.copies copy × (copy.gateway ≡ g.id)
        × Contains settings.devices device × (device.addr ≡ addr_of uplink.bytes)
        × (TakesRx1 device copy a ⊎ TakesRx2 device copy a)
    own i k g a h =
        let o = (law settings accepted limits steps).own i k g a h.0 h.1 in
        (o.uplink, o.copy, o.device, o.its_own, o.copied, o.heard, o.set, o.addr, o.window)

  module _ (law : EveryInterleavingIsSafe) where
    lawful_with_its_gap : (i : ℕ) (g : Gateway) → slice_get r.world.gateways i ≡ Some g → IsLawful g.rules.gap g.state.list
    lawful_with_its_gap = (law settings accepted limits steps).lawful

    counted : (i : ℕ) (g : Gateway) → slice_get r.world.gateways i ≡ Some g
        → g.state.booked ≡ g.state.cancelled + net g.state.list
    counted = (law settings accepted limits steps).counted

    held_once : (i j k l : ℕ) (g h : Gateway) (a b : Reservation) → has i k g a → has j l h b → a.number ≡ b.number
        → (i ≡ j) × (k ≡ l)
    held_once i j k l g h a b p q =
        (law settings accepted limits steps).once i j k l g h a b (record { gateway = p.0; member = p.1 })
        (record { gateway = q.0; member = q.1 })

    in_its_own_window : (i k : ℕ) (g : Gateway) (a : Reservation) → has i k g a → IsOwnWindow r g a
    in_its_own_window i k g a h = (law settings accepted limits steps).own i k g a (record { gateway = h.0; member = h.1 })

    of_the_settings : (map setting_of r.world.gateways ≡ settings.gateways)
        × (map (λ d. d.setting) r.world.reg.devices ≡ settings.devices)
    of_the_settings = ((law settings accepted limits steps).gateways, (law settings accepted limits steps).devices)

    known_once : (length r.world.reg.asked ≡ length r.world.reg.gathered.list)
        × (length r.world.answers ≡ length r.world.reg.gathered.list)
    known_once = ((law settings accepted limits steps).told, (law settings accepted limits steps).answered)

    given_once : AllPairs (λ a b. a.number ≢ b.number) (jobs_given r.replies)
    given_once = (law settings accepted limits steps).tickets

    counters_differ : AllPairs (λ a b. a.addr ≡ b.addr → a.counter ≢ b.counter) (jobs_given r.replies)
    counters_differ = (law settings accepted limits steps).counters

  -- the same of a server that is opened on books of before
  module _ (law : EveryResumedRunKeepsHeadline) (books : List Book) (for : AreBooksFor settings.gateways books)
      (whole : All IsWhole books) (unnumbered : All HasNoNumbers books) where
    abbrev q : Run
    q = run_from (resuming settings limits books) steps

    abbrev keeps : KeepsResumed settings books q
    keeps = law settings accepted limits books for whole unnumbered steps

    abbrev holds : ℕ → ℕ → Gateway → Reservation → Type 0
    holds i k g a = (slice_get q.world.gateways i ≡ Some g) × (slice_get g.state.list k ≡ Some a)

    resumed_disjoint : (i k l : ℕ) (g : Gateway) (a b : Reservation) → holds i k g a → slice_get g.state.list l ≡ Some b → k ≢ l
        → (a.start + airtime_of a.rate a.len ≤ b.start) ⊎ (b.start + airtime_of b.rate b.len ≤ a.start)
    resumed_disjoint i k l g a b h e = keeps.disjoint i k l g a b h.0 h.1 e

    resumed_hour : (i : ℕ) (g : Gateway) → slice_get q.world.gateways i ≡ Some g → (band : Band) (t : ℕ)
        → begun band t (t + 3600000000) g.state.list ≤ limit_of band
    resumed_hour = keeps.hour

    resumed_on_air : (i : ℕ) (g : Gateway) → slice_get q.world.gateways i ≡ Some g → (band : Band) (t : ℕ)
        → on_air band t (t + 3600000000) g.state.list ≤ limit_of band
    resumed_on_air = keeps.on_air

    resumed_old : (i k : ℕ) (g : Gateway) (a : Reservation) → holds i k g a → a.number ≡ 0
        → (book : Book) × (slice_get books i ≡ Some book) × Contains book.list a
    resumed_old i k g a h zero =
        let was = keeps.old i k g a h.0 h.1 zero in
        (was.book, was.there, was.member)

    resumed_once : (i j k l : ℕ) (g h : Gateway) (a b : Reservation) → holds i k g a → holds j l h b → a.number ≢ 0
        → a.number ≡ b.number → (i ≡ j) × (k ≡ l)
    resumed_once i j k l g h a b x y = keeps.once i j k l g h a b x.0 x.1 y.0 y.1

    resumed_own : (i k : ℕ) (g : Gateway) (a : Reservation) → holds i k g a → a.number ≢ 0
        → IsOfItsUplink settings q.world.reg.gathered.list g a
    resumed_own i k g a h = keeps.own i k g a h.0 h.1

    resumed_tickets : AllPairs (λ a b. a.number ≢ b.number) (jobs_given q.replies)
        × AllPairs (λ a b. a.addr ≡ b.addr → a.counter ≢ b.counter) (jobs_given q.replies)
    resumed_tickets = (keeps.tickets, keeps.counters)

    resumed_counters : (job : Job) (device : DeviceSetting) → Contains (jobs_given q.replies) job
        → Contains settings.devices device → device.addr ≡ job.addr → device.down ≤ job.counter
    resumed_counters = keeps.next

  -- what stands in its own window is a candidate of a job for which a ticket was given
  module _ (g : Gateway) (a : Reservation) (own_window : IsOwnWindow r g a) where
    of_its_uplink : (numbered a.number r.world.reg.gathered.list ≡ Some own_window.gathering)
        × (own_window.device.setting.addr ≡ addr_of own_window.gathering.bytes)
        × Contains r.world.reg.devices own_window.device
    of_its_uplink = (own_window.gathered, own_window.its_own, own_window.served)

    of_its_job : Contains (jobs_given r.replies) own_window.job × (own_window.job.addr ≡ addr_of own_window.gathering.bytes)
        × (own_window.job.plan ≡ plan_for own_window.device.setting own_window.job.body)
        × Contains (candidates own_window.job) own_window.candidate
    of_its_job = (own_window.given, own_window.addr, own_window.plan, own_window.tried)

    abbrev is_window_by : Plan → Type 0
    is_window_by plan = IsWindowOf plan own_window.gathering.copies own_window.candidate

    as_its_candidate : is_window_by own_window.job.plan
        × (own_window.candidate.gateway ≡ g.id) × IsAsked (ask_for own_window.job own_window.candidate) a
    as_its_candidate =
        (subst is_window_by (sym own_window.plan) own_window.window, own_window.here, own_window.asked)
