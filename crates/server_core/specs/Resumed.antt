use Rattle.std.specs.Prelude.{ℕ, ◌≡◌, ◌≢◌, ◌≤◌, ◌⊎◌, ◌+◌, All, AllPairs, Contains, slice_get, Some, List}
use Rattle.radio_airtime.specs.TimeOnAir.{airtime_of}
use Rattle.radio_bands.specs.declared.band.Band.{Band}
use Rattle.radio_bands.specs.Band.{limit_of}
use Rattle.resv_list.specs.declared.reservation.Reservation.{Reservation}
use Rattle.resv_list.specs.OnAir.{on_air}
use Rattle.resv_list.specs.Reservations.{begun}
use Rattle.gateway_book.specs.Book.{Book}
use Rattle.uplink_gather.specs.declared.limits.Limits.{Limits}
use Rattle.answer_ticket.specs.Job.{Job}
use Rattle.server_desk.specs.declared.setting.DeviceSetting.{DeviceSetting}
use Rattle.server_desk.specs.Settings.{SettingLists, AreSettings}
use Rattle.server_desk.specs.World.{Gateway}
use Rattle.server_core.specs.Steps.{Step, Run, run_from}
use Rattle.server_core.specs.Promise.{HaveOwnCounters, jobs_given}
use Rattle.server_core.specs.Headline.{IsOfItsUplink}
use Rattle.server_core.specs.Opened.{AreBooksFor, IsWhole, resuming}

-- The headline of a server that is opened on books which hold reservations already, as after a restart. They have the number 0,
-- which no uplink has. Moments are in microseconds.

-- each reservation of the book has the number 0
abbrev pub HasNoNumbers : Book → Type 0
HasNoNumbers b = All (λ r. r.number ≡ 0) b.list

-- the book at place i held this reservation
pub record WasHeld (books : List Book) (i : ℕ) (a : Reservation) : Type 0 where
  pub book : Book
  pub there : slice_get books i ≡ Some book
  pub member : Contains book.list a

-- g, h are the gateways at places i, j, and a, b reservations at places k, l of their lists
pub record KeepsResumed (settings : SettingLists) (books : List Book) (r : Run) : Type 0 where
  -- of one gateway's reservations, old ones and new ones, each ends, its airtime after its start, before another starts, or
  -- starts after that one ends
  pub disjoint : (i k l : ℕ) (g : Gateway) (a b : Reservation) → slice_get r.world.gateways i ≡ Some g
      → slice_get g.state.list k ≡ Some a → slice_get g.state.list l ≡ Some b → k ≢ l
      → (a.start + airtime_of a.rate a.len ≤ b.start) ⊎ (b.start + airtime_of b.rate b.len ≤ a.start)
  -- in each sub-band the airtime that begins within an hour, wherever it opens, keeps the limit
  pub hour : (i : ℕ) (g : Gateway) → slice_get r.world.gateways i ≡ Some g → (band : Band) (t : ℕ)
      → begun band t (t + 3600000000) g.state.list ≤ limit_of band
  -- and so does what is on air within an hour, as a measuring receiver finds it
  pub on_air : (i : ℕ) (g : Gateway) → slice_get r.world.gateways i ≡ Some g → (band : Band) (t : ℕ)
      → on_air band t (t + 3600000000) g.state.list ≤ limit_of band
  -- a reservation with the number 0 is an old one: its gateway's book held it at the opening
  pub old : (i k : ℕ) (g : Gateway) (a : Reservation) → slice_get r.world.gateways i ≡ Some g
      → slice_get g.state.list k ≡ Some a → a.number ≡ 0 → WasHeld books i a
  -- over all gateways any other number stands once at most
  pub once : (i j k l : ℕ) (g h : Gateway) (a b : Reservation) → slice_get r.world.gateways i ≡ Some g
      → slice_get g.state.list k ≡ Some a → slice_get r.world.gateways j ≡ Some h → slice_get h.state.list l ≡ Some b
      → a.number ≢ 0 → a.number ≡ b.number → (i ≡ j) × (k ≡ l)
  -- and the reservation stands for its own uplink
  pub own : (i k : ℕ) (g : Gateway) (a : Reservation) → slice_get r.world.gateways i ≡ Some g
      → slice_get g.state.list k ≡ Some a → a.number ≢ 0 → IsOfItsUplink settings r.world.reg.gathered.list g a
  -- a number's ticket is given once, and a downlink counter to one number of its device
  pub tickets : AllPairs (λ a b. a.number ≢ b.number) (jobs_given r.replies)
  pub counters : AllPairs HaveOwnCounters (jobs_given r.replies)
  -- and no counter below the one that the settings begin with
  pub next : (job : Job) (device : DeviceSetting) → Contains (jobs_given r.replies) job → Contains settings.devices device
      → device.addr ≡ job.addr → device.down ≤ job.counter

-- for all settings that are accepted, all limits, all books of their gateways whose reservations have the number 0, and every
-- list of steps
abbrev pub EveryResumedRunKeepsHeadline : Type 0
EveryResumedRunKeepsHeadline = (settings : SettingLists) → AreSettings settings.gateways settings.devices → (limits : Limits)
    → (books : List Book) → AreBooksFor settings.gateways books → All IsWhole books → All HasNoNumbers books
    → (steps : List Step) → KeepsResumed settings books (run_from (resuming settings limits books) steps)
