use Rattle.std.proofs.Common.{ℕ, ◌≡◌, ◌∙◌, ◌<◌, true, Bool, List, [], ◌∷◌, Contains, Option, Some, arith, subst, sym}
use Rattle.std.specs.Prelude.{◌==◌, is_some, slice_get}
use Rattle.std.proofs.lemmas.Bool.{eqb-true}
use Rattle.std.proofs.lemmas.List.{map-id}
use Rattle.std.proofs.lemmas.List.Elements.{All-contains}
use Rattle.gateway_clock.specs.Clock.{line}
use Rattle.forwarder_sessions.specs.declared.session.Endpoint.{Endpoint}
use Rattle.forwarder_sessions.specs.Sessions.{Known}
use Rattle.answer_ticket.specs.Job.{Job, frame_for}
use Rattle.server_desk.proofs.Places.{found_there, map_there}
use Rattle.server_desk.specs.Passing.{pass_answer}
use Rattle.server_desk.specs.Register.{Device, device_with}
use Rattle.server_desk.specs.Taking.{keys_of}
use Rattle.serve_journal.specs.declared.entry.Entry.{Entry}
use Rattle.serve_journal.specs.declared.entry.Entry.TheVariants as says
use Rattle.serve_downlinks.specs.Batch.{floor_of, sent_of, session_at, taken_entries}
use Rattle.serve_downlinks.specs.BatchLaw.{AreInOrder}
use Rattle.serve_downlinks.specs.Downlinks.{ToSend}
use Rattle.serve_downlinks.specs.Fates.{forwarder_of}
use Rattle.serve_turns.specs.CounterLaw.{DevicesGoOn, EachDownlinkIsCounted, HaveOwnAddresses, IsCounted}
use Rattle.serve_turns.specs.Devices.{settings_of, without_counters}
use Rattle.serve_turns.specs.Control.{Arrival}
use Rattle.serve_turns.specs.Effects.{Appends, Syncs, Sends}
use Rattle.serve_turns.specs.Kept.{Kept}
use Rattle.serve_turns.specs.Life.{Life}
use Rattle.serve_turns.specs.SendLaw.{EachSend, EverySendIsKept, IsBehindItsBatch, behind_pass, pass_downlinks}
use Rattle.serve_turns.specs.Sending.{known_then}
use Rattle.serve_turns.specs.Turn.{Answered, acts, after_came, after_turn}
use Rattle.server_core.proofs.Members.{apart_once}

-- What the laws say together of a turn that sends, from the laws alone.

module _ (A : Type 0) (keeps : EverySendIsKept A) (counts : EachDownlinkIsCounted A) (now : ℕ) (came : Option Arrival) (r : Answered)
    (l : Life) (own : HaveOwnAddresses (settings_of l.world.reg.devices)) where
  abbrev after : Life
  after = behind_pass A now came l

  -- a frame with a device's keys, and a batch which tells that the device is given a greater downlink counter next
  pub record HasGreaterCounter (d : ToSend) (k : Kept) (batch : List Entry) : Type 0 where
    pub job : Job
    pub device : Device
    pub frame : d.frame ≡ frame_for job d.candidate
    pub keys : job.keys ≡ keys_of device.setting
    pub greater : job.counter < device.down
    pub told : (f : Known) (session : List ℕ) → forwarder_of d.candidate.gateway after.known ≡ Some f
        → session_at job.addr k.sessions ≡ Some session
        → AreInOrder (says.Clock d.candidate.gateway (line f.clock now) (floor_of d.candidate.gateway (known_then k now after).books))
        (says.Device job.addr session device.up device.down) (taken_entries job.addr d.frame) (sent_of d.candidate) batch

  -- it stands before each PULL_RESP
  pub a_greater_counter_is_told : (bytes datagram : List ℕ) (to : Endpoint) (went : Bool)
      → acts A now came r l ≡ Appends bytes true ∷ Syncs true ∷ Sends to datagram went ∷ []
      → (d : ToSend) × (k : Kept) × (batch : List Entry) × HasGreaterCounter d k batch
  a_greater_counter_is_told bytes datagram to went does =
      let it = (subst (λ e. EachSend (λ done to bytes. IsBehindItsBatch now (pass_downlinks A now came l) after done to bytes) [] e)
      does (keeps now came r l)).0 in
      let counted = IsCounted l.world.reg.devices after.world.reg.devices in
      let p = All-contains counted (pass_downlinks A now came l) it.downlink (counts now came l own) it.among in (
        it.downlink,
        it.kept,
        it.batch,
        record {
          job = p.job;
          device = p.after.1;
          frame = p.frame;
          keys = p.keys;
          greater = p.below;
          told = λ f session forwarder known. it.told f p.job.addr p.after session forwarder p.addressed p.is known;
        },
      )

-- Of two turns one after the other.

module _ (A : Type 0) (counts : EachDownlinkIsCounted A) (goes : DevicesGoOn A) (now : ℕ) (came : Option Arrival) (r : Answered)
    (l : Life) (own : HaveOwnAddresses (settings_of l.world.reg.devices)) where
  abbrev next : Life
  next = after_turn A now came r l

  -- devices that are told apart by their addresses are so behind a turn
  pub addresses_stay_own : HaveOwnAddresses (settings_of next.world.reg.devices)
  addresses_stay_own = subst HaveOwnAddresses (sym (goes now came r l).turn.settings) own

  -- what was found by an address stands at its place
  found_at : (addr : ℕ) (devices : List Device) (found : ℕ × Device) → device_with addr devices ≡ Some found
      → (slice_get (settings_of devices) found.0 ≡ Some (without_counters found.1.setting)) × (slice_get devices found.0 ≡ Some found.1)
      × (found.1.setting.addr ≡ addr)
  found_at addr devices found is =
      let f = found_there (λ (x : Device). x.setting.addr == addr) devices found is in
      (map_there (λ x. without_counters x.setting) devices found.0 found.1 f.0, f.0, eqb-true found.1.setting.addr addr f.1)

  -- a downlink of the next turn has a greater counter than one of this turn to the same device
  pub next_counter_is_greater : is_some (pass_answer (after_came A now came l).world.reg now) ≡ true → (then : ℕ)
      (comes : Option Arrival) (d e : ToSend) → Contains (pass_downlinks A now came l) d → Contains (pass_downlinks A then comes next) e
      → (first : Job) × (second : Job) × (d.frame ≡ frame_for first d.candidate) × (e.frame ≡ frame_for second e.candidate)
      × (first.addr ≡ second.addr → first.counter < second.counter)
  next_counter_is_greater due then comes d e among also =
      let p = All-contains (IsCounted l.world.reg.devices (behind_pass A now came l).world.reg.devices) (pass_downlinks A now came l) d
      (counts now came l own) among in
      let q = All-contains (IsCounted next.world.reg.devices (behind_pass A then comes next).world.reg.devices)
      (pass_downlinks A then comes next) e (counts then comes next addresses_stay_own) also in
      let on = (goes now came r l).pass due in
      let f = found_at p.job.addr (behind_pass A now came l).world.reg.devices p.after p.is in
      let g = found_at q.job.addr next.world.reg.devices q.before q.was in
      let at : slice_get (settings_of next.world.reg.devices) p.after.0 ≡ Some (without_counters p.after.1.setting) =
      subst (λ s. slice_get s p.after.0 ≡ Some (without_counters p.after.1.setting)) (sym on.settings) f.0 in (
        p.job,
        q.job,
        p.frame,
        q.frame,
        λ same.
            let place : p.after.0 ≡ q.before.0 = apart_once (λ s. s) (λ s. s.addr) (settings_of next.world.reg.devices)
            (settings_of next.world.reg.devices) (map-id (settings_of next.world.reg.devices)) addresses_stay_own.differ p.after.0
            q.before.0 (without_counters p.after.1.setting) (without_counters q.before.1.setting) at g.0 (f.2 ∙ same ∙ sym g.2) in
            let there = subst (λ k. slice_get next.world.reg.devices k ≡ Some q.before.1) (sym place) g.1 in
            omega (arith, p.below, q.not_below, on.counters p.after.0 p.after.1 q.before.1 f.1 there),
      )
