-- A payload is queued, a copy is heard, time passes for the gatherings, an answer is settled: what holds of the world holds then.
use Rattle.server_core.proofs.Words
use Words.{arith, sym, Contains-append_left, Bool, List, None, Ok, Option, Result, Some, false, if◌then◌else◌, refl, slice_get}
use Words.{true, ℕ, ◌==◌, ◌≡◌, addr_of, Gathering, is_open_at, numbered, rewritten, with_copy, Job, Payload, Ending, Answer}
use Words.{Settled, Decision, Join, Refuse, asked_by, copy_of, length-rewritten, Device, Register, device_with, after_settling}
use Words.{delivered, has_carried, head_taken, sent_of, without_head, Gateway, World, ids, after_queueing, queue_answer}
use Words.{with_payload, decide, join_decided, open_decided, found_there, closing, pass_answer, SettingLists, Asked, Sent}
use Words.{QueueFault, Heard1, ending_of, hear, hear_by, pass, queue, sent_for, settle}
use Rattle.server_core.proofs.Holds.{IsGrown, Holds, IsGood, IsGoodStep, unchanged, IsOfDevice, both_good, device_setting}
use Rattle.server_core.proofs.Written.{device_written, with_device, answer_written, Grow-rewritten, gathered_grown}
use Rattle.server_core.proofs.Written.{uplink_gathered}
use Rattle.server_core.proofs.DeskSteps.{settle_walk}
use Rattle.std.proofs.lemmas.Bool.{eqb-true}
use Rattle.uplink_gather.specs.Hearing as gathers
use Rattle.server_desk.specs.Hearing as hearing

-- A payload is queued.

module _ {settings : SettingLists} {past : List Gateway} {T : Job → Type 0} {w : World}
    (h : Holds settings past T w) (addr : ℕ) (payload : Payload) where
  queued_by : (r : Result ℕ QueueFault) (o : Option (ℕ × Device)) → device_with addr w.reg.devices ≡ o
      → IsGood settings past T w (record w { reg = after_queueing r o payload w.reg })
  queued_by (Ok count) (Some found) e =
      let there = found_there (λ (d : Device). d.setting.addr == addr) w.reg.devices found e in
      device_written h found.0 found.1 (with_payload payload found.1) there.0 refl (omega arith)
  queued_by r o e = unchanged h

  pub queue_good : IsGoodStep settings past T w (queue w addr payload)
  queue_good = record { good = queued_by (queue_answer w.reg addr payload) (device_with addr w.reg.devices) refl; used = tt }

-- Time passes for the gatherings.

module _ {settings : SettingLists} {past : List Gateway} {T : Job → Type 0} {w : World} (h : Holds settings past T w) where
  abbrev closed : Gathering → Gathering
  closed g = record g { closed = true }

  closed_by : (n : ℕ) (t : Bool) → IsGood settings past T w
      (record w {
        reg = record (w.reg) {
          gathered = if t then record (w.reg.gathered) { list = rewritten closed n w.reg.gathered.list } else w.reg.gathered;
        };
      })
  closed_by n true =
      gathered_grown h (rewritten closed n w.reg.gathered.list) (sym (length-rewritten closed n w.reg.gathered.list))
      (Grow-rewritten closed (λ g. record { bytes = refl; copies = λ c k. k }) n w.reg.gathered.list)
  closed_by n false = unchanged h

  passed_by : (o : Option ℕ) → IsGood settings past T w (record w { reg = closing o w.reg })
  passed_by None = unchanged h
  passed_by (Some n) = closed_by n (is_open_at n w.reg.gathered.list)

  pub pass_good : (now : ℕ) → IsGoodStep settings past T w (pass w now)
  pass_good now = record { good = passed_by (pass_answer w.reg now); used = tt }

-- A copy of an uplink is heard.

module _ {settings : SettingLists} {past : List Gateway} {T : Job → Type 0} {w : World}
    (h : Holds settings past T w) (bytes : List ℕ) (heard : Heard1) (arrived : ℕ) where
  heard_good : (d : Decision) → decide (ids w) w.reg bytes heard arrived ≡ d
      → IsGood settings past T w (hear_by w bytes heard arrived d).0
  heard_good (Refuse fault) e = unchanged h
  heard_good (Join n) e =
      let f : Gathering → Gathering = with_copy (copy_of heard) in
      let grown : (g : Gathering) → IsGrown g (f g) = λ g. record { bytes = refl; copies = Contains-append_left g.copies _ } in
      rw ((join_decided (ids w) w.reg bytes heard arrived n e).place)
      (gathered_grown h (rewritten f n w.reg.gathered.list) (sym (length-rewritten f n w.reg.gathered.list))
      (Grow-rewritten f grown n w.reg.gathered.list))
  heard_good (hearing.Open o) e =
      let d = open_decided (ids w) w.reg bytes heard arrived o e in
      let g : Gathering = gathers.opening bytes (copy_of heard) arrived in
      let device : Device = record (o.device) { up = Some o.counter } in
      let there = found_there (λ (x : Device). x.setting.addr == addr_of bytes) w.reg.devices (o.place, o.device) d.found in
      let first : IsGood settings past T w (with_device h o.place device) =
      device_written h o.place o.device device there.0 refl (omega arith) in
      let own : IsOfDevice settings o.place g =
      record {
        setting = o.device.setting;
        served = device_setting h o.place o.device there.0;
        its_own = eqb-true o.device.setting.addr (addr_of bytes) there.1;
      } in
      rw (d.place, d.room) (both_good first (uplink_gathered first.holds g (asked_by o bytes) own))

  pub hear_good : IsGoodStep settings past T w (hear w bytes heard arrived)
  hear_good = record { good = heard_good (decide (ids w) w.reg bytes heard arrived) refl; used = tt }

-- An answer is settled.

-- what was booked for it is kept
ended_sent : (answer : Answer) (ending : Ending) → ending_of answer ≡ Some ending → (s : Sent) → sent_for answer ≡ Some s
    → sent_of ending ≡ Some s
ended_sent answer ending e s q = grind arith

module _ {settings : SettingLists} {past : List Gateway} {T : Job → Type 0} {w : World}
    (h : Holds settings past T w) (n : ℕ) where
  abbrev with_reg : Register → World
  with_reg reg = record w { reg = reg }

  -- the device's queue may lose its head
  head_by : (place : ℕ) (o : Option Device) → slice_get w.reg.devices place ≡ o
      → IsGood settings past T w (with_reg (record (w.reg) { devices = head_taken place o w.reg.devices }))
  head_by place None e = unchanged h
  head_by place (Some device) e = device_written h place device (without_head device) e refl (omega arith)

  delivered_by : (o : Option Asked) → IsGood settings past T w (with_reg (delivered o w.reg))
  delivered_by None = unchanged h
  delivered_by (Some asked) = head_by asked.device (slice_get w.reg.devices asked.device) refl

  pub settle_good : IsGoodStep settings past T w (settle w n)
  settle_good = settle_walk w (IsGoodStep settings past T w) n (λ e. record { good = unchanged h; used = tt })
      (λ answer ending e f told.
      let v = with_reg (after_settling ending n w.reg) in
      let first : IsGood settings past T w v =
      elim (has_carried ending) as (λ t. IsGood settings past T w (with_reg (if t then delivered (numbered n w.reg.asked) w.reg
      else w.reg))) [ true ↦ delivered_by (numbered n w.reg.asked) | false ↦ unchanged h ] in
      let new : Answer = Settled (sent_of ending) in
      record {
        good = both_good first (answer_written first.holds n answer new e (ended_sent answer ending f) refl
            (λ k job q. absurd (cc (q))));
        used = tt;
      })
