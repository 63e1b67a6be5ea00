-- What the law on counters says of two turns of one life, and of two lives, from the law alone.
use Rattle.std.proofs.Common.{ℕ, ◌≡◌, ◌≤◌, ◌<◌, true, List, [], ◌∷◌, Contains, Some, arith}
use Rattle.answer_ticket.specs.Job.{Job, frame_for}
use Rattle.server_desk.specs.Register.{Device, device_with}
use Rattle.server_desk.specs.Taking.{keys_of}
use Rattle.serve_downlinks.specs.Downlinks.{ToSend}
use Rattle.serve_turns.specs.CounterLaw.{HaveOwnAddresses}
use Rattle.serve_turns.specs.Devices.{settings_of}
use Rattle.serve_turns.specs.CounterLives.{EveryServedLifeRaisesCounters, HasCounterWithin, down_at, is_noted_for, told_behind}
use Rattle.serve_turns.specs.Life.{Life}
use Rattle.serve_turns.specs.LifeLaw.{Turn, behind, turn_downlinks}
use Rattle.serve_turns.specs.SendLaw.{behind_pass}

-- two frames to the device with an address, the second with the greater counter; the first is made with the keys that the device has
abbrev Rise : List Device → ℕ → ToSend → ToSend → Type 0
Rise devices addr d e =
    (first : Job) × (second : Job) × (found : ℕ × Device) × (d.frame ≡ frame_for first d.candidate) × (e.frame ≡ frame_for second e.candidate)
    × (first.addr ≡ addr) × (second.addr ≡ addr) × (device_with addr devices ≡ Some found) × (first.keys ≡ keys_of found.1.setting)
    × (first.counter < second.counter)

rise_by : (devices later : List Device) (addr low told high : ℕ) (d e : ToSend) → HasCounterWithin devices addr low told d
    → HasCounterWithin later addr told high e → Rise devices addr d e
rise_by devices later addr low told high d e p q =
    (p.job, q.job, p.found, p.frame, q.frame, p.own, q.own, p.there, p.keys, omega (arith, p.below, q.not_below))

module _ (A : Type 0) (law : EveryServedLifeRaisesCounters A) (addr : ℕ) (l : Life)
    (own : HaveOwnAddresses (settings_of l.world.reg.devices)) (t u : Turn) (d e : ToSend) (among : Contains (turn_downlinks A t l) d)
    (noted : is_noted_for addr t.is_kept d ≡ true) (also : is_noted_for addr u.is_kept e ≡ true) where
  abbrev devices : List Device
  devices = (behind_pass A t.now t.came l).world.reg.devices

  pub second_turn_has_greater_counters : Contains (turn_downlinks A u (behind A t l)) e → Rise devices addr d e
  second_turn_has_greater_counters then =
      let turns = (law addr (record { opened = l; turns = t ∷ u ∷ []; id = 0 } ∷ [])).0 own (omega arith) in
      rise_by _ _ _ _ _ _ d e (turns.0 d among noted) (turns.1.0 e then also)

  pub second_life_has_greater_counters : (m : Life) → HaveOwnAddresses (settings_of m.world.reg.devices)
      → told_behind A addr t l 0 ≤ down_at addr m.world.reg.devices → Contains (turn_downlinks A u m) e → Rise devices addr d e
  second_life_has_greater_counters m owned goes_on then =
      let lives = law addr (record { opened = l; turns = t ∷ []; id = 0 } ∷ record { opened = m; turns = u ∷ []; id = 0 } ∷ []) in
      rise_by _ _ _ _ _ _ d e ((lives.0 own (omega arith)).0 d among noted) ((lives.1.0 owned goes_on).0 e then also)
