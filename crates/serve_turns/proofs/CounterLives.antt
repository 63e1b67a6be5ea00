-- Over all lives of a server no downlink counter of a device gets into the journal in two turns.
use Rattle.std.proofs.Common.{◌≡◌, ◌∙◌, ◌≤◌, Bool, true, false, List, [], ◌∷◌, ℕ, zero, suc, Contains, Option, Some, None, ap, arith, cond, refl, subst, sym}
use Rattle.std.specs.Prelude.{◌==◌, ◌||◌, is_some, max, slice_get}
use Rattle.std.specs.List.{list_any}
use Rattle.std.proofs.lemmas.Bool.{and_parts, eqb-true}
use Rattle.std.proofs.lemmas.List.Elements.{All-contains}
use Rattle.server_desk.specs.declared.setting.DeviceSetting.{DeviceSetting}
use Rattle.server_desk.specs.Passing.{pass_answer}
use Rattle.server_desk.specs.Register.{Device, device_with}
use Rattle.server_desk.proofs.Places.{found_there, from_map, map_there}
use Rattle.serve_downlinks.specs.Batch.{addr_in}
use Rattle.serve_downlinks.specs.Downlinks.{ToSend}
use Rattle.serve_turns.specs.CounterLaw.{GoOn, HaveOwnAddresses, IsCounted}
use Rattle.serve_turns.specs.Devices.{settings_of, without_counters}
use Rattle.serve_turns.specs.CounterLives.{AreFresh, EveryServedLifeRaisesCounters, HasCounterWithin, LivesAreFresh, TurnsAreFresh, down_at, is_for, is_noted_for, told_after, told_behind}
use Rattle.serve_turns.specs.Life.{Life}
use Rattle.serve_turns.specs.LifeLaw.{ServedLife, Turn, behind}
use Rattle.serve_turns.specs.SendLaw.{behind_pass, pass_downlinks}
use Rattle.serve_turns.specs.Turn.{after_came}
use Rattle.serve_turns.proofs.Counters.{device_found}
use Rattle.serve_turns.proofs.CounterTurns.{devices_go_on, each_downlink_is_counted}

-- a member that passes
any_passes : {X : Type 0} (test : X → Bool) (xs : List X) (x : X) → Contains xs x → test x ≡ true → list_any test xs ≡ true
any_passes test [] x (k, within, is) e = absurd (omega (arith, within))
any_passes test (y ∷ xs) x (zero, within, is) e = ap (λ t. t || list_any test xs) (ap test is ∙ e)
any_passes test (y ∷ xs) x (suc k, within, is) e =
    or_true (test y) (list_any test xs) (any_passes test xs x (k, omega (arith, within), is) e)
  where
    or_true : (s t : Bool) → t ≡ true → (s || t) ≡ true
    or_true true t e = refl
    or_true false t e = e

-- what was found has its counter
down_found : (addr : ℕ) (devices : List Device) (found : ℕ × Device) → device_with addr devices ≡ Some found
    → down_at addr devices ≡ found.1.down
down_found addr devices found e = rw e refl

-- a device's counter later on
down_later : (addr : ℕ) (old new : List Device) → HaveOwnAddresses (settings_of new) → GoOn old new
    → (o : Option (ℕ × Device)) → device_with addr old ≡ o → down_at addr old ≤ down_at addr new
down_later addr old new own on None e = rw e (omega arith)
down_later addr old new own on (Some (k, x)) e =
    let f = found_there (λ (d : Device). d.setting.addr == addr) old (k, x) e in
    let at : slice_get (settings_of new) k ≡ Some (without_counters x.setting) =
    subst (λ s. slice_get s k ≡ Some (without_counters x.setting)) (sym on.settings)
    (map_there (λ d. without_counters d.setting) old k x f.0) in
    let y = from_map (λ (d : Device). without_counters d.setting) new k (without_counters x.setting) at in
    let same : y.0.setting.addr ≡ addr = ap (λ (s : DeviceSetting). s.addr) y.2 ∙ eqb-true x.setting.addr addr f.1 in
    let there = subst (λ a. device_with a new ≡ Some (k, y.0)) same (device_found new own k y.0 y.1) in
    omega (arith, down_found addr old (k, x) e, down_found addr new (k, y.0) there, on.counters k x y.0 f.0 y.1)

module _ (A : Type 0) (addr : ℕ) where
  -- a turn

  module _ (t : Turn) (l : Life) (own : HaveOwnAddresses (settings_of l.world.reg.devices)) (told : ℕ)
      (known : told ≤ down_at addr l.world.reg.devices) where
    abbrev is_due : Bool
    is_due = is_some (pass_answer (after_came A t.now t.came l).world.reg t.now)

    abbrev passed : List Device
    passed = (behind_pass A t.now t.came l).world.reg.devices

    abbrev after : List Device
    after = (behind A t l).world.reg.devices

    abbrev then : List ToSend
    then = pass_downlinks A t.now t.came l

    own_after : HaveOwnAddresses (settings_of after)
    own_after = subst HaveOwnAddresses (sym (devices_go_on A t.now t.came t.answered l).turn.settings) own

    for_addr : (d : ToSend) (o : Option ℕ) (a : ℕ) → o ≡ Some a → is_for addr o ≡ true → a ≡ addr
    for_addr d o a e h = eqb-true a addr (sym (ap (is_for addr) e) ∙ h)

    counted : (d : ToSend) → IsCounted l.world.reg.devices passed d → is_noted_for addr t.is_kept d ≡ true
        → HasCounterWithin passed addr told (max told (down_at addr passed)) d
    counted d c noted =
        let own_addr = for_addr d (addr_in d.frame) c.job.addr c.addressed (and_parts (t.is_kept d) (is_for addr (addr_in d.frame)) noted).1 in
        let first = down_found addr l.world.reg.devices c.before
        (subst (λ a. device_with a l.world.reg.devices ≡ Some c.before) own_addr c.was) in
        let there = subst (λ a. device_with a passed ≡ Some c.after) own_addr c.is in
        let last = down_found addr passed c.after there in
        record {
          job = c.job;
          frame = c.frame;
          own = own_addr;
          found = c.after;
          there = there;
          keys = c.keys;
          not_below = omega (arith, known, first, c.not_below);
          below = omega (arith, last, c.below);
        }

    fresh_if : (due : Bool) (d : ToSend) → Contains (cond due then []) d → is_noted_for addr t.is_kept d ≡ true
        → HasCounterWithin passed addr told (cond (list_any (is_noted_for addr t.is_kept) (cond due then []))
        (max told (down_at addr passed)) told) d
    fresh_if false d (k, within, is) noted = absurd (omega (arith, within))
    fresh_if true d among noted =
        subst (λ any. HasCounterWithin passed addr told (cond any (max told (down_at addr passed)) told) d)
        (sym (any_passes (is_noted_for addr t.is_kept) then d among noted))
        (counted d (All-contains (IsCounted l.world.reg.devices passed) then d
        (each_downlink_is_counted A t.now t.came l own) among) noted)

    turn_fresh : AreFresh A addr t l told
    turn_fresh = fresh_if is_due

    -- what is told then is no more than the device has

    known_by : (due any : Bool) → is_due ≡ due → (due ≡ false → any ≡ false)
        → cond any (max told (down_at addr passed)) told ≤ down_at addr after
    known_by due false e f =
        let on = devices_go_on A t.now t.came t.answered l in
        omega (arith, known, down_later addr l.world.reg.devices after own_after on.turn _ refl)
    known_by true true e f =
        let on = devices_go_on A t.now t.came t.answered l in
        omega (
          arith,
          known,
          down_later addr l.world.reg.devices after own_after on.turn _ refl,
          down_later addr passed after own_after (on.pass e) _ refl,
        )
    known_by false true e f = absurd (cc (f refl))

    none_passes : (due : Bool) → due ≡ false → list_any (is_noted_for addr t.is_kept) (cond due then []) ≡ false
    none_passes due e = rw e refl

    known_after : told_behind A addr t l told ≤ down_at addr after
    known_after = known_by is_due _ refl (none_passes is_due)

  -- turn after turn

  turns_fresh : (ts : List Turn) (l : Life) → HaveOwnAddresses (settings_of l.world.reg.devices) → (told : ℕ)
      → told ≤ down_at addr l.world.reg.devices → TurnsAreFresh A addr ts l told
  turns_fresh [] l own told known = tt
  turns_fresh (t ∷ ts) l own told known = (
    turn_fresh t l own told known,
    turns_fresh ts (behind A t l) (own_after t l own told known) (told_behind A addr t l told) (known_after t l own told known),
  )

  lives_fresh : (lives : List ServedLife) (told : ℕ) → LivesAreFresh A addr lives told
  lives_fresh [] told = tt
  lives_fresh (life ∷ lives) told = (
    λ own known. turns_fresh life.turns life.opened own told known,
    lives_fresh lives (told_after A addr life.turns life.opened told),
  )

pub every_served_life_raises_counters : (A : Type 0) → EveryServedLifeRaisesCounters A
every_served_life_raises_counters A addr lives = lives_fresh A addr lives 0
