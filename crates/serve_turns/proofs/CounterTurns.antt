-- A turn's devices go on, and each downlink of a turn has a counter below its device's next one.
use Rattle.std.proofs.Common.{◌∙◌, Bool, true, false, List, ℕ, All, Option, ap, arith, cond, map, refl, subst, sym}
use Rattle.std.specs.Prelude.{is_some}
use Rattle.server_core.specs.declared.event.Event.TheVariants.{Queue, Hear, Pass, Tick}
use Rattle.server_core.specs.Entries.{event_lines}
use Rattle.server_core.specs.Schedule.{due_numbers, event_steps, reached}
use Rattle.server_desk.specs.Passing.{pass_answer}
use Rattle.server_desk.specs.Register.{Device, opened_device}
use Rattle.server_desk.specs.World.{World}
use Rattle.server_desk.proofs.Places.{map_there}
use Rattle.serve_downlinks.specs.Downlinks.{downlinks}
use Rattle.serve_turns.specs.CounterLaw.{DevicesGoOn, EachDownlinkIsCounted, HaveOwnAddresses, IsCounted}
use Rattle.serve_turns.specs.Devices.{settings_of}
use Rattle.serve_turns.specs.Control.{Arrival}
use Rattle.serve_turns.specs.Life.{Life}
use Rattle.serve_turns.specs.NewDesk.{after_desk, reopened, set_now}
use Rattle.serve_turns.specs.SendLaw.{before_pass, behind_pass}
use Rattle.serve_turns.specs.Turn.{after_came, after_turn, until_desk}
use Rattle.serve_turns.proofs.Counters.{all_of_jobs, all_counted, passes}
use Rattle.serve_turns.proofs.DeviceSteps.{Keep, goes_on, keep_both, keep_same, keep_steps}
use Rattle.serve_turns.proofs.NewDesks.{set_again}
use Rattle.serve_turns.proofs.TurnWorlds.{came_on, desk_on, ticks_on, turn_world}

-- the devices of a world, those of another one later on
abbrev Keeps : World → World → Type 0
Keeps w v = Keep w.reg.devices v.reg.devices

same : (w : World) → Keeps w w
same w = keep_same w.reg.devices

both : (u v w : World) → Keeps u v → Keeps v w → Keeps u w
both u v w f g = keep_both u.reg.devices v.reg.devices w.reg.devices f g

-- a downlink's counter, in a world where a pass is made, by devices before

passed_steps : (A : Type 0) (old : List Device) (w : World) (now : ℕ) → Keep old w.reg.devices → HaveOwnAddresses (settings_of old)
    → All (IsCounted old (reached w (event_steps {A = A} w (Pass now))).reg.devices) (downlinks (event_lines {A = A} w (Pass now)))
unfolding event_steps
passed_steps A old w now keep own =
    let ss = event_steps {A = A} w (Pass now) in
    let new = (reached w ss).reg.devices in
    let kept = keep_both old w.reg.devices new keep (keep_steps w ss) in
    all_counted old new own (subst HaveOwnAddresses (sym kept.settings) own) (downlinks (event_lines {A = A} w (Pass now)))
    (all_of_jobs A old w ss (passes old w now (due_numbers now w.reg.gathered.list) keep))

-- a turn

module _ (A : Type 0) (now : ℕ) (came : Option Arrival) (l : Life) where
  came_keeps : Keeps l.world (after_came A now came l).world
  came_keeps = came_on Keeps same both A (λ w bytes heard arrived. keep_steps w (event_steps {A = A} w (Hear bytes heard arrived)))
      (λ w addr port payload. keep_steps w (event_steps {A = A} w (Queue addr port payload))) now came l

  ticked_keeps : Keeps l.world (before_pass A now came l).world
  ticked_keeps =
      let c = after_came A now came l in
      both l.world c.world (before_pass A now came l).world came_keeps
      (ticks_on Keeps same both A (λ w gateway at. keep_steps w (event_steps {A = A} w (Tick gateway at))) now c.known c)

  passed_keeps : Keeps l.world (behind_pass A now came l).world
  passed_keeps =
      let m = before_pass A now came l in
      both l.world m.world (behind_pass A now came l).world ticked_keeps (keep_steps m.world (event_steps {A = A} m.world (Pass now)))

  turn_keeps : (t : Bool) → Keeps l.world (cond t (behind_pass A now came l).world (after_came A now came l).world)
  turn_keeps true = passed_keeps
  turn_keeps false = came_keeps

-- a new desk

pub reopens : (w : World) → Keeps w (reopened w)
reopens w =
    record {
      settings = set_again w.reg.devices;
      later = λ p d e.
          record {
            device = opened_device (set_now d);
            there = map_there opened_device (map set_now w.reg.devices) p (set_now d) (map_there set_now w.reg.devices p d e);
            setting = refl;
            counter = omega arith;
            within = λ h. h;
          };
    }

desk_keeps : (A : Type 0) (l : Life) → Keeps l.world (after_desk A l).world
desk_keeps A l = desk_on Keeps same both A reopens (λ w addr port payload. keep_steps w (event_steps {A = A} w (Queue addr port payload))) l

pub each_downlink_is_counted : (A : Type 0) → EachDownlinkIsCounted A
each_downlink_is_counted A now came l own =
    passed_steps A l.world.reg.devices (before_pass A now came l).world now (ticked_keeps A now came l) own

pub devices_go_on : (A : Type 0) → DevicesGoOn A
devices_go_on A now came r l =
    let m = (behind_pass A now came l).world in
    let c = (after_came A now came l).world in
    let u = until_desk A now came r l in
    let e = (after_turn A now came r l).world in
    let is = turn_world A now came r l in
    record {
      turn = goes_on l.world.reg.devices e.reg.devices (both l.world u.world e
          (subst (Keeps l.world) (sym is) (turn_keeps A now came l (is_some (pass_answer c.reg now)))) (desk_keeps A u));
      pass = λ due. goes_on m.reg.devices e.reg.devices (both m u.world e
          (subst (Keeps m) (sym (is ∙ ap (λ (t : Bool). cond t m c) due)) (same m)) (desk_keeps A u));
    }
