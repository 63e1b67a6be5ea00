-- What is set of a server's gateways and devices stays accepted.
use Rattle.std.proofs.Common.{◌≡◌, ◌∙◌, ◌≤◌, ◌<◌, ◌^◌, Bool, true, false, List, [], ◌∷◌, ℕ, Option, Some, None, Result, Ok, Err, ap, arith, cond, get_or, length, map, refl, slice_get, subst, sym}
use Rattle.std.specs.Prelude.{All, IsSome, is_none, is_some}
use Rattle.std.proofs.lemmas.List.{get_or-map, get_or_default, length-map}
use Rattle.std.proofs.lemmas.Simd.{map-map}
use Rattle.radio_bands.specs.Band.{band_of}
use Rattle.gateway_book.specs.Book.{Book}
use Rattle.gateway_book.specs.declared.refusal.Refusal.{Refusal}
use Rattle.rx_windows.specs.declared.candidate.Candidate.{Candidate}
use Rattle.answer_ticket.specs.Job.{Job}
use Rattle.server_core.proofs.DeskSteps.{cancel_walk, settle_walk, tick_walk, try_walk}
use Rattle.server_core.specs.declared.event.Event.TheVariants.{Queue as Queues, Hear as Hears, Pass as Passes, Tick as Ticks}
use Rattle.server_core.specs.Entries.{gateway_of, kept_gateway}
use Rattle.server_core.specs.Opened.{AreBooksFor}
use Rattle.server_core.specs.Promise.{setting_of}
use Rattle.server_core.specs.Schedule.{event_steps, reached}
use Rattle.server_core.specs.Steps.{After, Step, Queue, Hear, Pass, Take, Settle, Try, Cancel, Tick, run_from, step, take_by, tried_by}
use Rattle.std.proofs.lemmas.Option.{slice_get_read}
use Rattle.server_desk.proofs.Places.{all_get, from_map, map_set, map_there}
use Rattle.server_desk.proofs.SettingsLemmas.{are_settings, no_fault}
use Rattle.server_desk.specs.declared.faults.TakeFault.{TakeFault}
use Rattle.server_desk.specs.declared.setting.DeviceSetting.{DeviceSetting}
use Rattle.server_desk.specs.declared.setting.GatewaySetting.{GatewaySetting}
use Rattle.server_desk.specs.declared.settings_fault.SettingsFault.{SettingsFault}
use Rattle.server_desk.specs.Passing.{pass_answer}
use Rattle.server_desk.specs.Register.{Device, opened_device}
use Rattle.server_desk.specs.Settings.{AreSettings, IsDeviceInRange, IsFrom, SettingLists, settings_fault}
use Rattle.server_desk.specs.Taking.{take_answer}
use Rattle.server_desk.specs.declared.heard.Heard1.{Heard1}
use Rattle.server_desk.specs.World.{Gateway, World, known, opened_gateway, opening}
use Rattle.serve_turns.specs.Control.{Arrival}
use Rattle.serve_turns.specs.Devices.{settings_of, without_counters}
use Rattle.serve_turns.specs.Life.{Life}
use Rattle.serve_turns.specs.NewDesk.{are_accepted, reopened, serve_limits, set_now, settings_now}
use Rattle.serve_turns.specs.Opening.{resumed_life}
use Rattle.serve_turns.specs.Queues.{after_queues}
use Rattle.serve_turns.specs.SendLaw.{before_pass, behind_pass}
use Rattle.serve_turns.specs.SettingsLaw.{IsAccepted, SettingsStayAccepted}
use Rattle.serve_turns.specs.Turn.{Answered, after_came, after_turn, until_desk}
use Rattle.serve_turns.proofs.CounterTurns.{reopens}
use Rattle.serve_turns.proofs.DeviceSteps.{Keep, keep_both, keep_same, keep_steps, stood}
use Rattle.serve_turns.proofs.TurnWorlds.{came_on, desk_on, ticks_on, turn_world, waits_on}

-- how gateways are set stays, and of devices what is kept of them
record SetOn (w v : World) : Type 0 where
  gateways : map setting_of v.gateways ≡ map setting_of w.gateways
  devices : Keep w.reg.devices v.reg.devices

same : (w : World) → SetOn w w
same w = record { gateways = refl; devices = keep_same w.reg.devices }

both : (u v w : World) → SetOn u v → SetOn v w → SetOn u w
both u v w f g =
    record {
      gateways = g.gateways ∙ f.gateways;
      devices = keep_both u.reg.devices v.reg.devices w.reg.devices f.devices g.devices;
    }

-- steps

module _ (w : World) where
  abbrev SetAlike : After → Type 0
  SetAlike after = map setting_of after.0.gateways ≡ map setting_of w.gateways

  taken_alike : (n : ℕ) (r : Result Job TakeFault) → SetAlike (take_by w n r)
  taken_alike n (Ok job) = refl
  taken_alike n (Err fault) = refl

  tried_alike : (n k : ℕ) (job : Job) (c : Candidate) (i : ℕ) (g : Gateway) → slice_get w.gateways i ≡ Some g → (o : Option Refusal)
      → SetAlike (tried_by w n k job c (i, g) o)
  tried_alike n k job c i g e None = map_set setting_of w.gateways i g _ e refl
  tried_alike n k job c i g e (Some refusal) = refl

  step_alike : (s : Step) → SetAlike (step w s)
  unfolding step
  step_alike (Queue addr payload) = refl
  step_alike (Hear bytes heard arrived) = refl
  step_alike (Pass now) = refl
  step_alike (Take n) = taken_alike n (take_answer w.reg (known w) n)
  step_alike (Settle n) = settle_walk w SetAlike n (λ none. refl) (λ answer ending e f t. refl)
  step_alike (Try n) = try_walk w SetAlike n refl (λ k job c i g e f q own o is. tried_alike n k job c i g q o)
  step_alike (Cancel n) = cancel_walk w SetAlike n refl (λ sent i g e. map_set setting_of w.gateways i g _ e refl)
  step_alike (Tick id now) = tick_walk w SetAlike id now refl (λ i g e. map_set setting_of w.gateways i g _ e refl)

steps_alike : (w : World) (ss : List Step) → map setting_of (reached w ss).gateways ≡ map setting_of w.gateways
unfolding run_from
steps_alike w [] = refl
steps_alike w (s ∷ ss) = steps_alike (step w s).0 ss ∙ step_alike w s

steps_on : (w : World) (ss : List Step) → SetOn w (reached w ss)
steps_on w ss = record { gateways = steps_alike w ss; devices = keep_steps w ss }

reopened_on : (w : World) → SetOn w (reopened w)
reopened_on w = record { gateways = map-map setting_of kept_gateway w.gateways; devices = reopens w }

-- settings that differ in counters alone, which are in their range

module _ (gs : List GatewaySetting) (xs ys : List DeviceSetting) (alike : map without_counters ys ≡ map without_counters xs) where
  as_long : length ys ≡ length xs
  as_long = sym (length-map ys without_counters) ∙ ap length alike ∙ length-map xs without_counters

  alike_at : (k : ℕ) (d : DeviceSetting) → k < length ys → without_counters (get_or ys k d) ≡ without_counters (get_or xs k d)
  alike_at k d l =
      let within : k < length xs = omega (arith, as_long, l) in
      sym (get_or-map without_counters ys k d d l) ∙ ap (λ zs. get_or zs k d) alike ∙ get_or-map without_counters xs k d d within

  still_settings : ((k : ℕ) (d : DeviceSetting) → k < length ys → (get_or ys k d).down ≤ 2 ^ 32) → AreSettings gs xs
      → AreSettings gs ys
  still_settings down are =
      record {
        gateway_count = are.gateway_count;
        device_count = subst (IsFrom 0 1024) (sym as_long) are.device_count;
        gateways_in_range = are.gateways_in_range;
        ids_differ = are.ids_differ;
        devices_in_range = λ k d l.
            let h = are.devices_in_range k d (omega (arith, as_long, l)) in
            let e = alike_at k d l in
            record {
              delay = subst (λ (s : DeviceSetting). IsFrom 1 15 s.delay) (sym e) h.delay;
              offset = subst (λ (s : DeviceSetting). IsFrom 0 5 s.offset) (sym e) h.offset;
              down = (omega arith, down k d l);
            };
        rx2_in_bands = λ k d l.
            subst (λ (s : DeviceSetting). IsSome (band_of s.rx2_freq s.rx2_rate)) (sym (alike_at k d l))
            (are.rx2_in_bands k d (omega (arith, as_long, l)));
        addrs_differ = λ i j d less l is.
            are.addrs_differ i j d less (omega (arith, as_long, l))
            (ap (λ (s : DeviceSetting). s.addr) (sym (alike_at i d (omega (arith, less, l)))) ∙ is
            ∙ ap (λ (s : DeviceSetting). s.addr) (alike_at j d l));
      }

-- accepted or not

none_by : (o : Option SettingsFault) → is_none o ≡ true → o ≡ None
none_by None e = refl
none_by (Some fault) e = absurd (cc (e))

accepted_of : (s : SettingLists) → AreSettings s.gateways s.devices → are_accepted s ≡ true
accepted_of s are = rw (no_fault s.gateways s.devices are) refl

settings_by : (s : SettingLists) → are_accepted s ≡ true → AreSettings s.gateways s.devices
settings_by s e = are_settings s.gateways s.devices (none_by (settings_fault s.gateways s.devices) e)

now_alike : (ds : List Device) → map without_counters (map set_now ds) ≡ settings_of ds
now_alike ds = map-map without_counters set_now ds

-- each device has counters left, or gave the last one

abbrev AreWithin : List Device → Type 0
AreWithin ds = (k : ℕ) (d : Device) → slice_get ds k ≡ Some d → d.down ≤ 2 ^ 32

within_by : (ds : List Device) → All IsDeviceInRange (map set_now ds) → AreWithin ds
within_by ds are k d e =
    (all_get IsDeviceInRange (map set_now ds) k (set_now d) are (map_there set_now ds k d e)).down.1

within_of : (ds : List Device) → AreWithin ds → (k : ℕ) (s : DeviceSetting) → k < length (map set_now ds)
    → (get_or (map set_now ds) k s).down ≤ 2 ^ 32
within_of ds within k s l =
    let ss = map set_now ds in
    let there = slice_get_read ss (length ss) k (get_or ss k s) refl l (get_or_default ss k s (get_or ss k s) l) in
    let f = from_map set_now ds k (get_or ss k s) there in
    subst (λ (x : DeviceSetting). x.down ≤ 2 ^ 32) f.2 (within k f.0 f.1)

within_on : (old new : List Device) → Keep old new → AreWithin old → AreWithin new
within_on old new keep within k d e =
    let b = stood old new keep k d e in
    b.4 (within k b.0 b.1)

stays : (w v : World) → SetOn w v → IsAccepted w → IsAccepted v
stays w v on e =
    let a = settings_by (settings_now w) e in
    let xs = map set_now w.reg.devices in
    let ys = map set_now v.reg.devices in
    let alike : map without_counters ys ≡ map without_counters xs =
    now_alike v.reg.devices ∙ on.devices.settings ∙ sym (now_alike w.reg.devices) in
    let within = within_on w.reg.devices v.reg.devices on.devices (within_by w.reg.devices a.devices_in_range) in
    accepted_of (settings_now v)
    (subst (λ gs. AreSettings gs ys) (sym on.gateways)
    (still_settings (map setting_of w.gateways) xs ys alike (within_of v.reg.devices within) a))

-- what a server opens with

opened_set : (ss : List DeviceSetting) → map set_now (map opened_device ss) ≡ ss
opened_set [] = refl
opened_set (s ∷ ss) = ap (λ l. s ∷ l) (opened_set ss)

gateways_set : (gs : List GatewaySetting) → map setting_of (map opened_gateway gs) ≡ gs
gateways_set [] = refl
gateways_set (g ∷ gs) = ap (λ l. g ∷ l) (gateways_set gs)

books_set_so : (gs : List GatewaySetting) (bs : List Book) → AreBooksFor gs bs → map setting_of (map gateway_of bs) ≡ gs
books_set_so [] [] are = refl
books_set_so [] (b ∷ bs) are = absurd are
books_set_so (g ∷ gs) [] are = absurd are
books_set_so (g ∷ gs) (b ∷ bs) are =
    let one : setting_of (gateway_of b) ≡ g = rw (are.0.id, are.0.rules) refl in
    ap (λ x. x ∷ map setting_of (map gateway_of bs)) one ∙ ap (λ l. g ∷ l) (books_set_so gs bs are.1)

accepts : (settings : SettingLists) (w : World) → AreSettings settings.gateways settings.devices
    → map setting_of w.gateways ≡ settings.gateways → map set_now w.reg.devices ≡ settings.devices → IsAccepted w
accepts settings w are gateways devices = accepted_of (settings_now w) (rw (gateways, devices) are)

-- turns

module _ (A : Type 0) where
  heard_on : (w : World) (bytes : List ℕ) (heard : Heard1) (arrived : ℕ)
      → SetOn w (reached w (event_steps {A = A} w (Hears bytes heard arrived)))
  heard_on w bytes heard arrived = steps_on w (event_steps {A = A} w (Hears bytes heard arrived))

  queued_on : (w : World) (addr port : ℕ) (payload : List ℕ) → SetOn w (reached w (event_steps {A = A} w (Queues addr port payload)))
  queued_on w addr port payload = steps_on w (event_steps {A = A} w (Queues addr port payload))

  module _ (now : ℕ) (came : Option Arrival) (r : Answered) (l : Life) where
    abbrev then : Life
    then = after_came A now came l

    came_set : SetOn l.world then.world
    came_set = came_on SetOn same both A heard_on queued_on now came l

    passed_set : SetOn l.world (behind_pass A now came l).world
    passed_set =
        let m = before_pass A now came l in
        both l.world m.world (behind_pass A now came l).world
        (both l.world then.world m.world came_set
        (ticks_on SetOn same both A (λ w gateway at. steps_on w (event_steps {A = A} w (Ticks gateway at))) now then.known then))
        (steps_on m.world (event_steps {A = A} m.world (Passes now)))

    by_due : (t : Bool) → SetOn l.world (cond t (behind_pass A now came l).world then.world)
    by_due true = passed_set
    by_due false = came_set

    before_set : SetOn l.world (until_desk A now came r l).world
    before_set = subst (SetOn l.world) (sym (turn_world A now came r l)) (by_due (is_some (pass_answer then.world.reg now)))

    behind_set : SetOn l.world (after_turn A now came r l).world
    behind_set =
        let u = until_desk A now came r l in
        both l.world u.world (after_turn A now came r l).world before_set (desk_on SetOn same both A reopened_on queued_on u)

pub settings_stay_accepted : (A : Type 0) → SettingsStayAccepted A
settings_stay_accepted A =
    record {
      opened = λ settings are.
          accepts settings (opening settings serve_limits) are (gateways_set settings.gateways) (opened_set settings.devices);
      resumed = λ settings books forwarders sessions waiting are for.
          let l = resumed_life settings books forwarders sessions in
          stays l.world (after_queues A waiting l).world (waits_on SetOn same both A reopened_on (queued_on A) waiting l)
          (accepts settings l.world are (books_set_so settings.gateways books for) (opened_set settings.devices));
      before = λ now came r l e. stays l.world (until_desk A now came r l).world (before_set A now came r l) e;
      behind = λ now came r l e. stays l.world (after_turn A now came r l).world (behind_set A now came r l) e;
    }
