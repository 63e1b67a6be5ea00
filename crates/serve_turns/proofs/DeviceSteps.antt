-- What steps leave of devices: how each is set, and the downlink counters that it was given.
use Rattle.std.proofs.Common.{◌≡◌, ◌∙◌, ◌≤◌, Bool, true, false, List, [], ◌∷◌, ℕ, Option, Some, None, Result, Ok, Err, ap, arith, inl, inr, refl, subst, sym}
use Rattle.std.specs.Prelude.{◌==◌, ◌<◌, ◌^◌, if◌then◌else◌, slice_get, slice_set}
use Rattle.std.proofs.lemmas.Bool.Decides.{nat_tests}
use Rattle.std.proofs.lemmas.Option.{same_Some}
use Rattle.lora_frame.specs.Reading.{addr_of}
use Rattle.uplink_gather.specs.Gatherings.{numbered}
use Rattle.answer_ticket.specs.declared.outcome.Ending.{Ending}
use Rattle.answer_ticket.specs.Job.{Job, Payload}
use Rattle.server_desk.specs.declared.faults.QueueFault.{QueueFault}
use Rattle.server_desk.specs.declared.faults.TakeFault.{TakeFault}
use Rattle.server_desk.specs.declared.heard.Heard1.{Heard1}
use Rattle.server_desk.specs.Hearing.{Decision, Refuse, Join, Open, decide}
use Rattle.server_desk.specs.Passing.{closing, pass_answer}
use Rattle.server_desk.specs.Queueing.{after_queueing, queue_answer, with_payload}
use Rattle.server_desk.specs.declared.answers.Asked.{Asked}
use Rattle.server_desk.specs.Register.{Device, Register, device_with}
use Rattle.server_desk.specs.Settling.{after_settling, delivered, has_carried, head_taken, without_head}
use Rattle.server_desk.specs.Taking.{counter_given, take_answer, taken_from, with_counter_given}
use Rattle.gateway_book.specs.declared.refusal.Refusal.{Refusal}
use Rattle.rx_windows.specs.declared.candidate.Candidate.{Candidate}
use Rattle.server_desk.specs.declared.answers.Known.{Known}
use Rattle.server_desk.specs.World.{Gateway, World, ids, known}
use Rattle.server_desk.proofs.Decided.{open_decided}
use Rattle.server_desk.proofs.Places.{found_there, from_map, get_set_after, map_set, map_there}
use Rattle.server_core.proofs.DeskSteps.{cancel_walk, settle_walk, tick_walk, try_walk}
use Rattle.server_core.specs.Steps.{Step, Queue, Hear, Pass, Take, Settle, Try, Cancel, Tick, hear_by, run_from, step, take_by, tried_by, try}
use Rattle.server_core.specs.Steps.{After}
use Rattle.server_core.specs.Schedule.{reached}
use Rattle.serve_turns.specs.CounterLaw.{GoOn}
use Rattle.serve_turns.specs.Devices.{settings_of, without_counters}

-- the device at this place, set alike, with at least as many downlink counters given
pub record IsLater (devices : List Device) (place : ℕ) (before : Device) : Type 0 where
  pub device : Device
  pub there : slice_get devices place ≡ Some device
  pub setting : without_counters device.setting ≡ without_counters before.setting
  pub counter : before.down ≤ device.down
  pub within : before.down ≤ 2 ^ 32 → device.down ≤ 2 ^ 32

pub record Keep (old new : List Device) : Type 0 where
  pub settings : settings_of new ≡ settings_of old
  pub later : (p : ℕ) (d : Device) → slice_get old p ≡ Some d → IsLater new p d

pub keep_same : (devices : List Device) → Keep devices devices
keep_same devices =
    record {
      settings = refl;
      later = λ p d e. record { device = d; there = e; setting = refl; counter = omega arith; within = λ h. h };
    }

pub keep_both : (xs ys zs : List Device) → Keep xs ys → Keep ys zs → Keep xs zs
keep_both xs ys zs f g =
    record {
      settings = g.settings ∙ f.settings;
      later = λ p d e.
          let a = f.later p d e in
          let b = g.later p a.device a.there in
          record {
            device = b.device;
            there = b.there;
            setting = b.setting ∙ a.setting;
            counter = omega (arith, a.counter, b.counter);
            within = λ h. b.within (a.within h);
          };
    }

-- what stands at a place then stood there before
pub stood : (old new : List Device) → Keep old new → (p : ℕ) (d : Device) → slice_get new p ≡ Some d
    → (before : Device) × (slice_get old p ≡ Some before) × (without_counters before.setting ≡ without_counters d.setting) × (before.down ≤ d.down)
    × (before.down ≤ 2 ^ 32 → d.down ≤ 2 ^ 32)
stood old new keep p d e =
    let b = from_map (λ x. without_counters x.setting) old p (without_counters d.setting)
    (subst (λ l. slice_get l p ≡ Some (without_counters d.setting)) keep.settings
    (map_there (λ x. without_counters x.setting) new p d e)) in
    let later = keep.later p b.0 b.1 in
    let same : later.device ≡ d = same_Some _ _ (sym later.there ∙ e) in (
      b.0,
      b.1,
      b.2,
      subst (λ x. b.0.down ≤ x.down) same later.counter,
      subst (λ x. b.0.down ≤ 2 ^ 32 → x.down ≤ 2 ^ 32) same later.within,
    )

pub goes_on : (old new : List Device) → Keep old new → GoOn old new
goes_on old new keep =
    record {
      settings = keep.settings;
      counters = λ place before after was is.
          let later = keep.later place before was in
          let same : later.device ≡ after = same_Some _ _ (sym later.there ∙ is) in
          subst (λ x. before.down ≤ x.down) same later.counter;
    }

-- one is written anew
keep_set : (devices : List Device) (p : ℕ) (d e : Device) → slice_get devices p ≡ Some d → e.setting ≡ d.setting → d.down ≤ e.down
    → (d.down ≤ 2 ^ 32 → e.down ≤ 2 ^ 32) → Keep devices (slice_set devices p e)
keep_set devices p d e there same counted within =
    record {
      settings = map_set (λ x. without_counters x.setting) devices p d e there (ap without_counters same);
      later = λ q f i. elim (get_set_after devices p q e f i) [
        | inl o ↦
            let is : f ≡ d = same_Some _ _ (sym i ∙ subst (λ k. slice_get devices k ≡ Some d) o.0 there) in
            rw is (record { device = e; there = o.1; setting = ap without_counters same; counter = counted; within = within })
        | inr o ↦ record { device = f; there = o; setting = refl; counter = omega arith; within = λ h. h }
      ];
    }

-- a step's parts

keep_closing : (o : Option ℕ) (reg : Register) → Keep reg.devices (closing o reg).devices
keep_closing None reg = keep_same reg.devices
keep_closing (Some n) reg = keep_same reg.devices

-- a counter is given where one is left

keep_counter : (reg : Register) (known : List Known) (n : ℕ) (a : Asked) (o : Option Device) → slice_get reg.devices a.device ≡ o
    → ((d : Device) → o ≡ Some d → d.down < 2 ^ 32) → Keep reg.devices (counter_given a.device o reg.devices)
keep_counter reg known n a None e left = keep_same reg.devices
keep_counter reg known n a (Some d) e left =
    keep_set reg.devices a.device d (with_counter_given d) e refl (omega arith) (λ h. omega (arith, left d refl))

left_of : (reg : Register) (known : List Known) (n : ℕ) (job : Job) (a : Asked) (d : Device) → take_answer reg known n ≡ Ok job
    → numbered n reg.asked ≡ Some a → slice_get reg.devices a.device ≡ Some d → d.down < 2 ^ 32
unfolding take_answer
left_of reg known n job a d e asked there = grind (arith, nat_tests, e, asked, there)

keep_taken : (reg : Register) (known : List Known) (n : ℕ) (job : Job) → take_answer reg known n ≡ Ok job → (o : Option Asked)
    → numbered n reg.asked ≡ o → Keep reg.devices (taken_from o reg).devices
keep_taken reg known n job e None asked = keep_same reg.devices
keep_taken reg known n job e (Some a) asked =
    keep_counter reg known n a (slice_get reg.devices a.device) refl (λ d there. left_of reg known n job a d e asked there)

keep_take : (w : World) (n : ℕ) (r : Result Job TakeFault) → take_answer w.reg (known w) n ≡ r
    → Keep w.reg.devices (take_by w n r).0.reg.devices
keep_take w n (Err fault) e = keep_same w.reg.devices
keep_take w n (Ok job) e = keep_taken w.reg (known w) n job e (numbered n w.reg.asked) refl

keep_head : (place : ℕ) (devices : List Device) (o : Option Device) → slice_get devices place ≡ o
    → Keep devices (head_taken place o devices)
keep_head place devices None e = keep_same devices
keep_head place devices (Some d) e = keep_set devices place d (without_head d) e refl (omega arith) (λ h. h)

keep_delivered : (reg : Register) (o : Option Asked) → Keep reg.devices (delivered o reg).devices
keep_delivered reg None = keep_same reg.devices
keep_delivered reg (Some a) = keep_head a.device reg.devices (slice_get reg.devices a.device) refl

keep_settled : (reg : Register) (n : ℕ) (ending : Ending) → Keep reg.devices (after_settling ending n reg).devices
keep_settled reg n ending = settled_if (has_carried ending)
  where
    settled_if : (t : Bool) → Keep reg.devices (if t then delivered (numbered n reg.asked) reg else reg).devices
    settled_if true = keep_delivered reg (numbered n reg.asked)
    settled_if false = keep_same reg.devices

keep_queued : (reg : Register) (addr : ℕ) (payload : Payload) (r : Result ℕ QueueFault) (o : Option (ℕ × Device))
    → device_with addr reg.devices ≡ o → Keep reg.devices (after_queueing r o payload reg).devices
keep_queued reg addr payload (Err fault) o e = keep_same reg.devices
keep_queued reg addr payload (Ok count) None e = keep_same reg.devices
keep_queued reg addr payload (Ok count) (Some found) e =
    let there = found_there (λ (d : Device). d.setting.addr == addr) reg.devices found e in
    keep_set reg.devices found.0 found.1 (with_payload payload found.1) there.0 refl (omega arith) (λ h. h)

keep_heard : (w : World) (bytes : List ℕ) (heard : Heard1) (arrived : ℕ) (d : Decision) → decide (ids w) w.reg bytes heard arrived ≡ d
    → Keep w.reg.devices (hear_by w bytes heard arrived d).0.reg.devices
keep_heard w bytes heard arrived (Refuse fault) e = keep_same w.reg.devices
keep_heard w bytes heard arrived (Join n) e = keep_same w.reg.devices
keep_heard w bytes heard arrived (Open o) e =
    let opens = open_decided (ids w) w.reg bytes heard arrived o e in
    let there = found_there (λ (d : Device). d.setting.addr == addr_of bytes) w.reg.devices (o.place, o.device) opens.found in
    keep_set w.reg.devices o.place o.device (record (o.device) { up = Some o.counter }) there.0 refl (omega arith) (λ h. h)

-- a step

abbrev KeepAfter : World → After → Type 0
KeepAfter w after = Keep w.reg.devices after.0.reg.devices

keep_tried : (w : World) (n : ℕ) → KeepAfter w (try w n)
keep_tried w n = try_walk w (KeepAfter w) n (keep_same w.reg.devices) (λ k job c i g e f q own o is. by_answer k job c i g o)
  where
    by_answer : (k : ℕ) (job : Job) (c : Candidate) (i : ℕ) (g : Gateway) (o : Option Refusal)
        → KeepAfter w (tried_by w n k job c (i, g) o)
    by_answer k job c i g None = keep_same w.reg.devices
    by_answer k job c i g (Some refusal) = keep_same w.reg.devices

pub keep_step : (w : World) (s : Step) → KeepAfter w (step w s)
unfolding step
keep_step w (Queue addr payload) =
    keep_queued w.reg addr payload (queue_answer w.reg addr payload) (device_with addr w.reg.devices) refl
keep_step w (Hear bytes heard arrived) = keep_heard w bytes heard arrived (decide (ids w) w.reg bytes heard arrived) refl
keep_step w (Pass now) = keep_closing (pass_answer w.reg now) w.reg
keep_step w (Take n) = keep_take w n (take_answer w.reg (known w) n) refl
keep_step w (Settle n) =
    settle_walk w (KeepAfter w) n (λ none. keep_same w.reg.devices) (λ answer ending e f t. keep_settled w.reg n ending)
keep_step w (Try n) = keep_tried w n
keep_step w (Cancel n) = cancel_walk w (KeepAfter w) n (keep_same w.reg.devices) (λ sent i g e. keep_same w.reg.devices)
keep_step w (Tick id now) = tick_walk w (KeepAfter w) id now (keep_same w.reg.devices) (λ i g e. keep_same w.reg.devices)

-- steps one after another
pub keep_steps : (w : World) (ss : List Step) → Keep w.reg.devices (reached w ss).reg.devices
unfolding run_from
keep_steps w [] = keep_same w.reg.devices
keep_steps w (s ∷ ss) =
    keep_both w.reg.devices (step w s).0.reg.devices (reached (step w s).0 ss).reg.devices (keep_step w s) (keep_steps (step w s).0 ss)
