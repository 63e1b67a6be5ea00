-- What a new desk leaves as it was.
use Rattle.std.proofs.Common.{◌≡◌, ◌∙◌, ◌+◌, ◌≤◌, ◌<◌, ◌++◌, Bool, true, false, List, [], ◌∷◌, ℕ, suc, Option, Some, None, ap, arith, cond, length, map, refl, slice_get, subst, sym}
use Rattle.std.specs.Prelude.{◌&&◌, ◌==◌, All, not, nat_le, nat_lt, slice_set}
use Rattle.std.specs.List.{flat_map}
use Rattle.std.proofs.lemmas.Bool.Decides.{nat_tests}
use Rattle.std.proofs.lemmas.List.{append-nil, append_assoc, length_push}
use Rattle.lora_frame.specs.Ports.{is_application_port, longest_payload}
use Rattle.answer_ticket.specs.Job.{Payload}
use Rattle.forwarder_sessions.specs.Sessions.{renumbered}
use Rattle.server_core.specs.Schedule.{event_steps}
use Rattle.server_core.specs.Steps.{run_from, step}
use Rattle.server_desk.proofs.Places.{found_there, map_set}
use Rattle.server_desk.specs.declared.faults.QueueFault.{QueueFault}
use Rattle.server_desk.specs.declared.faults.QueueFault.TheVariants.{Port, Long, QueueFull}
use Rattle.server_desk.specs.Queueing.{after_queueing, queue_answer_for, queue_fault, queue_limit, queue_step, queued_or, with_payload}
use Rattle.server_desk.specs.Register.{Device, Register, device_with, opened_device}
use Rattle.server_desk.specs.World.{World}
use Rattle.serve_journal.specs.Payload.{Waiting}
use Rattle.serve_renewal.specs.State.{if_some, waiting_of}
use Rattle.serve_turns.specs.CounterLaw.{HaveOwnAddresses}
use Rattle.serve_turns.specs.Devices.{settings_of, without_counters}
use Rattle.serve_turns.specs.Life.{Life}
use Rattle.serve_turns.specs.NewDesk.{all_waiting, reopened, set_now, waits_for}
use Rattle.serve_turns.specs.NewDeskLaw.{HasQueue, IsTaken, NewDeskKeeps, opened_so}
use Rattle.serve_turns.specs.Queues.{after_queue, after_queues}
use Rattle.serve_turns.proofs.Counters.{device_found}
use Rattle.serve_turns.proofs.NewDesks.{set_again}

-- a payload that is queued changes what is known of devices alone

queued_world : (A : Type 0) (q : ℕ × Waiting) (l : Life)
    → (after_queue A q l).world ≡ record l.world { reg = queue_step l.world.reg q.0 (q.1.port, q.1.bytes) }
unfolding event_steps run_from step
queued_world A q l = refl

queues_others : (A : Type 0) (qs : List (ℕ × Waiting)) (l : Life) → after_queues A qs l ≡ record l { world = (after_queues A qs l).world }
queues_others A [] l = refl
queues_others A (q ∷ qs) l = queues_others A qs (after_queue A q l)

queues_books : (A : Type 0) (qs : List (ℕ × Waiting)) (l : Life) → (after_queues A qs l).world.gateways ≡ l.world.gateways
queues_books A [] l = refl
queues_books A (q ∷ qs) l = queues_books A qs (after_queue A q l) ∙ ap (λ (w : World). w.gateways) (queued_world A q l)

-- and of a device what waits for it alone

set_by : (reg : Register) (addr : ℕ) (q : Payload) (o : Option QueueFault) (found : ℕ × Device)
    → device_with addr reg.devices ≡ Some found
    → map set_now (after_queueing (queued_or found.1 o) (Some found) q reg).devices ≡ map set_now reg.devices
set_by reg addr q (Some fault) found e = refl
set_by reg addr q None found e =
    let there = found_there (λ (d : Device). d.setting.addr == addr) reg.devices found e in
    map_set set_now reg.devices found.0 found.1 (with_payload q found.1) there.0 refl

set_with_found : (reg : Register) (addr : ℕ) (q : Payload) (o : Option (ℕ × Device)) → device_with addr reg.devices ≡ o
    → map set_now (after_queueing (queue_answer_for o q) o q reg).devices ≡ map set_now reg.devices
set_with_found reg addr q None e = refl
set_with_found reg addr q (Some found) e = set_by reg addr q (queue_fault found.1 q) found e

queues_set : (A : Type 0) (qs : List (ℕ × Waiting)) (l : Life)
    → map set_now (after_queues A qs l).world.reg.devices ≡ map set_now l.world.reg.devices
queues_set A [] l = refl
queues_set A (q ∷ qs) l =
    queues_set A qs (after_queue A q l)
    ∙ ap (λ (w : World). map set_now w.reg.devices) (queued_world A q l)
    ∙ set_with_found l.world.reg q.0 (q.1.port, q.1.bytes) (device_with q.0 l.world.reg.devices) refl

opened_set : (ds : List Device) → map set_now (map opened_device (map set_now ds)) ≡ map set_now ds
opened_set [] = refl
opened_set (d ∷ ds) = ap (λ l. set_now d ∷ l) (opened_set ds)

-- A payload that a desk takes is queued where there is room.

short_enough : (n : ℕ) → n ≤ 242 → nat_lt 242 n ≡ false
short_enough n short = grind (arith, nat_tests, short)

room_left : (n : ℕ) → n < 16 → nat_le 16 n ≡ false
room_left n room = grind (arith, nat_tests, room)

fits_then : (n : ℕ) → n ≤ 242 → nat_le n 242 ≡ true
fits_then n short = grind (arith, nat_tests, short)

no_fault_by : (a b c : Bool) → a ≡ true → b ≡ false → c ≡ false
    → cond (not a) (Some Port) (cond b (Some Long) (cond c (Some QueueFull) None)) ≡ None
no_fault_by a b c x y z = rw (x, y, z) refl

no_fault : (d : Device) (q : Payload) → IsTaken q → length d.queue < 16 → queue_fault d q ≡ None
no_fault d q is room =
    no_fault_by (is_application_port q.0) (nat_lt longest_payload (length q.1)) (nat_le queue_limit (length d.queue)) is.port
    (short_enough (length q.1) is.short) (room_left (length d.queue) room)

waits_by : (a b : Bool) (w : Waiting) → a ≡ true → b ≡ true → if_some (cond (a && b) (Some w) None) ≡ w ∷ []
waits_by a b w x y = rw (x, y) refl

waits_as : (q : Payload) → IsTaken q → waiting_of q ≡ record { port = q.0; bytes = q.1 } ∷ []
waits_as q is =
    waits_by (is_application_port q.0) (nat_le (length q.1) 242) (record { port = q.0; bytes = q.1 }) is.port
    (fits_then (length q.1) is.short)

set_so : (reg : Register) (q : Payload) (found : ℕ × Device) (o : Option QueueFault) → o ≡ None
    → (after_queueing (queued_or found.1 o) (Some found) q reg).devices ≡ slice_set reg.devices found.0 (with_payload q found.1)
set_so reg q found o e = rw e refl

queued_so : (reg : Register) (q : Payload) (o : Option (ℕ × Device)) (found : ℕ × Device) → o ≡ Some found → queue_fault found.1 q ≡ None
    → (after_queueing (queue_answer_for o q) o q reg).devices ≡ slice_set reg.devices found.0 (with_payload q found.1)
queued_so reg q o found e none =
    subst (λ p. (after_queueing (queue_answer_for p q) p q reg).devices ≡ slice_set reg.devices found.0 (with_payload q found.1)) (sym e)
    (set_so reg q found (queue_fault found.1 q) none)

-- A member in the middle of a list.

get_middle : {X : Type 0} (front back : List X) (x : X) → slice_get (front ++ x ∷ back) (length front) ≡ Some x
get_middle [] back x = refl
get_middle (y ∷ front) back x = get_middle front back x

set_middle : {X : Type 0} (front back : List X) (x y : X) → slice_set (front ++ x ∷ back) (length front) y ≡ front ++ y ∷ back
set_middle [] back x y = refl
set_middle (z ∷ front) back x y = ap (λ l. z ∷ l) (set_middle front back x y)

settings_alike : (front back : List Device) (x y : Device) → without_counters x.setting ≡ without_counters y.setting
    → settings_of (front ++ x ∷ back) ≡ settings_of (front ++ y ∷ back)
settings_alike [] back x y e = ap (λ s. s ∷ settings_of back) e
settings_alike (z ∷ front) back x y e = ap (λ l. without_counters z.setting ∷ l) (settings_alike front back x y e)

tail_all : {X : Type 0} (P : X → Type 0) (x : X) (xs : List X) → All P (x ∷ xs) → All P xs
tail_all P x xs all k y within = all (suc k) y (omega (arith, within))

head_all : {X : Type 0} (P : X → Type 0) (x : X) (xs : List X) → All P (x ∷ xs) → P x
head_all P x xs all = all 0 x (omega arith)

-- What waited for one device is queued for it.

module _ (A : Type 0) (front back : List Device) (d : Device)
    (own : HaveOwnAddresses (settings_of (front ++ d ∷ back))) where
  abbrev with_queue : List Payload → List Device
  with_queue queue = front ++ record d { queue = queue } ∷ back

  found_with : (queue : List Payload) → device_with d.setting.addr (with_queue queue) ≡ Some (length front, record d { queue = queue })
  found_with queue =
      device_found (with_queue queue)
      (subst HaveOwnAddresses (settings_alike front back d (record d { queue = queue }) refl) own)
      (length front) (record d { queue = queue }) (get_middle front back (record d { queue = queue }))

  one_waits : (l : Life) (queue : List Payload) (q : Payload) → l.world.reg.devices ≡ with_queue queue → IsTaken q → length queue < 16
      → (after_queue A (d.setting.addr, record { port = q.0; bytes = q.1 }) l).world.reg.devices ≡ with_queue (queue ++ q ∷ [])
  one_waits l queue q so_far is room =
      let reg = l.world.reg in
      let held = record d { queue = queue } in
      ap (λ (w : World). w.reg.devices) (queued_world A (d.setting.addr, record { port = q.0; bytes = q.1 }) l)
      ∙ queued_so reg q (device_with d.setting.addr reg.devices) (length front, held)
      (ap (device_with d.setting.addr) so_far ∙ found_with queue) (no_fault held q is room)
      ∙ ap (λ ds. slice_set ds (length front) (with_payload q held)) so_far
      ∙ set_middle front back held (with_payload q held)

  all_wait : (rest queue : List Payload) (l : Life) → l.world.reg.devices ≡ with_queue queue → All IsTaken rest
      → length queue + length rest ≤ 16
      → (after_queues A (map (λ w. (d.setting.addr, w)) (flat_map waiting_of rest)) l).world.reg.devices ≡ with_queue (queue ++ rest)
  all_wait [] queue l so_far taken room = so_far ∙ ap with_queue (sym (append-nil queue))
  all_wait (q ∷ rest) queue l so_far taken room =
      let is = head_all IsTaken q rest taken in
      let w : Waiting = record { port = q.0; bytes = q.1 } in
      let m = after_queue A (d.setting.addr, w) l in
      ap (λ ws. (after_queues A (map (λ w. (d.setting.addr, w)) (ws ++ flat_map waiting_of rest)) l).world.reg.devices) (waits_as q is)
      ∙ all_wait rest (queue ++ q ∷ []) m (one_waits l queue q so_far is (omega (arith, room))) (tail_all IsTaken q rest taken)
      (omega (arith, length_push queue q, room))
      ∙ ap with_queue (append_assoc queue (q ∷ []) rest)

-- And so for all.

queues_both : (A : Type 0) (ps qs : List (ℕ × Waiting)) (l : Life) → after_queues A (ps ++ qs) l ≡ after_queues A qs (after_queues A ps l)
queues_both A [] qs l = refl
queues_both A (p ∷ ps) qs l = queues_both A ps qs (after_queue A p l)

each_waits : (A : Type 0) (front rest : List Device) (l : Life)
    → l.world.reg.devices ≡ front ++ map opened_device (map set_now rest)
    → HaveOwnAddresses (settings_of (front ++ map opened_device (map set_now rest))) → All HasQueue rest
    → (after_queues A (all_waiting rest) l).world.reg.devices ≡ front ++ map opened_so rest
each_waits A front [] l so_far own queues = so_far
each_waits A front (d ∷ rest) l so_far own queues =
    let opened = opened_device (set_now d) in
    let back = map opened_device (map set_now rest) in
    let has = head_all HasQueue d rest queues in
    let m = after_queues A (waits_for d) l in
    let there = all_wait A front back opened own d.queue [] l so_far has.taken (omega (arith, has.room)) in
    let next = there ∙ sym (append_assoc front (opened_so d ∷ []) back) in
    let alike : settings_of (front ++ opened ∷ back) ≡ settings_of ((front ++ opened_so d ∷ []) ++ back) =
    settings_alike front back opened (opened_so d) refl ∙ ap settings_of (sym (append_assoc front (opened_so d ∷ []) back)) in
    ap (λ (l : Life). l.world.reg.devices) (queues_both A (waits_for d) (all_waiting rest) l)
    ∙ each_waits A (front ++ opened_so d ∷ []) rest m next (subst HaveOwnAddresses alike own) (tail_all HasQueue d rest queues)
    ∙ append_assoc front (opened_so d ∷ []) (map opened_so rest)

pub new_desk_keeps : (A : Type 0) (l : Life) → NewDeskKeeps A l
new_desk_keeps A l =
    let ds = l.world.reg.devices in
    let m : Life = record l { world = reopened l.world; known = map renumbered l.known } in
    record {
      books = queues_books A (all_waiting ds) m;
      devices = queues_set A (all_waiting ds) m ∙ opened_set ds;
      waiting = λ own queues. each_waits A [] ds m refl (subst HaveOwnAddresses (sym (set_again ds)) own) queues;
      others = queues_others A (all_waiting ds) m;
    }
