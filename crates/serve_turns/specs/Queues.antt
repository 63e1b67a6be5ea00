use Rattle.std.specs.Prelude.{ℕ, List, [], ◌∷◌}
use Rattle.serve_journal.specs.Payload.{Waiting}
use Rattle.server_core.specs.declared.event.Event.{Event}
use Rattle.server_core.specs.declared.event.Event.TheVariants.{Queue}
use Rattle.serve_turns.specs.Life.{Life, doing}

-- Payloads that wait are queued anew, and nothing is told of it.

-- that a payload is queued for the device with an address
abbrev pub queue_event : {A : Type 0} → ℕ × Waiting → Event A
queue_event q = Queue q.0 q.1.port q.1.bytes

abbrev pub after_queue : (A : Type 0) → ℕ × Waiting → Life → Life
after_queue A q l = doing {A = A} (queue_event q) l

-- one after another
abbrev pub after_queues : (A : Type 0) → List (ℕ × Waiting) → Life → Life
after_queues A [] l = l
after_queues A (q ∷ qs) l = after_queues A qs (after_queue A q l)
