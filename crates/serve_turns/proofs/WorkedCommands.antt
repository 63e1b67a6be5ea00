-- A line `queue` asks for just the event that it asks a run for.
use Rattle.std.proofs.Common.{◌≡◌, List, [], ◌∷◌, ℕ, Option, Some, None, refl}
use Rattle.server_core.specs.declared.event.Event.{Event}
use Rattle.run_lines.specs.RunEvents.{number_of, queue_event, queue_with as run_queue_with}
use Rattle.run_lines.specs.RunWords.{addr_word, hex_word}
use Rattle.serve_turns.specs.declared.command.Command.{Command}
use Rattle.serve_turns.specs.declared.command.Command.TheVariants.{Queue, Report}
use Rattle.serve_turns.specs.Command.{queue_command, queue_with}
use Rattle.serve_turns.specs.Control.{event_of}

-- the event that a command makes
abbrev pub event_in : {A : Type 0} → Option (Command A) → Option (Event A)
event_in None = None
event_in (Some Report) = None
event_in (Some (Queue q)) = Some (event_of q)

worded_as_in_a_run : {A : Type 0} (addr port : Option ℕ) (payload : Option (List ℕ))
    → event_in {A = A} (queue_with addr port payload) ≡ run_queue_with addr port payload
worded_as_in_a_run (Some addr) (Some port) (Some payload) = refl
worded_as_in_a_run (Some addr) (Some port) None = refl
worded_as_in_a_run (Some addr) None (Some payload) = refl
worded_as_in_a_run (Some addr) None None = refl
worded_as_in_a_run None (Some port) (Some payload) = refl
worded_as_in_a_run None (Some port) None = refl
worded_as_in_a_run None None (Some payload) = refl
worded_as_in_a_run None None None = refl

pub queued_as_in_a_run : {A : Type 0} (words : List (List ℕ)) → event_in {A = A} (queue_command words) ≡ queue_event words
queued_as_in_a_run [] = refl
queued_as_in_a_run (addr ∷ []) = refl
queued_as_in_a_run (addr ∷ port ∷ []) = refl
queued_as_in_a_run (addr ∷ port ∷ payload ∷ []) = worded_as_in_a_run (addr_word addr) (number_of 8 port) (hex_word payload)
queued_as_in_a_run (addr ∷ port ∷ payload ∷ other ∷ more) = refl
