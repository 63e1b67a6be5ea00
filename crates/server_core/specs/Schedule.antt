use Rattle.std.specs.Prelude.{ℕ, ◌+◌, Bool, true, false, if◌then◌else◌, List, [], ◌∷◌, ◌++◌, map, is_none, Option, Some, None, Ok}
use Rattle.std.specs.Option.{option_map_or}
use Rattle.gateway_book.specs.Answer.{refusal_of}
use Rattle.uplink_gather.specs.Gatherings.{Gathering, is_due}
use Rattle.rx_windows.specs.declared.candidate.Candidate.{Candidate}
use Rattle.answer_ticket.specs.Job.{Job, candidates, ask_for}
use Rattle.server_core.specs.declared.event.Event.{Event}
use Rattle.server_core.specs.declared.event.Event.TheVariants as events
use Rattle.server_core.specs.declared.event.Step.{Step as Made}
use Rattle.server_core.specs.declared.event.Step.TheVariants as made
use Rattle.server_desk.specs.Settings.{SettingLists}
use Rattle.server_desk.specs.World.{World, Gateway, gateway_with, opening}
use Rattle.server_desk.specs.UsualLimits.{usual_limits}
use Rattle.server_core.specs.Steps.{Step, Queue, Hear, Pass, Take, Settle, Try, Cancel, Tick, Reply, Given, terms, step, run_from}

-- The steps that one thread makes of events, after this project's profile: all gatherings that are due are closed one by
-- one, the least number first, and each is answered before the next is closed.

-- the world after these steps
abbrev pub reached : World → List Step → World
reached w steps = (run_from w steps).world

-- the numbers of the gatherings that are due, least first, where the first on the list has the number n
abbrev pub due_from : ℕ → ℕ → List Gathering → List ℕ
due_from n now [] = []
due_from n now (g ∷ gs) = if is_due now g then n ∷ due_from (n + 1) now gs else due_from (n + 1) now gs

abbrev pub due_numbers : ℕ → List Gathering → List ℕ
due_numbers now l = due_from 1 now l

-- the members up to the first that passes a test, and it too; all, where none does
abbrev pub up_to_first : {X : Type 0} → (X → Bool) → List X → List X
up_to_first test [] = []
up_to_first test (x ∷ xs) = x ∷ (if test x then [] else up_to_first test xs)

-- whether a gateway's book would accept an ask
abbrev pub accepts : Job → Candidate → Gateway → Bool
accepts job c g = is_none (refusal_of (terms g) g.state.list (ask_for job c))

-- whether its gateway accepts a candidate
abbrev pub is_accepted : World → Job → Candidate → Bool
is_accepted w job c = option_map_or (λ found. accepts job c found.1) (gateway_with c.gateway w.gateways) false

-- a ticket is tried until it is booked, or to its last candidate, and then settled
abbrev pub given_steps : World → ℕ → Reply → List Step
given_steps w n (Given (Ok job)) = map (λ c. Try n) (up_to_first (is_accepted w job) (candidates job)) ++ Settle n ∷ []
given_steps w n reply = []

-- an uplink is answered, if a ticket is given for it
abbrev pub answer_steps : World → ℕ → List Step
answer_steps w n = Take n ∷ given_steps (step w (Take n)).0 n (step w (Take n)).1

-- a gathering is closed, and answered
abbrev pub closing_steps : World → ℕ → ℕ → List Step
closing_steps w now n = Pass now ∷ answer_steps (step w (Pass now)).0 n

-- these gatherings are, one after another, until none is due
unfoldable pub pass_steps : World → ℕ → List ℕ → List Step
pass_steps w now [] = Pass now ∷ []
pass_steps w now (n ∷ ns) = closing_steps w now n ++ pass_steps (reached w (closing_steps w now n)) now ns

-- the steps of one event
unfoldable pub event_steps : {A : Type 0} → World → Event A → List Step
event_steps w (events.Queue addr port payload) = Queue addr (port, payload) ∷ []
event_steps w (events.Hear bytes heard arrived) = Hear bytes heard arrived ∷ []
event_steps w (events.Pass now) = pass_steps w now (due_numbers now w.reg.gathered.list)
event_steps w (events.Tick gateway now) = Tick gateway now ∷ []
event_steps w (events.Cancel number) = Cancel number ∷ []
event_steps w (events.Bad line) = []

-- the steps of these events, one after another
unfoldable pub schedule_from : {A : Type 0} → World → List (Event A) → List Step
schedule_from w [] = []
schedule_from w (e ∷ es) = event_steps w e ++ schedule_from (reached w (event_steps w e)) es

-- the steps of these events at a server with these settings that has heard nothing
abbrev pub schedule : {A : Type 0} → SettingLists → List (Event A) → List Step
schedule settings es = schedule_from (opening settings usual_limits) es

-- a step as a program has it
abbrev pub step_of : {A : Type 0} → Made A → Step
step_of (made.Queue addr port payload) = Queue addr (port, payload)
step_of (made.Hear bytes heard arrived) = Hear bytes heard arrived
step_of (made.Pass now) = Pass now
step_of (made.Take number) = Take number
step_of (made.Settle number) = Settle number
step_of (made.Try number) = Try number
step_of (made.Cancel number) = Cancel number
step_of (made.Tick gateway now) = Tick gateway now
