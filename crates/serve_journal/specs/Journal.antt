use Rattle.std.specs.Prelude.{ℕ, ◌==◌, Bool, nat_le, ◌||◌, is_some, if◌then◌else◌, List, [], ◌∷◌, ◌++◌, length}
use Rattle.std.specs.Prelude.{Option, Some, None}
use Rattle.std.specs.Option.{option_map}
use Rattle.std.specs.List.{list_any}
use Rattle.std.specs.Str.{bytes_eq}
use Rattle.gateway_book.specs.declared.ask.Ask.{Ask}
use Rattle.gateway_book.specs.Answer.{Rules, refusal_of}
use Rattle.gateway_book.specs.Book.{Book, state_of, terms_of, ticked}
use Rattle.gateway_book.specs.Opening.{open_fault}
use Rattle.gateway_book.specs.Step.{State, book_step}
use Rattle.serve_journal.specs.declared.entry.Entry.{Entry}
use Rattle.serve_journal.specs.declared.entry.Entry.TheVariants.{Gateway, Device, Queue, Taken, Clock, Sent}
use Rattle.serve_journal.specs.Payload.{Waiting}

-- What a journal says, and what one more entry makes of that.

-- a gateway: its number, its EUI, what its clock shows at least, and its book
pub record Mast : Type 0 where
  pub id : ℕ
  pub eui : List ℕ
  pub high : ℕ
  pub book : Book

-- a device: its address, what tells its session from others, the last uplink counter and the next downlink counter, and what
-- waits for it
pub record Node : Type 0 where
  pub addr : ℕ
  pub session : List ℕ
  pub up : Option ℕ
  pub down : ℕ
  pub queue : List Waiting

pub record Journal : Type 0 where
  pub gateways : List Mast
  pub devices : List Node

-- of a server that was never run
abbrev pub nothing : Journal
nothing = record { gateways = []; devices = [] }

-- the limits of a server
abbrev pub most_gateways : ℕ
most_gateways = 64

abbrev pub most_devices : ℕ
most_devices = 1024

abbrev pub most_queued : ℕ
most_queued = 16

-- what the clock of a gateway shows at least of which nothing else is known, in microseconds
abbrev pub first_high : ℕ
first_high = 2000000

-- the list with the first that passes a test changed, if there is one and it may be changed so
abbrev pub changed : {X : Type 0} → (X → Bool) → (X → Option X) → List X → Option (List X)
changed test change [] = None
changed test change (x ∷ xs) =
    if test x then option_map (λ y. y ∷ xs) (change x) else option_map (λ ys. x ∷ ys) (changed test change xs)

-- the empty book of a gateway
abbrev pub empty_book : ℕ → Rules → Book
empty_book id rules = record { id = id; rules = rules; floor = 0; list = []; booked = 0; cancelled = 0; retired = 0 }

-- a gateway's book once it has booked what was sent, if it accepts that
abbrev pub with_step : Book → State → Book
with_step b s = record b { floor = s.floor; list = s.list; booked = s.booked; cancelled = s.cancelled }

abbrev pub booked : Ask → Book → Option Book
booked ask b =
    if is_some (refusal_of (terms_of b) b.list ask) then None else Some (with_step b (book_step b.rules (state_of b) ask))

-- a gateway of which nothing else is known, where its cap and gap are in range
abbrev pub new_mast : ℕ → List ℕ → Rules → Option Mast
new_mast id eui rules =
    if is_some (open_fault rules) then None
    else Some (record { id = id; eui = eui; high = first_high; book = empty_book id rules })

-- a gateway joins: neither its number nor its EUI is there, and there is room
abbrev pub with_gateway : ℕ → List ℕ → Rules → Journal → Option Journal
with_gateway id eui rules j =
    if list_any (λ m. (m.id == id) || bytes_eq m.eui eui) j.gateways || nat_le most_gateways (length j.gateways) then None
    else option_map (λ m. record j { gateways = j.gateways ++ m ∷ [] }) (new_mast id eui rules)

-- a device that isn't there joins, where there is room
abbrev pub with_new_device : ℕ → List ℕ → Option ℕ → ℕ → Journal → Option Journal
with_new_device addr session up down j =
    if nat_le most_devices (length j.devices) then None
    else Some
    (record j {
      devices = j.devices ++ (record { addr = addr; session = session; up = up; down = down; queue = [] }) ∷ [];
    })

-- a device's session and counters are told
abbrev pub told : List ℕ → Option ℕ → ℕ → Node → Node
told session up down n = record n { session = session; up = up; down = down }

-- the journal with a gateway changed, or a device
abbrev pub at_gateway : ℕ → (Mast → Option Mast) → Journal → Option Journal
at_gateway id change j = option_map (λ l. record j { gateways = l }) (changed (λ m. m.id == id) change j.gateways)

abbrev pub at_device : ℕ → (Node → Option Node) → Journal → Option Journal
at_device addr change j = option_map (λ l. record j { devices = l }) (changed (λ n. n.addr == addr) change j.devices)

-- a device's counters are told: it joins where it isn't there
abbrev pub with_device : ℕ → List ℕ → Option ℕ → ℕ → Journal → Option Journal
with_device addr session up down j =
    if list_any (λ n. n.addr == addr) j.devices then at_device addr (λ n. Some (told session up down n)) j
    else with_new_device addr session up down j

-- a payload waits behind the others, if there is room
abbrev pub queued : Waiting → Node → Option Node
queued payload n = if nat_le most_queued (length n.queue) then None else Some (record n { queue = n.queue ++ payload ∷ [] })

-- the first payload no longer waits
abbrev pub without_head : List Waiting → Node → Option Node
without_head [] n = None
without_head (payload ∷ more) n = Some (record n { queue = more })

-- the clock and the floor of a gateway are told
abbrev pub clocked : ℕ → ℕ → Mast → Mast
clocked high floor m = record m { high = high; book = ticked m.book floor }

-- a gateway's book books what was sent
abbrev pub sent : Ask → Mast → Option Mast
sent ask m = option_map (λ b. record m { book = b }) (booked ask m.book)

-- what a line makes of what those before it said; None where it is at fault
abbrev pub after_entry : Journal → Entry → Option Journal
after_entry j (Gateway id eui cap gap) = with_gateway id eui (record { cap = cap; gap = gap }) j
after_entry j (Device addr session up down) = with_device addr session up down j
after_entry j (Queue addr payload) = at_device addr (queued payload) j
after_entry j (Taken addr) = at_device addr (λ n. without_head n.queue n) j
after_entry j (Clock id high floor) = at_gateway id (λ m. Some (clocked high floor m)) j
after_entry j (Sent id start freq_hz rate len) =
    at_gateway id (sent (record { number = 0; start = start; freq_hz = freq_hz; rate = rate; len = len })) j
