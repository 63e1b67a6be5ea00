use Rattle.std.specs.Prelude.{ℕ, ◌^◌, Bool, nat_lt, if◌then◌else◌, Option, Some, None}
use Rattle.std.specs.List.{list_any}
use Rattle.serve_journal.specs.Journal.{Journal, Mast, Node}
use Rattle.serve_opening.specs.declared.fault.OpeningFault.{OpeningFault}
use Rattle.serve_opening.specs.declared.fault.OpeningFault.TheVariants.{Clock, Counter}

-- What a server doesn't open with.

-- the greatest moment of a gateway's clock, in microseconds
abbrev pub most_high : ℕ
most_high = 2 ^ 60

-- the greatest next downlink counter
abbrev pub most_down : ℕ
most_down = 2 ^ 32

-- the clock of a gateway shows more
abbrev pub is_late : Mast → Bool
is_late m = nat_lt most_high m.high

-- the next downlink counter of a device is above
abbrev pub is_overspent : Node → Bool
is_overspent n = nat_lt most_down n.down

-- why no server opens with what the journal says, if there is a reason
abbrev pub opening_fault : Journal → Option OpeningFault
opening_fault j =
    if list_any is_late j.gateways then Some Clock else (if list_any is_overspent j.devices then Some Counter else None)
