-- The types of data frames (LoRaWAN L2 1.0.4 section 4.2.1, MType).
use Rattle.std.specs.Prelude.{ℕ, Bool, if◌then◌else◌}

abbrev pub unconfirmed_up : ℕ
unconfirmed_up = 2

abbrev pub unconfirmed_down : ℕ
unconfirmed_down = 3

abbrev pub confirmed_up : ℕ
confirmed_up = 4

-- the type of an uplink
abbrev pub up_type : Bool → ℕ
up_type confirmed = if confirmed then confirmed_up else unconfirmed_up
