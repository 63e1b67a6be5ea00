use Rattle.std.specs.Prelude.{ℕ, ◌+◌, ◌==◌, List, [], ◌∷◌, find, Option, unwrap_or}
use Rattle.radio_airtime.specs.declared.data_rate.DataRate.{DataRate}
use Rattle.radio_airtime.specs.declared.data_rate.DataRate.TheVariants.{Dr0, Dr1, Dr2, Dr3, Dr4, Dr5, Dr6}

-- The table of data rates of EU868 (LoRaWAN Regional Parameters RP002, EU863-870).

-- the number behind "DR"
abbrev pub number_of : DataRate → ℕ
number_of Dr0 = 0
number_of Dr1 = 1
number_of Dr2 = 2
number_of Dr3 = 3
number_of Dr4 = 4
number_of Dr5 = 5
number_of Dr6 = 6

-- the data rates that this project knows
abbrev pub rates : List DataRate
rates = Dr0 ∷ Dr1 ∷ Dr2 ∷ Dr3 ∷ Dr4 ∷ Dr5 ∷ Dr6 ∷ []

-- the data rate with this number, where there is one
abbrev pub known_rate : ℕ → Option DataRate
known_rate number = find (λ rate. number_of rate == number) rates

-- the data rate with a number 0 to 6; behind them the last (RP002, EU863-870, the table of data rates)
abbrev pub rate_numbered : ℕ → DataRate
rate_numbered n = unwrap_or (known_rate n) Dr6

-- the spreading factor SF: bits in a symbol
abbrev pub spreading_factor_of : DataRate → ℕ
spreading_factor_of Dr0 = 12
spreading_factor_of Dr1 = 11
spreading_factor_of Dr2 = 10
spreading_factor_of Dr3 = 9
spreading_factor_of Dr4 = 8
spreading_factor_of Dr5 = 7
spreading_factor_of Dr6 = 7

-- the bandwidth BW in Hz
abbrev pub bandwidth_of : DataRate → ℕ
bandwidth_of Dr0 = 125000
bandwidth_of Dr1 = 125000
bandwidth_of Dr2 = 125000
bandwidth_of Dr3 = 125000
bandwidth_of Dr4 = 125000
bandwidth_of Dr5 = 125000
bandwidth_of Dr6 = 250000

-- the greatest MACPayload in bytes, of this project's profile
abbrev pub max_mac_payload_of : DataRate → ℕ
max_mac_payload_of Dr0 = 59
max_mac_payload_of Dr1 = 59
max_mac_payload_of Dr2 = 59
max_mac_payload_of Dr3 = 123
max_mac_payload_of Dr4 = 250
max_mac_payload_of Dr5 = 250
max_mac_payload_of Dr6 = 250

-- the greatest PHYPayload in bytes: MHDR (1), MACPayload and MIC (4)
-- (LoRaWAN L2 1.0.4, section 4.1, "PHY payload")
abbrev pub max_phy_of : DataRate → ℕ
max_phy_of rate = 1 + max_mac_payload_of rate + 4
