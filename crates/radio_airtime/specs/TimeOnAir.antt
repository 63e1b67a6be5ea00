use Rattle.std.specs.Prelude.{ℕ, ◌+◌, ◌-◌, ◌*◌, ◌/◌, ◌^◌, nat_lt, if◌then◌else◌, ℤ, pos, negsuc, neg_ℤ, ◌-ℤ◌, ◌*ℤ◌}
use Rattle.std.specs.Int.{div_ceil}
use Rattle.radio_airtime.specs.declared.data_rate.DataRate.{DataRate}
use Rattle.radio_airtime.specs.DataRate.{spreading_factor_of, bandwidth_of}

-- Time on air of a LoRa frame (Semtech SX1276 datasheet, section 4.1.1.7). What LoRaWAN sends (L2 1.0.4, section 3, and
-- RP002, EU863-870) has a preamble of 8 symbols, the explicit header (IH = 0), coding rate 4/5 (CR = 1), and no CRC on a
-- downlink (CRC = 0).

-- Tsym = 2^SF / BW, in microseconds: whole at each of these rates
abbrev pub symbol_us : DataRate → ℕ
symbol_us rate = 2 ^ spreading_factor_of rate * 1000000 / bandwidth_of rate

-- DE: low data rate optimisation is on where a symbol is longer than 16 ms
abbrev pub low_data_rate_optimisation : DataRate → ℕ
low_data_rate_optimisation rate = if nat_lt 16000 (symbol_us rate) then 1 else 0

-- division upwards, to the least whole number not below n / d; `negsuc n` is -(n + 1)
abbrev pub ceil_div : ℤ → ℕ → ℤ
ceil_div (pos n) d = pos (div_ceil n d)
ceil_div (negsuc n) d = neg_ℤ (pos ((n + 1) / d))

-- max(x, 0)
abbrev pub at_least_zero : ℤ → ℕ
at_least_zero (pos n) = n
at_least_zero (negsuc n) = 0

-- the payload symbols of a PHYPayload of PL bytes:
-- 8 + max(ceil((8 PL - 4 SF + 28 + 16 CRC - 20 IH) / (4 (SF - 2 DE))) (CR + 4), 0)
abbrev pub payload_symbols : DataRate → ℕ → ℕ
payload_symbols rate len =
    let sf : ℕ = spreading_factor_of rate in
    let de : ℕ = low_data_rate_optimisation rate in
    let bits : ℤ = pos (8 * len + 28 + 16 * 0) -ℤ pos (4 * sf + 20 * 0) in
    8 + at_least_zero (ceil_div bits (4 * (sf - 2 * de)) *ℤ pos (1 + 4))

-- the preamble lasts (8 + 4.25) symbols: 4 * 8 + 17 quarters of one
abbrev pub preamble_us : DataRate → ℕ
preamble_us rate = (4 * 8 + 17) * symbol_us rate / 4

-- how long a PHYPayload of `len` bytes is on air, in microseconds
unfoldable pub airtime_of : DataRate → ℕ → ℕ
airtime_of rate len = preamble_us rate + payload_symbols rate len * symbol_us rate
