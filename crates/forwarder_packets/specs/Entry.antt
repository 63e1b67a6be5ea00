use Rattle.std.specs.Prelude.{ℕ, ◌^◌, ◌==◌, Bool, false, not, if◌then◌else◌, nat_lt, List, length, codes, find}
use Rattle.std.specs.Prelude.{Option, Some, None, option_and_then, Result, Ok, Err, ℤ, pos, negsuc, drop}
use Rattle.std.specs.List.{list_all}
use Rattle.std.specs.Option.{option_map}
use Rattle.std.specs.Str.{bytes_eq}
use Rattle.json.specs.Json.{Json}
use Rattle.json.specs.Find.{get, as_number, as_str}
use Rattle.base64.specs.GeneralPurpose.{decode_of}
use Rattle.base64.specs.Engines.{standard_pad_indifferent}
use Rattle.radio_airtime.specs.declared.data_rate.DataRate.{DataRate}
use Rattle.radio_airtime.specs.declared.data_rate.DataRate.TheVariants.{Dr0, Dr1, Dr2, Dr3, Dr4, Dr5, Dr6}
use Rattle.radio_airtime.specs.DataRate.{rates}
use Rattle.forwarder_packets.specs.Scaled.{scaled, fraction_of}
use Rattle.forwarder_packets.specs.declared.entry.EntryFault.{EntryFault}
use Rattle.forwarder_packets.specs.declared.entry.EntryFault.TheVariants.{Shape, Crc, Modulation, Rate, Number, Data, Size}

-- One received packet, as an entry of `rxpk` tells it (Semtech's UDP protocol for packet forwarders, version 2).

-- the texts of its fields
pub record Told : Type 0 where
  pub stat : List ℕ
  pub modu : List ℕ
  pub datr : List ℕ
  pub tmst : List ℕ
  pub freq : List ℕ
  pub lsnr : List ℕ
  pub rssi : List ℕ
  pub size : List ℕ
  pub bytes : List ℕ

abbrev pub number_at : List ℕ → Json → Option (List ℕ)
number_at name entry = option_and_then as_number (get name entry)

abbrev pub text_at : List ℕ → Json → Option (List ℕ)
text_at name entry = option_and_then as_str (get name entry)

-- the texts of an entry that has all fields, each of its kind; none of any other
abbrev pub told_of : Json → Option Told
told_of j =
    option_and_then (λ stat. option_and_then (λ modu. option_and_then (λ datr. option_and_then (λ tmst. option_and_then (λ freq.
    option_and_then (λ lsnr. option_and_then (λ rssi. option_and_then (λ size. option_map (λ bytes.
    record { stat = stat; modu = modu; datr = datr; tmst = tmst; freq = freq; lsnr = lsnr; rssi = rssi; size = size; bytes = bytes })
    (text_at (codes "data") j)) (number_at (codes "size") j)) (number_at (codes "rssi") j)) (number_at (codes "lsnr") j))
    (number_at (codes "freq") j)) (number_at (codes "tmst") j)) (text_at (codes "datr") j)) (text_at (codes "modu") j))
    (number_at (codes "stat") j)

-- the numbers of a packet
pub record Numbers : Type 0 where
  pub tmst : ℕ
  pub freq_hz : ℕ
  pub snr : ℤ
  pub rssi : ℤ
  pub size : ℕ

-- a number that is not below 0, and below a bound
abbrev pub if_below : ℕ → ℤ → Option ℕ
if_below bound (pos n) = if nat_lt n bound then Some n else None
if_below bound (negsuc n) = None

abbrev pub whole_below : ℕ → Option ℤ → Option ℕ
whole_below bound n = option_and_then (if_below bound) n

-- a number of 16 bits with a sign
abbrev pub if_signed : ℤ → Option ℤ
if_signed (pos n) = if nat_lt n 32768 then Some (pos n) else None
if_signed (negsuc n) = if nat_lt n 32768 then Some (negsuc n) else None

-- MHz with at most six places, in Hz: further digits are 0
abbrev pub is_zero_digit : ℕ → Bool
is_zero_digit c = c == 48

abbrev pub frequency_of : List ℕ → Option ℕ
frequency_of text = if list_all is_zero_digit (drop 6 (fraction_of text)) then whole_below (2 ^ 32) (scaled 6 text) else None

-- the data rate's name: spreading factor and bandwidth in kHz
abbrev pub rate_name : DataRate → List ℕ
rate_name Dr0 = codes "SF12BW125"
rate_name Dr1 = codes "SF11BW125"
rate_name Dr2 = codes "SF10BW125"
rate_name Dr3 = codes "SF9BW125"
rate_name Dr4 = codes "SF8BW125"
rate_name Dr5 = codes "SF7BW125"
rate_name Dr6 = codes "SF7BW250"

abbrev pub rate_named : List ℕ → Option DataRate
rate_named text = find (λ rate. bytes_eq (rate_name rate) text) rates

-- the five numbers, where each fits: `tmst` and `size` below 2^32, `freq` in Hz below 2^32, `lsnr` in tenths and `rssi` in 16 bits
abbrev pub numbers_of : Told → Option Numbers
numbers_of told =
    option_and_then (λ tmst. option_and_then (λ freq. option_and_then (λ snr. option_and_then (λ rssi. option_map (λ size.
    record { tmst = tmst; freq_hz = freq; snr = snr; rssi = rssi; size = size })
    (whole_below (2 ^ 32) (scaled 0 told.size))) (option_and_then if_signed (scaled 0 told.rssi)))
    (option_and_then if_signed (scaled 1 told.lsnr))) (frequency_of told.freq)) (whole_below (2 ^ 32) (scaled 0 told.tmst))

-- a packet that was received: its counter, its channel and data rate, how well it was heard, and its PHYPayload
pub record Received : Type 0 where
  pub tmst : ℕ
  pub freq_hz : ℕ
  pub rate : DataRate
  pub snr : ℤ
  pub rssi : ℤ
  pub bytes : List ℕ

abbrev pub is_one : Option ℤ → Bool
is_one (Some (pos n)) = n == 1
is_one (Some (negsuc n)) = false
is_one None = false

abbrev pub is_lora : List ℕ → Bool
is_lora text = bytes_eq text (codes "LORA")

abbrev pub with_bytes : {E : Type 0} → DataRate → Numbers → Result (List ℕ) E → Result Received EntryFault
with_bytes rate n (Err _) = Err Data
with_bytes rate n (Ok bytes) =
    if n.size == length bytes
    then Ok (record { tmst = n.tmst; freq_hz = n.freq_hz; rate = rate; snr = n.snr; rssi = n.rssi; bytes = bytes })
    else Err Size

abbrev pub with_numbers : Told → DataRate → Option Numbers → Result Received EntryFault
with_numbers told rate None = Err Number
with_numbers told rate (Some n) = with_bytes rate n (decode_of standard_pad_indifferent told.bytes)

abbrev pub with_rate : Told → Option DataRate → Result Received EntryFault
with_rate told None = Err Rate
with_rate told (Some rate) = with_numbers told rate (numbers_of told)

abbrev pub with_texts : Option Told → Result Received EntryFault
with_texts None = Err Shape
with_texts (Some told) =
    if not (is_one (scaled 0 told.stat)) then Err Crc
    else if not (is_lora told.modu) then Err Modulation
    else with_rate told (rate_named told.datr)

-- what an entry tells, or why it isn't heard: the first fault that holds
abbrev pub entry_of : Json → Result Received EntryFault
entry_of j = with_texts (told_of j)
