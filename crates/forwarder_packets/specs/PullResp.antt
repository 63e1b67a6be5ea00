use Rattle.std.specs.Prelude.{ℕ, ◌≡◌, ◌+◌, ◌/◌, ◌%◌, ◌^◌, ◌<◌, true, false, List, [], ◌∷◌, ◌++◌, length, codes, decimal, Option, Some, option_and_then, Ok}
use Rattle.std.specs.Option.{option_map}
use Rattle.std.specs.Int.{w16, to_be_bytes}
use Rattle.json.specs.Json.{Json, object, boolean, number, string, no_members, member, document}
use Rattle.base64.specs.GeneralPurpose.{encode_of, decode_of, IsBytes}
use Rattle.base64.specs.Engines.{standard, standard_pad_indifferent}
use Rattle.radio_airtime.specs.declared.data_rate.DataRate.{DataRate}
use Rattle.forwarder_packets.specs.Scaled.{scaled}
use Rattle.forwarder_packets.specs.Entry.{number_at, text_at, whole_below, frequency_of, rate_name, rate_named}

-- What hands a transmission to a packet forwarder (Semtech's UDP protocol for packet forwarders, version 2): a PULL_RESP, whose JSON
-- object has the transmission under `txpk`.

-- a transmission: the gateway's counter at which it begins, its channel in Hz, its power in dBm, its data rate and its PHYPayload
pub record Sent : Type 0 where
  pub tmst : ℕ
  pub freq_hz : ℕ
  pub power_dbm : ℕ
  pub rate : DataRate
  pub frame : List ℕ

-- the decimal digit of this weight
abbrev pub digit_at : ℕ → ℕ → ℕ
digit_at weight n = 48 + n / weight % 10

-- the last six digits of a number, of which zeros may lead
abbrev pub six_digits : ℕ → List ℕ
six_digits n = digit_at 100000 n ∷ digit_at 10000 n ∷ digit_at 1000 n ∷ digit_at 100 n ∷ digit_at 10 n ∷ digit_at 1 n ∷ []

-- Hz in MHz, with six decimals
abbrev pub megahertz : ℕ → List ℕ
megahertz freq_hz = decimal (freq_hz / 1000000) ++ 46 ∷ six_digits freq_hz

-- it goes on air at that counter, on that channel
abbrev pub timing_of : Sent → List ℕ
timing_of t = codes "{\"txpk\":{\"imme\":false,\"tmst\":" ++ decimal t.tmst ++ codes ",\"freq\":" ++ megahertz t.freq_hz

-- by the first radio, with that power, in LoRa at that data rate
abbrev pub radio_of : Sent → List ℕ
radio_of t = codes ",\"rfch\":0,\"powe\":" ++ decimal t.power_dbm ++ codes ",\"modu\":\"LORA\",\"datr\":\"" ++ rate_name t.rate

-- with inverted polarity, so many bytes, and no CRC behind them
abbrev pub frame_of : Sent → List ℕ
frame_of t = codes "\",\"codr\":\"4/5\",\"ipol\":true,\"size\":" ++ decimal (length t.frame) ++ codes ",\"ncrc\":true,\"data\":\""

-- the object up to its bytes
abbrev pub fields_of : Sent → List ℕ
fields_of t = timing_of t ++ radio_of t ++ frame_of t

-- the object's text: the bytes stand in base64, with padding
abbrev pub text_of : Sent → List ℕ
text_of t = fields_of t ++ encode_of standard t.frame ++ codes "\"}}"

-- the datagram: version 2, the token, which its TX_ACK has too, the kind 3 and the text
abbrev pub pull_resp_of : ℕ → Sent → List ℕ
pull_resp_of token t = 2 ∷ (to_be_bytes w16 token ++ 3 ∷ text_of t)

-- no more is asked for a datagram of at most 513 bytes: below 1 GHz, a power of two digits, a PHYPayload of at most 255 bytes
pub record IsShort (t : Sent) : Type 0 where
  pub tmst : t.tmst < 2 ^ 32
  pub freq_hz : t.freq_hz < 10 ^ 9
  pub power_dbm : t.power_dbm < 100
  pub frame : length t.frame < 256

-- the value under `txpk`
abbrev pub txpk_of : Sent → Json
txpk_of t = object
    (member (codes "imme") (boolean false) (member (codes "tmst") (number (decimal t.tmst))
    (member (codes "freq") (number (megahertz t.freq_hz)) (member (codes "rfch") (number (codes "0"))
    (member (codes "powe") (number (decimal t.power_dbm)) (member (codes "modu") (string (codes "LORA"))
    (member (codes "datr") (string (rate_name t.rate)) (member (codes "codr") (string (codes "4/5"))
    (member (codes "ipol") (boolean true) (member (codes "size") (number (decimal (length t.frame)))
    (member (codes "ncrc") (boolean true) (member (codes "data") (string (encode_of standard t.frame)) no_members))))))))))))

-- what numbers of a program can say
pub record IsSendable (t : Sent) : Type 0 where
  pub tmst : t.tmst < 2 ^ 32
  pub freq_hz : t.freq_hz < 2 ^ 32
  pub power_dbm : t.power_dbm < 2 ^ 8
  pub size : length t.frame < 2 ^ 32
  pub frame : IsBytes t.frame

-- the whole number that a field says
abbrev pub whole_at : List ℕ → Json → Option ℕ
whole_at name j = option_and_then (λ text. whole_below (2 ^ 32) (scaled 0 text)) (number_at name j)

-- the text is a JSON object with these fields alone, and each of them says what was asked for
pub record ReadsBack (t : Sent) : Type 0 where
  pub value : document (text_of t) ≡ Some (object (member (codes "txpk") (txpk_of t) no_members))
  pub tmst : whole_at (codes "tmst") (txpk_of t) ≡ Some t.tmst
  pub freq : option_and_then frequency_of (number_at (codes "freq") (txpk_of t)) ≡ Some t.freq_hz
  pub powe : whole_at (codes "powe") (txpk_of t) ≡ Some t.power_dbm
  pub datr : option_and_then rate_named (text_at (codes "datr") (txpk_of t)) ≡ Some t.rate
  pub size : whole_at (codes "size") (txpk_of t) ≡ Some (length t.frame)
  pub frame : option_map (decode_of standard_pad_indifferent) (text_at (codes "data") (txpk_of t)) ≡ Some (Ok t.frame)

abbrev pub PullRespsReadBack : Type 0
PullRespsReadBack = (t : Sent) → IsSendable t → ReadsBack t
