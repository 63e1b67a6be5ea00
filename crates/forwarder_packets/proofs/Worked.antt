-- Worked heads and numbers, by computation.
use Rattle.std.proofs.Common.{◌≡◌, refl, [], ◌∷◌, Some, None}
use Rattle.std.specs.Prelude.{codes, length, Ok, Err, negsuc}
use Rattle.forwarder_packets.specs.Head.{head_of, acknowledgement_of}
use Rattle.std.specs.Fmt.{digits}
use Rattle.std.specs.Prelude.{option_and_then}
use Rattle.std.specs.Option.{option_map}
use Rattle.json.specs.Json.{object, no_members, member, document}
use Rattle.base64.specs.GeneralPurpose.{decode_of}
use Rattle.base64.specs.Engines.{standard_pad_indifferent}
use Rattle.forwarder_packets.specs.declared.head.HeadFault.TheVariants.{Short, Version, Kind}
use Rattle.forwarder_packets.specs.declared.head.Kind.TheVariants.{PullData}
use Rattle.forwarder_packets.specs.Scaled.{scaled}
use Rattle.forwarder_packets.specs.Entry.{number_at, text_at, frequency_of, rate_named}
use Rattle.forwarder_packets.specs.TxAck.{failure_named, failure_of}
use Rattle.base64.proofs.OnLiterals.{base64_on_literals}
use Rattle.radio_airtime.specs.declared.data_rate.DataRate.TheVariants.{Dr5}
use Rattle.forwarder_packets.specs.PullResp.{Sent, megahertz as in_megahertz, text_of, pull_resp_of, txpk_of, whole_at, IsSendable, PullRespsReadBack}

-- PULL_DATA of a gateway, and what acknowledges it
pub pull_data : head_of (2 ∷ 0 ∷ 7 ∷ 2 ∷ 0xaa ∷ 0x55 ∷ 0x5a ∷ 0 ∷ 0 ∷ 0 ∷ 0 ∷ 2 ∷ [])
    ≡ Ok (record { token = 7; kind = PullData; eui = 0xaa ∷ 0x55 ∷ 0x5a ∷ 0 ∷ 0 ∷ 0 ∷ 0 ∷ 2 ∷ [] })
pull_data = refl

pub pull_ack : acknowledgement_of (record { token = 7; kind = PullData; eui = 0xaa ∷ 0x55 ∷ 0x5a ∷ 0 ∷ 0 ∷ 0 ∷ 0 ∷ 2 ∷ [] })
    ≡ Some (2 ∷ 0 ∷ 7 ∷ 4 ∷ [])
pull_ack = refl

-- the first fault is told
pub short_before_version : head_of (1 ∷ 0 ∷ 7 ∷ []) ≡ Err Short
short_before_version = refl

pub version_before_kind : head_of (1 ∷ 0 ∷ 7 ∷ 9 ∷ []) ≡ Err Version
version_before_kind = refl

pub kind_before_short : head_of (2 ∷ 0 ∷ 7 ∷ 3 ∷ []) ≡ Err Kind
kind_before_short = refl

pub short_of_a_known_kind : head_of (2 ∷ 0 ∷ 7 ∷ 0 ∷ 1 ∷ 2 ∷ 3 ∷ 4 ∷ 5 ∷ 6 ∷ 7 ∷ []) ≡ Err Short
short_of_a_known_kind = refl

-- numbers by their digits
pub megahertz : frequency_of (codes "868.100000") ≡ Some 868100000
megahertz = refl

pub few_places : frequency_of (codes "868.1") ≡ Some 868100000
few_places = refl

pub half_a_hertz : frequency_of (codes "868.1000005") ≡ None
half_a_hertz = refl

pub tenths : scaled 1 (codes "-5.57") ≡ Some (negsuc 54)
tenths = refl

pub no_exponent : scaled 0 (codes "1e3") ≡ None
no_exponent = refl

-- errors of a TX_ACK by their names
pub no_error : failure_named (codes "NONE") ≡ None
no_error = refl

pub too_late : failure_named (codes "TOO_LATE") ≡ Some (codes "TOO_LATE")
too_late = refl

pub no_name : failure_named (codes "too late") ≡ Some (codes "Other")
no_name = refl

pub nothing_told : failure_of [] ≡ None
nothing_told = refl

-- an acknowledgement that goes on air at 32704, on 868.1 MHz with 14 dBm at DR5, with the token 1
pub acknowledging : Sent
acknowledging = record {
  tmst = 32704;
  freq_hz = 868100000;
  power_dbm = 14;
  rate = Dr5;
  frame = 0x60 ∷ 0xda ∷ 0x1b ∷ 0x01 ∷ 0x26 ∷ 0x20 ∷ 0 ∷ 0 ∷ 0x24 ∷ 0x03 ∷ 0x47 ∷ 0xca ∷ [];
}

pub pull_resp : pull_resp_of 1 acknowledging ≡ 2 ∷ 0 ∷ 1 ∷ 3 ∷ codes "{\"txpk\":{\"imme\":false,\"tmst\":32704,\"freq\":868.100000,\"rfch\":0,\"powe\":14,\"modu\":\"LORA\",\"datr\":\"SF7BW125\",\"codr\":\"4/5\",\"ipol\":true,\"size\":12,\"ncrc\":true,\"data\":\"YNobASYgAAAkA0fK\"}}"
unfolding acknowledging digits base64_on_literals
pull_resp = refl

pub so_long : length (pull_resp_of 1 acknowledging) ≡ 182
unfolding acknowledging digits base64_on_literals
so_long = refl

-- zeros of a frequency stand
pub with_zeros : in_megahertz 869525000 ≡ codes "869.525000"
unfolding digits
with_zeros = refl

pub zeros_lead : in_megahertz 868000300 ≡ codes "868.000300"
unfolding digits
zeros_lead = refl

-- what the law says of that transmission, field by field
pub told : PullRespsReadBack → IsSendable acknowledging
    → (document (text_of acknowledging) ≡ Some (object (member (codes "txpk") (txpk_of acknowledging) no_members)))
    × (whole_at (codes "tmst") (txpk_of acknowledging) ≡ Some 32704)
    × (option_and_then frequency_of (number_at (codes "freq") (txpk_of acknowledging)) ≡ Some 868100000)
    × (whole_at (codes "powe") (txpk_of acknowledging) ≡ Some 14)
    × (option_and_then rate_named (text_at (codes "datr") (txpk_of acknowledging)) ≡ Some Dr5)
    × (whole_at (codes "size") (txpk_of acknowledging) ≡ Some 12)
    × (option_map (decode_of standard_pad_indifferent) (text_at (codes "data") (txpk_of acknowledging)) ≡ Some (Ok acknowledging.frame))
unfolding acknowledging
told law sendable =
    let read = law acknowledging sendable in
    (read.value, read.tmst, read.freq, read.powe, read.datr, read.size, read.frame)
