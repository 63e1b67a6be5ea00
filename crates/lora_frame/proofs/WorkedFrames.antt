-- What the laws on counters and frames say of worked ones; then what they say of every counter and every frame.
use Rattle.std.proofs.Common.{ℕ, ◌≡◌, ◌+◌, ◌-◌, ◌%◌, ◌<◌, ◌≤◌, List, [], ◌∷◌, length, take, drop, Option, Some, None, Ok}
use Rattle.std.proofs.Common.{MatchOption, ap, arith, refl, subst}
use Rattle.std.specs.Prelude.{false, true, ◌==◌, ◌||◌, if◌then◌else◌, is_some, nat_lt, option_map, unwrap_or}
use Rattle.lora_frame.specs.Blocks.{crypted, mic_of}
use Rattle.lora_frame.specs.Counter.{InferIsLeast, IsNextWithLow, inferred_counter}
use Rattle.lora_frame.specs.Faults.{up_fault}
use Rattle.lora_frame.specs.Frame.{down_bytes, up_bytes, up_message}
use Rattle.lora_frame.specs.Laws.{DeviceDecrypts, UplinkReadsBack, sent_payload, sent_record}
use Rattle.lora_frame.specs.Reading.{HasMic, addr_of, uplink_of}
use Rattle.lora_frame.specs.declared.writing.UpFault.TheVariants.{Long}
use Rattle.lora_frame.specs.declared.parts.Body.{Body}
use Rattle.lora_frame.specs.declared.parts.Down.{Down}
use Rattle.lora_frame.specs.declared.parts.Keys.{Keys}
use Rattle.lora_frame.specs.declared.parts.Up.{Up}

-- Counters.

-- behind 65,534 the low bits 2 mean 65,538
pub next_round : InferIsLeast → (65538 % 65536 ≡ 2) × (65534 ≤ 65538) × ((k : ℕ) → 65534 ≤ k → k % 65536 ≡ 2 → 65538 ≤ k)
next_round law = let h = law (Some 65534) 2 (omega arith) in (h.same_low, h.not_below, h.least)

-- the last one again
pub repeated : InferIsLeast → (k : ℕ) → 65538 ≤ k → k % 65536 ≡ 2 → 65538 ≤ k
repeated law = (law (Some 65538) 2 (omega arith)).least

pub first_of_all : InferIsLeast → (k : ℕ) → 0 ≤ k → k % 65536 ≡ 65535 → 65535 ≤ k
first_of_all law = (law None 65535 (omega arith)).least

-- behind the greatest counter there is none with the low bits 0
pub spent : InferIsLeast → (k : ℕ) → 4294967295 ≤ k → k % 65536 ≡ 0 → 4294967296 ≤ k
spent law = law (Some 4294967295) 0 (omega arith)

module _ (law : InferIsLeast) (last : Option ℕ) (low : ℕ) (bits : low < 65536) where
  abbrev AreAbove : Type 0
  AreAbove = (k : ℕ) → unwrap_or last 0 ≤ k → k % 65536 ≡ low → 4294967296 ≤ k

  abbrev IsNext : ℕ → Type 0
  IsNext next =
      (next % 65536 ≡ low) × (unwrap_or last 0 ≤ next) × ((k : ℕ) → unwrap_or last 0 ≤ k → k % 65536 ≡ low → next ≤ k)

  abbrev answer_by : Option ℕ → Type 0
  answer_by o = MatchOption o AreAbove (IsNextWithLow (unwrap_or last 0) low)

  pub each_inferred_is_next : (next : ℕ) → inferred_counter last low ≡ Some next → IsNext next
  each_inferred_is_next next e =
      let h : IsNextWithLow (unwrap_or last 0) low next = subst answer_by e (law last low bits) in
      (h.same_low, h.not_below, h.least)

  pub each_that_has_no_next_is_spent : inferred_counter last low ≡ None → AreAbove
  each_that_has_no_next_is_spent e = subst answer_by e (law last low bits)

-- Frames under two keys of 16 bytes.

abbrev key : ℕ → List ℕ
key n = n ∷ 1 ∷ 2 ∷ 3 ∷ 4 ∷ 5 ∷ 6 ∷ 7 ∷ 8 ∷ 9 ∷ 10 ∷ 11 ∷ 12 ∷ 13 ∷ 14 ∷ 15 ∷ []

abbrev keys : Keys
keys = record { nwk = key 200; app = key 201 }

-- whatever is sent to the greatest address
module _ (body : Body) where
  abbrev down : Down
  down = record { addr = 4294967295; counter = 4294967295; ack = true; pending = false; body = Some body }

  pub decrypted : DeviceDecrypts
      → crypted (if body.port == 0 then key 200 else key 201) 1 4294967295 4294967295 (sent_payload (down_bytes down keys))
      ≡ body.payload.now
  decrypted law = law down keys body (record { nwk = refl; app = refl }) refl

-- an uplink with 15 bytes of FOpts and no payload
module _ (any : Up) (full : length any.options.now ≡ 15) (law : UplinkReadsBack) where
  abbrev up : Up
  up = record any { addr = 4294967295; counter = 65537; body = None }

  fits : up_fault up ≡ None
  fits = ap (λ n. if nat_lt 15 n || nat_lt 255 (12 + n + 0) then Some Long else None) full

  pub read_back : uplink_of (up_bytes up keys) ≡ Ok (sent_record up keys)
  read_back = (law up keys (record { nwk = refl; app = refl }) (omega arith) (omega arith) fits).0

  pub has_its_mic : HasMic (up_bytes up keys) (key 200) 65537
  has_its_mic = (law up keys (record { nwk = refl; app = refl }) (omega arith) (omega arith) fits).1

-- Of every frame, under whatever keys of 16 bytes.
module _ (keys : Keys) (nwk : length keys.nwk ≡ 16) (app : length keys.app ≡ 16) where
  module _ (down : Down) (body : Body) where
    abbrev frame : List ℕ
    frame = down_bytes down keys

    pub each_payload_is_decrypted : DeviceDecrypts → down.body ≡ Some body
        → crypted (if body.port == 0 then keys.nwk else keys.app) 1 down.addr down.counter (drop 9 (take (length frame - 4) frame))
        ≡ body.payload.now
    each_payload_is_decrypted law is = law down keys body (record { nwk = nwk; app = app }) is

  module _ (up : Up) (addr : up.addr < 4294967296) (counter : up.counter < 4294967296) where
    abbrev sent : List ℕ
    sent = up_bytes up keys

    pub each_is_read_back : UplinkReadsBack → up_fault up ≡ None → uplink_of sent ≡ Ok (record {
      confirmed = up.confirmed;
      addr = up.addr;
      adr = up.adr;
      adr_ack_req = up.adr_ack_req;
      ack = up.ack;
      low = up.counter % 65536;
      opts_len = length up.options.now;
      port = option_map (λ body. body.port) up.body;
      payload_at = 8 + length up.options.now + (if is_some up.body then 1 else 0);
      mic = mic_of keys.nwk 0 up.addr up.counter (up_message up keys);
    })
    each_is_read_back law fine = (law up keys (record { nwk = nwk; app = app }) addr counter fine).0

    pub each_has_its_mic : UplinkReadsBack → up_fault up ≡ None
        → drop (length sent - 4) sent ≡ mic_of keys.nwk 0 (addr_of sent) up.counter (take (length sent - 4) sent)
    each_has_its_mic law fine = (law up keys (record { nwk = nwk; app = app }) addr counter fine).1
