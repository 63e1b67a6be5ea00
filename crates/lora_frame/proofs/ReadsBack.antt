-- What a device writes is read back.
use Rattle.std.proofs.Common.{◌≡◌, ℕ, ◌+◌, ◌-◌, ◌*◌, ◌/◌, ◌%◌, ◌^◌, ◌<◌, ◌≤◌, Bool, true, false, nat_lt, Option, Some, None, List}
use Rattle.std.proofs.Common.{[], ◌∷◌, ◌++◌, length, take, drop, get_or, refl, ap, sym, ◌∙◌, arith}
use Rattle.std.specs.Prelude.{Ok, option_map, is_some, if◌then◌else◌, ◌==◌, ◌||◌, slice_index}
use Rattle.std.specs.Int.{w16, from_le_bytes}
use Rattle.std.proofs.lemmas.Bool.{ltb-false}
use Rattle.std.proofs.lemmas.Bool.Decides.{nat_tests}
use Rattle.std.proofs.lemmas.Nat.{from_le_bytes-to_le_bytes_2, from_le_bytes-to_le_bytes_4}
use Rattle.std.proofs.lemmas.List.{length-append, get_or_append_left, get_or_at}
use Rattle.lora_frame.specs.Blocks.{crypted, mic_of}
use Rattle.lora_frame.specs.Frame.{bit_worth, body_len, body_bytes, header_bytes, payload_key, up_bytes, up_message}
use Rattle.lora_frame.specs.Faults.{up_fault, has_high_port}
use Rattle.lora_frame.specs.Laws.{IsKeyPair, sent_record}
use Rattle.lora_frame.specs.Types.{unconfirmed_up, confirmed_up, up_type}
use Rattle.lora_frame.specs.Reading.{uplink_of, HasMic, frame_type, addr_of, control_of, control_bit, options_end, mic_place}
use Rattle.lora_frame.specs.Reading.{has_port}
use Rattle.lora_frame.specs.declared.parts.Body.{Body}
use Rattle.lora_frame.specs.declared.parts.Keys.{Keys}
use Rattle.lora_frame.specs.declared.parts.Up.{Up}
use Rattle.lora_frame.proofs.RoundTrips.{length-crypted, length-payload_key, length-mic, front-mic, back-mic}

-- an uplink without fault, field by field
uplink_of-ok : (bytes : List ℕ) (confirmed adr req ack : Bool) (addr low n place : ℕ) (port : Option ℕ) (mic : List ℕ)
    → 12 ≤ length bytes → length bytes ≤ 255 → (frame_type bytes == unconfirmed_up || frame_type bytes == confirmed_up) ≡ true
    → (slice_index bytes 0 % 4 == 0) ≡ true
    → options_end bytes ≤ mic_place bytes → (frame_type bytes == confirmed_up) ≡ confirmed → addr_of bytes ≡ addr
    → control_bit bytes 128 ≡ adr → control_bit bytes 64 ≡ req → control_bit bytes 32 ≡ ack
    → from_le_bytes w16 (take 2 (drop 6 bytes)) ≡ low → control_of bytes % 16 ≡ n
    → (if has_port bytes then Some (slice_index bytes (options_end bytes)) else None) ≡ port
    → (if has_port bytes then options_end bytes + 1 else mic_place bytes) ≡ place → drop (mic_place bytes) bytes ≡ mic
    → uplink_of bytes ≡ Ok (record {
      confirmed = confirmed;
      addr = addr;
      adr = adr;
      adr_ack_req = req;
      ack = ack;
      low = low;
      opts_len = n;
      port = port;
      payload_at = place;
      mic = mic;
    })
uplink_of-ok bytes confirmed adr req ack addr low n place port mic long short kind major within ec ea ed er ek el en ep et em =
    let t1 : nat_lt (length bytes) 12 ≡ false = grind (arith, nat_tests) in
    let t2 : nat_lt 255 (length bytes) ≡ false = grind (arith, nat_tests) in
    let t3 : nat_lt (mic_place bytes) (options_end bytes) ≡ false = grind (arith, nat_tests) in
    rw (t1, t2, kind, major, t3, ← ec, ← ea, ← ed, ← er, ← ek, ← el, ← en, ← ep, ← et, ← em) refl

-- MHDR says whether the uplink is confirmed, and that it is a data uplink
type_is : (b : Bool) → (32 * up_type b / 32 == confirmed_up) ≡ b
type_is true = refl
type_is false = refl

type_fits : (b : Bool) → ((32 * up_type b / 32 == unconfirmed_up) || (32 * up_type b / 32 == confirmed_up)) ≡ true
type_fits true = refl
type_fits false = refl

major_is : (b : Bool) → (32 * up_type b % 4 == 0) ≡ true
major_is true = refl
major_is false = refl

bit_is : (x : ℕ) (b : Bool) → x ≡ bit_worth b 1 → (x == 1) ≡ b
bit_is x true e = rw e refl
bit_is x false e = rw e refl

-- the bits of FCtrl
control_bits : (a b k : Bool) (n c : ℕ) → n ≤ 15 → c ≡ bit_worth a 0x80 + bit_worth b 0x40 + bit_worth k 0x20 + n
    → (c / 128 % 2 ≡ bit_worth a 1) × (c / 64 % 2 ≡ bit_worth b 1) × (c / 32 % 2 ≡ bit_worth k 1) × (c % 16 ≡ n)
control_bits true true true n c h e = (omega arith, omega arith, omega arith, omega arith)
control_bits true true false n c h e = (omega arith, omega arith, omega arith, omega arith)
control_bits true false true n c h e = (omega arith, omega arith, omega arith, omega arith)
control_bits true false false n c h e = (omega arith, omega arith, omega arith, omega arith)
control_bits false true true n c h e = (omega arith, omega arith, omega arith, omega arith)
control_bits false true false n c h e = (omega arith, omega arith, omega arith, omega arith)
control_bits false false true n c h e = (omega arith, omega arith, omega arith, omega arith)
control_bits false false false n c h e = (omega arith, omega arith, omega arith, omega arith)

length-body_bytes : (body : Option Body) (keys : Keys) (direction addr counter : ℕ) → IsKeyPair keys
    → length (body_bytes keys direction addr counter body) ≡ body_len body
length-body_bytes None keys direction addr counter pair = refl
length-body_bytes (Some body) keys direction addr counter pair =
    let same = length-crypted (payload_key keys body.port) body.payload.now direction addr counter
    (length-payload_key keys body.port pair) in
    omega arith

port_none : (bytes : List ℕ) (m x : ℕ) → length bytes - 4 ≡ m
    → ((if nat_lt m (length bytes - 4) then Some x else None) ≡ None)
    × ((if nat_lt m (length bytes - 4) then m + 1 else length bytes - 4) ≡ m + 0)
port_none bytes m x h =
    let test : nat_lt m (length bytes - 4) ≡ false = grind (arith, nat_tests) in (rw test refl, rw test (omega arith))

port_some : (bytes : List ℕ) (m x : ℕ) → m < length bytes - 4
    → ((if nat_lt m (length bytes - 4) then Some x else None) ≡ Some x)
    × ((if nat_lt m (length bytes - 4) then m + 1 else length bytes - 4) ≡ m + 1)
port_some bytes m x h =
    let test : nat_lt m (length bytes - 4) ≡ true = grind (arith, nat_tests) in (rw test refl, rw test refl)

-- FPort and the place of the payload, after a front of m bytes
port_and_place : (body : Option Body) (keys : Keys) (direction addr counter m : ℕ) (front mic : List ℕ) → length front ≡ m
    → length mic ≡ 4
    → ((if nat_lt m (length ((front ++ body_bytes keys direction addr counter body) ++ mic) - 4)
    then Some (get_or ((front ++ body_bytes keys direction addr counter body) ++ mic) m 0) else None)
    ≡ option_map (λ b. b.port) body)
    × ((if nat_lt m (length ((front ++ body_bytes keys direction addr counter body) ++ mic) - 4) then m + 1
    else length ((front ++ body_bytes keys direction addr counter body) ++ mic) - 4) ≡ m + (if is_some body then 1 else 0))
port_and_place None keys direction addr counter m front mic at four =
    let none : List ℕ = [] in
    port_none ((front ++ none) ++ mic) m _ (omega (arith, length-append (front ++ none) mic, length-append front none))
port_and_place (Some body) keys direction addr counter m front mic at four =
    let text : List ℕ = crypted (payload_key keys body.port) direction addr counter body.payload.now in
    let whole : List ℕ = front ++ body.port ∷ text in
    let len = length-append front (body.port ∷ text) in
    let found : get_or (whole ++ mic) m 0 ≡ body.port = get_or_append_left whole mic 0 m (omega arith)
    ∙ get_or_at front body.port text 0 m at in
    let both = port_some (whole ++ mic) m (get_or (whole ++ mic) m 0) (omega (arith, length-append whole mic)) in
    (both.0 ∙ ap (λ (n : ℕ). Some n) found, both.1)

-- what up_fault rules out where it finds nothing
no_fault : {X : Type 0} (a b c : Bool) (x y : X) → (if a then Some x else if b || c then Some y else None) ≡ None
    → (a ≡ false) × (b ≡ false) × (c ≡ false)
no_fault true b c x y h = absurd cc
no_fault false true c x y h = absurd cc
no_fault false false true x y h = absurd cc
no_fault false false false x y h = (refl, refl, refl)

-- the frame of an uplink's fields is read back
fields_read_back : (confirmed adr req ack : Bool) (addr counter : ℕ) (o : List ℕ) (body : Option Body) (keys : Keys) (c : ℕ)
    (message mic : List ℕ)
    → IsKeyPair keys → addr < 2 ^ 32 → length o ≤ 15 → 12 + length o + body_len body ≤ 255
    → c ≡ bit_worth adr 0x80 + bit_worth req 0x40 + bit_worth ack 0x20 + length o
    → message ≡ header_bytes (up_type confirmed) addr c counter ++ o ++ body_bytes keys 0 addr counter body
    → length mic ≡ 4
    → uplink_of (message ++ mic) ≡ Ok (record {
      confirmed = confirmed;
      addr = addr;
      adr = adr;
      adr_ack_req = req;
      ack = ack;
      low = counter % 65536;
      opts_len = length o;
      port = option_map (λ b. b.port) body;
      payload_at = 8 + length o + (if is_some body then 1 else 0);
      mic = mic;
    })
fields_read_back confirmed adr req ack addr counter o body keys c message mic pair fits short room ec em four =
    let head : List ℕ = header_bytes (up_type confirmed) addr c counter in
    let front : List ℕ = head ++ o in
    let rest : List ℕ = body_bytes keys 0 addr counter body in
    let eight : length head ≡ 8 = refl in
    let at : length front ≡ 8 + length o = length-append head o ∙ omega arith in
    let size : length ((front ++ rest) ++ mic) ≡ 12 + length o + body_len body =
    omega (arith, length-append (front ++ rest) mic, length-append front rest, length-body_bytes body keys 0 addr counter pair) in
    let bits = control_bits adr req ack (length o) c short ec in
    let place = port_and_place body keys 0 addr counter (8 + length o) front mic at four in
    rw em
    (uplink_of-ok ((front ++ rest) ++ mic) confirmed adr req ack addr (counter % 65536) (length o)
    (8 + length o + (if is_some body then 1 else 0))
    (option_map (λ b. b.port) body) mic (omega arith) (omega arith) (type_fits confirmed) (major_is confirmed)
    (omega (arith, bits.3)) (type_is confirmed)
    (from_le_bytes-to_le_bytes_4 addr fits) (bit_is _ adr bits.0) (bit_is _ req bits.1) (bit_is _ ack bits.2)
    (from_le_bytes-to_le_bytes_2 (counter % 65536) (omega arith)) bits.3 (rw bits.3 place.0) (rw bits.3 place.1)
    (back-mic (front ++ rest) mic four))

has_mic : (message mic key : List ℕ) (addr counter : ℕ) → mic ≡ mic_of key 0 addr counter message → length mic ≡ 4
    → addr_of (message ++ mic) ≡ addr → HasMic (message ++ mic) key counter
has_mic message mic key addr counter is four same =
    back-mic message mic four ∙ is ∙ ap (λ (a : ℕ). mic_of key 0 a counter message) (sym same)
    ∙ ap (λ (m : List ℕ). mic_of key 0 (addr_of (message ++ mic)) counter m) (sym (front-mic message mic four))

pub uplink_reads_back : (up : Up) (keys : Keys) → IsKeyPair keys → up.addr < 2 ^ 32 → up.counter < 2 ^ 32 → up_fault up ≡ None
    → (uplink_of (up_bytes up keys) ≡ Ok (sent_record up keys)) × HasMic (up_bytes up keys) keys.nwk up.counter
unfolding up_bytes
uplink_reads_back up keys pair fits counted none =
    let message : List ℕ = up_message up keys in
    let mic : List ℕ = mic_of keys.nwk 0 up.addr up.counter message in
    let four : length mic ≡ 4 = length-mic keys.nwk message 0 up.addr up.counter pair.nwk in
    let fine = no_fault (has_high_port up.body) (nat_lt 15 (length up.options.now))
    (nat_lt 255 (12 + length up.options.now + body_len up.body)) _ _ none in (
      fields_read_back up.confirmed up.adr up.adr_ack_req up.ack up.addr up.counter up.options.now up.body keys _ message mic pair
          fits
          (ltb-false _ _ fine.1) (ltb-false _ _ fine.2) refl refl four,
      has_mic message mic keys.nwk up.addr up.counter refl four (from_le_bytes-to_le_bytes_4 up.addr fits),
    )
