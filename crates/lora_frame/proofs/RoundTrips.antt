-- Payloads are decrypted again.
use Rattle.std.proofs.Common.{◌≡◌, ℕ, zero, suc, ◌-◌, ◌*◌, ◌≤◌, Bool, true, false, Option, Some, List, [], ◌∷◌, ◌++◌, length}
use Rattle.std.proofs.Common.{take, drop, refl, ap, ◌∙◌, arith}
use Rattle.std.specs.Prelude.{bit_xor, if◌then◌else◌, ◌==◌}
use Rattle.std.specs.Int.Bits.{xor_assoc, xor_self}
use Rattle.std.proofs.lemmas.Nat.{xor_comm}
use Rattle.std.proofs.lemmas.List.{length-append, length-take-le, take_at, drop_at}
use Rattle.aes_cmac.specs.Aes.{xor_bytes, ciphertext}
use Rattle.aes_cmac.specs.Mac.{cmac}
use Rattle.aes_cmac.proofs.Lengths.{length-ciphertext, length-cmac}
use Rattle.lora_frame.specs.Blocks.{key_stream, stream_seed, crypted, block_count, mic_of, first_block}
use Rattle.lora_frame.specs.Frame.{payload_key, down_frame, down_bytes, message_of_parts, parts_of, body_bytes, header_bytes}
use Rattle.lora_frame.specs.Frame.{down_control}
use Rattle.lora_frame.specs.Laws.{IsKeyPair, sent_payload}
use Rattle.lora_frame.specs.declared.parts.Body.{Body}
use Rattle.lora_frame.specs.declared.parts.Keys.{Keys}
use Rattle.lora_frame.specs.declared.parts.Down.{Down}

-- the shorter list decides the length of two that are xored
pub length-xored : (a b : List ℕ) → length a ≤ length b → length (xor_bytes a b) ≡ length a
length-xored [] b h = refl
length-xored (x ∷ xs) [] h = absurd (omega arith)
length-xored (x ∷ xs) (y ∷ ys) h = ap suc (length-xored xs ys (omega arith))

xor_twice : (x y : ℕ) → bit_xor (bit_xor x y) y ≡ x
xor_twice x y = xor_assoc x y y ∙ ap (bit_xor x) (xor_self y) ∙ xor_comm x 0

-- what is xored twice
pub xored_twice : (a b : List ℕ) → length a ≤ length b → xor_bytes (xor_bytes a b) b ≡ a
xored_twice [] b h = refl
xored_twice (x ∷ xs) [] h = absurd (omega arith)
xored_twice (x ∷ xs) (y ∷ ys) h =
    ap (λ (n : ℕ). n ∷ xor_bytes (xor_bytes xs ys) ys) (xor_twice x y)
    ∙ ap (λ (t : List ℕ). x ∷ t) (xored_twice xs ys (omega arith))

pub length-key_stream : (key : List ℕ) (direction addr counter n : ℕ) → length key ≡ 16
    → length (key_stream key direction addr counter n) ≡ 16 * n
unfolding key_stream
length-key_stream key direction addr counter zero h = refl
length-key_stream key direction addr counter (suc n) h =
    length-append (key_stream key direction addr counter n) (ciphertext key (stream_seed direction addr counter (suc n)))
    ∙ omega (
      arith,
      length-key_stream key direction addr counter n h,
      length-ciphertext key (stream_seed direction addr counter (suc n)) h,
    )

-- the key stream is long enough
enough : (key payload : List ℕ) (direction addr counter : ℕ) → length key ≡ 16
    → length payload ≤ length (key_stream key direction addr counter (block_count (length payload)))
enough key payload direction addr counter h = omega (
  arith,
  length-key_stream key direction addr counter
      (block_count (length payload)) h,
)

pub length-crypted : (key payload : List ℕ) (direction addr counter : ℕ) → length key ≡ 16
    → length (crypted key direction addr counter payload) ≡ length payload
unfolding crypted
length-crypted key payload direction addr counter h = length-xored payload _ (enough key payload direction addr counter h)

pub crypted_twice : (key payload : List ℕ) (direction addr counter : ℕ) → length key ≡ 16
    → crypted key direction addr counter (crypted key direction addr counter payload) ≡ payload
unfolding crypted
crypted_twice key payload direction addr counter h =
    let same = length-xored payload _ (enough key payload direction addr counter h) in
    ap (λ (n : ℕ). xor_bytes (xor_bytes payload (key_stream key direction addr counter (block_count (length payload))))
    (key_stream key direction addr counter (block_count n))) same
    ∙ xored_twice payload _ (enough key payload direction addr counter h)

pub length-payload_key : (keys : Keys) (port : ℕ) → IsKeyPair keys → length (payload_key keys port) ≡ 16
length-payload_key keys port pair = by_test (port == 0)
  where
    by_test : (b : Bool) → length (if b then keys.nwk else keys.app) ≡ 16
    by_test true = pair.nwk
    by_test false = pair.app

pub length-mic : (key message : List ℕ) (direction addr counter : ℕ) → length key ≡ 16
    → length (mic_of key direction addr counter message) ≡ 4
unfolding mic_of
length-mic key message direction addr counter h =
    length-take-le 4 (cmac key (first_block direction addr counter (length message) ++ message))
    (omega (arith, length-cmac key (first_block direction addr counter (length message) ++ message) h))

-- a message without its MIC
pub front-mic : (message mic : List ℕ) → length mic ≡ 4 → take (length (message ++ mic) - 4) (message ++ mic) ≡ message
front-mic message mic h = take_at message mic (length (message ++ mic) - 4) (omega (arith, length-append message mic))

pub back-mic : (message mic : List ℕ) → length mic ≡ 4 → drop (length (message ++ mic) - 4) (message ++ mic) ≡ mic
back-mic message mic h = drop_at message mic (length (message ++ mic) - 4) (omega (arith, length-append message mic))

-- a downlink but its MIC
abbrev down_message : Down → Keys → List ℕ
down_message down keys = message_of_parts keys down.addr down.counter (down_control down) (parts_of down.body)

pub device_decrypts : (down : Down) (keys : Keys) (body : Body) → IsKeyPair keys → down.body ≡ Some body
    → crypted (payload_key keys body.port) 1 down.addr down.counter (sent_payload (down_bytes down keys)) ≡ body.payload.now
unfolding down_frame
device_decrypts down keys body pair is =
    let message : List ℕ = down_message down keys in
    let mic : List ℕ = mic_of keys.nwk 1 down.addr down.counter message in
    let front : take (length (message ++ mic) - 4) (message ++ mic) ≡ message =
    front-mic message mic (length-mic keys.nwk message 1 down.addr down.counter pair.nwk) in
    let inner : drop 9 message ≡ crypted (payload_key keys body.port) 1 down.addr down.counter body.payload.now =
    ap (λ (b : Option Body). drop 9 (header_bytes 3 down.addr (down_control down) down.counter
    ++ body_bytes keys 1 down.addr down.counter b)) is in
    ap (λ (x : List ℕ). crypted (payload_key keys body.port) 1 down.addr down.counter (drop 9 x)) front
    ∙ ap (λ (x : List ℕ). crypted (payload_key keys body.port) 1 down.addr down.counter x) inner
    ∙ crypted_twice (payload_key keys body.port) body.payload.now 1 down.addr down.counter
    (length-payload_key keys body.port pair)
