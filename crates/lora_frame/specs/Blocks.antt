-- The encryption of FRMPayload and the MIC (LoRaWAN L2 1.0.4 sections 4.3.3 and 4.4). A direction is 0 for
-- an uplink and 1 for a downlink; numbers are written least byte first.
use Rattle.std.specs.Prelude.{ℕ, zero, suc, ◌+◌, ◌/◌, List, [], ◌∷◌, ◌++◌, length, take, replicate}
use Rattle.std.specs.Int.{w32, to_le_bytes}
use Rattle.aes_cmac.specs.Aes.{xor_bytes, ciphertext}
use Rattle.aes_cmac.specs.Mac.{cmac}

-- A with number i: what is encrypted to give the i-th block of the key stream (section 4.3.3)
abbrev pub stream_seed : ℕ → ℕ → ℕ → ℕ → List ℕ
stream_seed direction addr counter i =
    0x01 ∷ replicate 4 0 ++ direction ∷ to_le_bytes w32 addr ++ to_le_bytes w32 counter ++ 0 ∷ i ∷ []

-- the first n blocks of the key stream: S 1, .., S n (section 4.3.3)
unfoldable pub key_stream : List ℕ → ℕ → ℕ → ℕ → ℕ → List ℕ
key_stream key direction addr counter zero = []
key_stream key direction addr counter (suc n) =
    key_stream key direction addr counter n ++ ciphertext key (stream_seed direction addr counter (suc n))

-- how many blocks a text of n bytes needs
abbrev pub block_count : ℕ → ℕ
block_count n = (n + 15) / 16

-- the payload with the key stream added to it: encryption and decryption alike (section 4.3.3)
unfoldable pub crypted : List ℕ → ℕ → ℕ → ℕ → List ℕ → List ℕ
crypted key direction addr counter payload =
    xor_bytes payload (key_stream key direction addr counter (block_count (length payload)))

-- B0, for a message of n bytes (section 4.4)
abbrev pub first_block : ℕ → ℕ → ℕ → ℕ → List ℕ
first_block direction addr counter n =
    0x49 ∷ replicate 4 0 ++ direction ∷ to_le_bytes w32 addr ++ to_le_bytes w32 counter ++ 0 ∷ n ∷ []

-- the MIC of a message, which is all of a frame but the MIC (section 4.4)
unfoldable pub mic_of : List ℕ → ℕ → ℕ → ℕ → List ℕ → List ℕ
mic_of key direction addr counter message =
    take 4 (cmac key (first_block direction addr counter (length message) ++ message))
