-- What the laws on numbers, frames and receive windows say of some: each tells a fact there, so that none is empty.
use Rattle.std.proofs.Common.{ℕ, ◌≡◌, ◌-◌, ◌%◌, ◌^◌, ◌≤◌, ◌<◌, List, [], ◌∷◌, length, Some, None, Ok, refl, arith, ap}
use Rattle.std.specs.Prelude.{true, false, decimal, ◌+◌, nat_lt, ◌||◌, if◌then◌else◌}
use Rattle.text_lines.specs.Number.{NumbersReadBack, number_below}
use Rattle.rx_windows.specs.Laws.{IsWindowOf, OnGatewaysThatHeard, OneRanking}
use Rattle.rx_windows.specs.Rank.{IsBefore}
use Rattle.rx_windows.specs.Windows.{candidates_of}
use Rattle.rx_windows.specs.declared.candidate.Candidate.{Candidate}
use Rattle.rx_windows.specs.declared.plan.Plan.{Plan}
use Rattle.uplink_gather.specs.declared.heard.HeardCopy.{HeardCopy}
use Rattle.std.specs.Prelude.{AllPairs, IsPermutation, get_or}
use Rattle.lora_frame.specs.Blocks.{crypted}
use Rattle.lora_frame.specs.Counter.{InferIsLeast, IsNextWithLow}
use Rattle.lora_frame.specs.Faults.{up_fault}
use Rattle.lora_frame.specs.Frame.{down_bytes, payload_key, up_bytes}
use Rattle.lora_frame.specs.Laws.{DeviceDecrypts, IsKeyPair, UplinkReadsBack, sent_payload, sent_record}
use Rattle.lora_frame.specs.Reading.{HasMic, uplink_of}
use Rattle.lora_frame.specs.declared.writing.UpFault.TheVariants.{Long}
use Rattle.lora_frame.specs.declared.parts.Body.{Body}
use Rattle.lora_frame.specs.declared.parts.Down.{Down}
use Rattle.lora_frame.specs.declared.parts.Keys.{Keys}
use Rattle.lora_frame.specs.declared.parts.Up.{Up}

-- Numbers: the least and the greatest of 64 bits.

none_read_back : NumbersReadBack → number_below (2 ^ 64) (decimal 0) ≡ Some 0
none_read_back law = law 0 (omega arith)

most_read_back : NumbersReadBack → number_below (2 ^ 64) (decimal (2 ^ 64 - 1)) ≡ Some (2 ^ 64 - 1)
most_read_back law = law (2 ^ 64 - 1) (omega arith)

-- Counters: behind 65,534 the low bits 2 mean 65,538; behind the greatest counter there is none with low bits 0.

next_round : InferIsLeast → IsNextWithLow 65534 2 65538
next_round law = law (Some 65534) 2 (omega arith)

first_of_all : InferIsLeast → IsNextWithLow 0 65535 65535
first_of_all law = law None 65535 (omega arith)

spent : InferIsLeast → (k : ℕ) → 2 ^ 32 - 1 ≤ k → k % 65536 ≡ 0 → 2 ^ 32 ≤ k
spent law = law (Some (2 ^ 32 - 1)) 0 (omega arith)

-- Frames under two keys of 16 bytes.

abbrev key : ℕ → List ℕ
key n = n ∷ 1 ∷ 2 ∷ 3 ∷ 4 ∷ 5 ∷ 6 ∷ 7 ∷ 8 ∷ 9 ∷ 10 ∷ 11 ∷ 12 ∷ 13 ∷ 14 ∷ 15 ∷ []

abbrev keys : Keys
keys = record { nwk = key 200; app = key 201 }

pair : IsKeyPair keys
pair = record { nwk = refl; app = refl }

module _ (body : Body) where
  abbrev down : Down
  down = record { addr = 2 ^ 32 - 1; counter = 7; ack = true; pending = false; body = Some body }

  decrypted : DeviceDecrypts → crypted (payload_key keys body.port) 1 (2 ^ 32 - 1) 7 (sent_payload (down_bytes down keys))
      ≡ body.payload.now
  decrypted law = law down keys body pair refl

-- an uplink with 15 bytes of FOpts and no payload
module _ (any : Up) (full : length any.options.now ≡ 15) where
  abbrev up : Up
  up = record any { addr = 2 ^ 32 - 1; counter = 65537; body = None }

  fits : up_fault up ≡ None
  fits = ap (λ n. if nat_lt 15 n || nat_lt 255 (12 + n + 0) then Some Long else None) full

  read_back : UplinkReadsBack → uplink_of (up_bytes up keys) ≡ Ok (sent_record up keys)
  read_back law = (law up keys pair (omega arith) (omega arith) fits).0

  has_its_mic : UplinkReadsBack → HasMic (up_bytes up keys) (key 200) 65537
  has_its_mic law = (law up keys pair (omega arith) (omega arith) fits).1

-- Copies of an uplink have one ranking, and each candidate lies on a gateway that heard one of them.

one_ranking : OneRanking → (copies a b : List HeardCopy) → IsPermutation copies a → AllPairs IsBefore a
    → IsPermutation copies b → AllPairs IsBefore b → a ≡ b
one_ranking law copies a b p e q f =
    law copies a b (record { permutation = p; each_before_later = e }) (record { permutation = q; each_before_later = f })

module _ (law : OnGatewaysThatHeard) (plan : Plan) (copy : HeardCopy) (c : Candidate) where
  candidate_at : ℕ → Candidate
  candidate_at i = get_or (candidates_of (copy ∷ []) plan) i c

  of_that_copy : (i : ℕ) → i < length (candidates_of (copy ∷ []) plan) → IsWindowOf plan (copy ∷ []) (candidate_at i)
  unfolding candidate_at
  of_that_copy i h = law plan (copy ∷ []) i c h
