-- The frame of an answer has as many bytes as its candidate says, so its time on air is that of its reservation.
use Rattle.std.proofs.Common.{◌≡◌, ◌∙◌, ◌+◌, ℕ, Bool, true, false, Option, Some, None, ap, arith, inl, inr, refl, sym}
use Rattle.std.specs.Prelude.{length, if◌then◌else◌}
use Rattle.std.specs.Option.{option_map}
use Rattle.std.proofs.lemmas.List.{length-append}
use Rattle.radio_airtime.specs.declared.data_rate.DataRate.{DataRate}
use Rattle.lora_frame.specs.Frame.{control_bits, down_frame, message_of_parts, parts_bytes, payload_key}
use Rattle.lora_frame.specs.Blocks.{mic_of}
use Rattle.lora_frame.specs.Laws.{IsKeyPair}
use Rattle.lora_frame.specs.declared.parts.Keys.{Keys}
use Rattle.lora_frame.proofs.RoundTrips.{length-crypted, length-mic, length-payload_key}
use Rattle.rx_windows.specs.declared.candidate.Candidate.{Candidate}
use Rattle.rx_windows.specs.Windows.{candidates_of, frame_len, is_carried, rx1_rate}
use Rattle.rx_windows.specs.Laws.{IsWindowOf}
use Rattle.rx_windows.proofs.WindowLaws.{on_gateways_that_heard}
use Rattle.answer_ticket.specs.Job.{Job, Payload, candidate_at, carried_body, frame_for, is_pending, payload_len}
use Rattle.server_desk.specs.declared.answers.Asked.{Asked}
use Rattle.server_desk.specs.Register.{Device, Register}
use Rattle.server_desk.specs.Taking.{job_of, keys_of}
use Rattle.server_desk.proofs.Places.{all_get}

-- how many bytes a downlink has with a payload or with none: MHDR and FHDR without FOpts (8), FPort and the payload, and MIC (4)
abbrev with_body : Option Payload → ℕ
with_body None = 12
with_body (Some body) = 13 + payload_len body

parts_long : (keys : Keys) (addr counter : ℕ) (body : Option Payload) → IsKeyPair keys
    → 12 + length (parts_bytes keys 1 addr counter body) ≡ with_body body
parts_long keys addr counter None pair = refl
parts_long keys addr counter (Some body) pair =
    omega (arith, length-crypted (payload_key keys body.0) body.1 1 addr counter (length-payload_key keys body.0 pair))

frame_long : (keys : Keys) (addr counter : ℕ) (ack pending : Bool) (body : Option Payload) → IsKeyPair keys
    → length (down_frame keys addr counter ack pending body) ≡ with_body body
unfolding down_frame
frame_long keys addr counter ack pending body pair =
    let message = message_of_parts keys addr counter (control_bits ack pending) body in
    let mic = mic_of keys.nwk 1 addr counter message in
    let last : length mic ≡ 4 = length-mic keys.nwk message 1 addr counter pair.nwk in
    omega (arith, length-append message mic, last, parts_long keys addr counter body pair)

-- with the payload where it is carried
carried_long : (rate : DataRate) (body : Option Payload)
    → with_body (if is_carried rate (option_map payload_len body) then body else None) ≡ frame_len rate (option_map payload_len body)
carried_long rate None = refl
carried_long rate (Some body) = by_test (is_carried rate (Some (payload_len body)))
  where
    by_test : (t : Bool) → with_body (if t then Some body else None) ≡ (if t then 13 + payload_len body else 12)
    by_test true = refl
    by_test false = refl

module _ (job : Job) (pair : IsKeyPair job.keys) (planned : job.plan.payload ≡ option_map payload_len job.body) where
  window_long : (c : Candidate) (rate : DataRate) → c.carries ≡ is_carried rate job.plan.payload
      → c.len ≡ frame_len rate job.plan.payload → length (frame_for job c) ≡ c.len
  window_long c rate carries long =
      frame_long job.keys job.addr job.counter job.ack (is_pending job c) (carried_body job c) pair
      ∙ ap (λ t. with_body (if t then job.body else None)) (carries ∙ ap (is_carried rate) planned)
      ∙ carried_long rate job.body ∙ ap (frame_len rate) (sym planned) ∙ sym long

  -- of each candidate of a job whose plan has its payload's length
  pub each_is_as_long : (k : ℕ) (c : Candidate) → candidate_at job k ≡ Some c → length (frame_for job c) ≡ c.len
  each_is_as_long k c e =
      let w = all_get (IsWindowOf job.plan job.copies) (candidates_of job.copies job.plan) k c
      (on_gateways_that_heard job.plan job.copies) e in
      elim w.window [
        | inl is ↦ window_long c (rx1_rate w.copy.rate job.plan.offset) (ap (λ d. d.carries) is) (ap (λ d. d.len) is)
        | inr is ↦ window_long c job.plan.rx2_rate (ap (λ d. d.carries) is) (ap (λ d. d.len) is)
      ]

-- so of each uplink's answer, by a device whose keys have 16 bytes, as all keys have
pub answers_are_as_long_as_booked : (reg : Register) (n : ℕ) (asked : Asked) (device : Device) → IsKeyPair (keys_of device.setting)
    → (k : ℕ) (c : Candidate) → candidate_at (job_of reg n asked device) k ≡ Some c
    → length (frame_for (job_of reg n asked device) c) ≡ c.len
answers_are_as_long_as_booked reg n asked device pair = each_is_as_long (job_of reg n asked device) pair refl
