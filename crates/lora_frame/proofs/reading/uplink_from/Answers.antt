use Rattle.std.proofs.Common.{ℕ, ◌-◌, List, length, take, drop, refl, ap, ◌∙◌, arith}
use Rattle.std.proofs.lemmas.List.{take_all, length-drop}
use Rattle.std.specs.Int.{w32, from_le_bytes}
use Rattle.lora_frame.proofs.reading.uplink_from.Goals as goal

pub returns : goal.returns
returns c =
    let b = c.args.bytes.now in
    let place = c.mic_place-mic_at.ensures in
    let mic = c.four_at-2.ensures ∙ ap (λ n. take 4 (drop n b)) place
    ∙ take_all 4 (drop (length b - 4) b) (omega (arith, length-drop (length b - 4) b)) in
    let addr = c.from_le_bytes.ensures ∙ ap (λ (x : List ℕ). from_le_bytes w32 x) c.four_at.ensures in
    rw (
      c.frame_type.ensures,
      addr,
      c.control_bit.ensures 7 refl,
      c.control_bit-2.ensures 6 refl,
      c.control_bit-3.ensures 5 refl,
      c.low_of.ensures,
      c.options_len.ensures,
      c.port_of.ensures,
      c.payload_place.ensures,
      mic,
      place,
      c.options_end-options_end.ensures,
    )
    refl
