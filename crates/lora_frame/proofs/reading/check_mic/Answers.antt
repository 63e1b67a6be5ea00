use Rattle.std.proofs.Common.{ℕ, ◌-◌, List, length, take, drop, ap, ◌∙◌, arith}
use Rattle.std.proofs.lemmas.Bool.Decides.{same_from_decides}
use Rattle.std.proofs.lemmas.List.{take_all, length-drop}
use Rattle.std.proofs.lemmas.Slice.Eq.{bytes_eq-Decides}
use Rattle.std.specs.Int.{w32, from_le_bytes}
use Rattle.lora_frame.specs.Blocks.{mic_of}
use Rattle.lora_frame.specs.Reading.{has_mic}
use Rattle.lora_frame.proofs.Lists.{test_is}
use Rattle.lora_frame.proofs.reading.check_mic.Goals as goal

pub returns-clause-mic : goal.returns-clause-mic
returns-clause-mic c =
    let b = c.args.bytes.now in
    let place = c.mic_place-mic_at.ensures in
    let mic = c.four_at-2.ensures ∙ ap (λ n. take 4 (drop n b)) place
    ∙ take_all 4 (drop (length b - 4) b) (omega (arith, length-drop (length b - 4) b)) in
    let addr = c.from_le_bytes-addr.ensures ∙ ap (λ (x : List ℕ). from_le_bytes w32 x) c.four_at.ensures in
    test_is c.eq.result _ _ _ _ c.eq.ensures
    (c.mic.ensures ∙ ap (λ (n : ℕ). mic_of c.args.nwk.now 0 c.from_le_bytes-addr.result c.args.counter (take n b)) place
    ∙ ap (λ (n : ℕ). mic_of c.args.nwk.now 0 n c.args.counter (take (length b - 4) b)) addr) mic

pub returns-clause-value : goal.returns-clause-value
unfolding has_mic
returns-clause-value c = same_from_decides c.eq.result _ (returns-clause-mic c) (bytes_eq-Decides _ _)
