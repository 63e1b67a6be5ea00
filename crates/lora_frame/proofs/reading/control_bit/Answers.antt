use Rattle.lora_frame.proofs.Lists.{bit_test}
use Rattle.lora_frame.proofs.reading.control_bit.Goals as goal

pub returns : goal.returns
returns c = λ k e. rw e (bit_test _ k)
