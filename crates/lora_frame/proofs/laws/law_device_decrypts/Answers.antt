use Rattle.lora_frame.proofs.RoundTrips.{device_decrypts}
use Rattle.lora_frame.proofs.laws.law_device_decrypts.Goals as goal

pub returns : goal.returns
returns c = device_decrypts
