use Rattle.std.proofs.Common.{refl}
use Rattle.lora_frame.specs.Frame.{up_bytes}
use Rattle.lora_frame.proofs.writing.uplink_bytes.Goals as goal

pub returns-clause-ok : goal.returns-clause-ok
unfolding up_bytes
returns-clause-ok g c =
    rw (
      c.append_mic.ensures,
      c.append_body.ensures.items,
      c.append-2.ensures.items,
      c.append.ensures.items,
      c.in-Ok.ensures.items,
      c.uplink_header.ensures,
    ) refl
