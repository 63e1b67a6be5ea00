use Rattle.std.proofs.Common.{refl}
use Rattle.lora_frame.specs.Frame.{down_frame}
use Rattle.lora_frame.proofs.writing.downlink.Goals as goal

pub returns-clause-ok : goal.returns-clause-ok
unfolding down_frame
returns-clause-ok g c =
    rw (
      c.append_mic.ensures,
      c.append_body.ensures.items,
      c.append.ensures.items,
      c.in-Ok.ensures.items,
      c.header.ensures,
      c.down_control.ensures,
    ) refl
