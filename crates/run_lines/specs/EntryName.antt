use Rattle.std.specs.Prelude.{ℕ, List, codes}
use Rattle.lora_frame.specs.declared.reading.FrameFault.{FrameFault}
use Rattle.server_desk.specs.declared.faults.QueueFault.{QueueFault}
use Rattle.server_desk.specs.declared.faults.DeskFault.{DeskFault}
use Rattle.server_desk.specs.declared.faults.TakeFault.{TakeFault}
use Rattle.lora_frame.specs.declared.reading.FrameFault.TheVariants as frames
use Rattle.server_desk.specs.declared.faults.QueueFault.TheVariants as queues
use Rattle.server_desk.specs.declared.faults.DeskFault.TheVariants as hears
use Rattle.server_desk.specs.declared.faults.TakeFault.TheVariants as takes

-- The names of faults in the lines that answer events: each is its variant's name.

-- why a payload was not queued
abbrev pub queue_name : QueueFault → List ℕ
queue_name queues.UnknownDevice = codes "UnknownDevice"
queue_name queues.Port = codes "Port"
queue_name queues.Long = codes "Long"
queue_name queues.QueueFull = codes "QueueFull"
queue_name queues.NoMemory = codes "NoMemory"

-- why a frame can't be read
abbrev pub frame_name : FrameFault → List ℕ
frame_name frames.Short = codes "Short"
frame_name frames.Long = codes "Long"
frame_name frames.NotData = codes "NotData"
frame_name frames.Major = codes "Major"
frame_name frames.OptionsCut = codes "OptionsCut"

-- why a copy of an uplink was not taken in; a fault of the frame has its own name alone
abbrev pub hear_name : DeskFault → List ℕ
hear_name (hears.Frame fault) = frame_name fault
hear_name hears.UnknownGateway = codes "UnknownGateway"
hear_name hears.NoRate = codes "NoRate"
hear_name hears.NoBand = codes "NoBand"
hear_name hears.Moment = codes "Moment"
hear_name hears.SameGateway = codes "SameGateway"
hear_name hears.TooManyCopies = codes "TooManyCopies"
hear_name hears.Late = codes "Late"
hear_name hears.UnknownDevice = codes "UnknownDevice"
hear_name hears.BadMic = codes "BadMic"
hear_name hears.Crowded = codes "Crowded"
hear_name hears.NoMemory = codes "NoMemory"

-- why no ticket was given
abbrev pub take_name : TakeFault → List ℕ
take_name takes.NotReady = codes "NotReady"
take_name takes.Taken = codes "Taken"
take_name takes.Silent = codes "Silent"
take_name takes.Engaged = codes "Engaged"
take_name takes.CounterSpent = codes "CounterSpent"
take_name takes.NoMemory = codes "NoMemory"
