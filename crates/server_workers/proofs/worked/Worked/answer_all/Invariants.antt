use Rattle.std.proofs.Common.{◌-◌, length, take}
use Rattle.server_workers.specs.Alone.{HasTakenUp}
use Rattle.server_workers.specs.Filing.{HasRoomFor}
use Rattle.server_workers.specs.Lists.{lists_of}
use Rattle.server_workers.specs.Working.{IsMore}
use Rattle.server_workers.proofs.worked.Worked.answer_all.Given as goal

abbrev pub invariant-loop-number : goal.invariant-loop-number
invariant-loop-number g l =
    record {
      room : HasRoomFor (length l.numbers - l.number-index) (lists_of l.self);
      more : IsMore l.fn.self l.self;
      taken : HasTakenUp l.numbers l.fn.station (take l.number-index l.numbers) l.fn.self l.self;
    }
