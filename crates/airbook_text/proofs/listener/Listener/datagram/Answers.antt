use Rattle.airbook_text.specs.ListenTurns.{account_of}
use Rattle.airbook_text.specs.ListenSteps.{progress}
use Rattle.airbook_text.proofs.ListenLemmas.{nothing_asked, asked_in_part}
use Rattle.airbook_text.proofs.listener.Listener.datagram.Goals as goal

pub returns-in-Ok-None-clause-ok : goal.returns-in-Ok-None-clause-ok
returns-in-Ok-None-clause-ok g c =
    nothing_asked c.args.self.shift.station.value c.args.devices.now c.args.turn c.args.datagram.now _
    (progress c.args.self.shift.till c.args.self.shift.receipts c.args.self.counts c.args.self.refused)
    (g.W.ByteOut.taken c.args.writer.now) c.in-Ok-None.ensures.event c.in-Ok-None.field-0-is

pub returns-in-Ok-Some-clause-front : goal.returns-in-Ok-Some-clause-front
returns-in-Ok-Some-clause-front g c =
    asked_in_part c.args.self.shift.station.value c.args.devices.now c.args.turn c.args.datagram.now _ c.in-Ok-Some.event
    (account_of c.args.self.shift.till c.args.self.shift.receipts) (g.W.ByteOut.taken c.args.writer.now)
    (g.W.ByteOut.taken c.event.new.writer)
    c.event.result c.in-Ok-Some.ensures.event c.in-Ok-Some.field-0-is c.event.ensures.front
