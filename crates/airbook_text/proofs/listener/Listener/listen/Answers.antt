use Rattle.std.proofs.Common.{rules, arith, sym, subst, ◌∙◌, ◌≡◌, ◌+◌}
use Rattle.airbook_text.specs.ListenTurns.{HasAnswer, IsTurn}
use Rattle.airbook_text.specs.ListenTurns.{account_of}
use Rattle.airbook_text.specs.ListenSteps.{progress, Turns, TurnsInPart}
use Rattle.airbook_text.proofs.ListenLemmas.{HasListened, listened_none, listened_more, listened_more_in_part, counts_have_room}
use Rattle.airbook_text.proofs.ListenLemmas.{listened_closed, listened_closed_in_part}
use Rattle.airbook_text.proofs.listener.Listener.listen.Goals as goal

pub loop-turn-init : goal.loop-turn-init
loop-turn-init g c =
    let s = g.S.Source.seen c.args.source.now in
    let a = g.W.ByteOut.taken c.args.writer.now in
    record {
      station = search rules;
      so_far = subst (λ t. HasListened c.args.self.shift.station.value c.args.devices.now 0 s s t a a) (sym c.requires.opened)
          (listened_none c.args.self.shift.station.value c.args.devices.now s a);
      calls = search rules;
    }

pub turn-requires-clause-room : goal.turn-requires-clause-room
turn-requires-clause-room g c κs met =
    counts_have_room c.loop-turn.turn c.args.turns c.loop-turn.listener.counts c.loop-turn.invariant.so_far.small
    c.loop-turn-test.true c.requires.turns.1

pub loop-turn-preserved : goal.loop-turn-preserved
loop-turn-preserved g c =
    let l = c.loop-turn in
    let was = l.listener in
    let is = c.in-Ok.listener in
    let now = progress is.shift.till is.shift.receipts is.counts is.refused in
    record {
      station = c.in-Ok.ensures.station ∙ l.invariant.station;
      so_far = listened_more c.args.self.shift.station.value c.args.devices.now l.turn (g.S.Source.seen c.args.source.now)
          (g.S.Source.seen l.source) (progress was.shift.till was.shift.receipts was.counts was.refused)
          (g.W.ByteOut.taken c.args.writer.now) (g.W.ByteOut.taken l.writer) l.invariant.so_far
          (g.S.Source.seen c.turn.new.source) now (g.W.ByteOut.taken c.turn.new.writer)
          (subst (λ ids. Turns (λ r. IsTurn ids c.args.devices.now (l.turn + 1) r
          (account_of was.shift.till was.shift.receipts))
          (g.S.Source.seen l.source) (g.S.Source.seen c.turn.new.source)
          (progress was.shift.till was.shift.receipts was.counts was.refused) now (g.W.ByteOut.taken l.writer)
          (g.W.ByteOut.taken c.turn.new.writer)) l.invariant.station c.in-Ok.ensures.ok);
      calls = search rules;
    }

pub returns-in-Err-clause-front : goal.returns-in-Err-clause-front
returns-in-Err-clause-front g c =
    let l = c.loop-turn in
    let was = l.listener in
    listened_more_in_part c.args.self.shift.station.value c.args.devices.now l.turn (g.S.Source.seen c.args.source.now)
    (g.S.Source.seen l.source) (progress was.shift.till was.shift.receipts was.counts was.refused)
    (g.W.ByteOut.taken c.args.writer.now) (g.W.ByteOut.taken l.writer) l.invariant.so_far c.args.turns
    (g.S.Source.seen c.turn.new.source) (g.W.ByteOut.taken c.turn.new.writer) c.in-Err.fault c.loop-turn-test.true
    (subst (λ ids. TurnsInPart (HasAnswer c.args.devices.now (l.turn + 1))
    (λ r. IsTurn ids c.args.devices.now (l.turn + 1) r (account_of was.shift.till was.shift.receipts))
    (g.S.Source.seen l.source) (g.S.Source.seen c.turn.new.source) (g.W.ByteOut.taken l.writer)
    (g.W.ByteOut.taken c.turn.new.writer) c.in-Err.fault) l.invariant.station c.in-Err.ensures.front)

pub returns-clause-ok : goal.returns-clause-ok
returns-clause-ok g c =
    let l = c.loop-turn in
    let was = l.listener in
    let ids = c.args.self.shift.station.value in
    let all : l.turn ≡ c.args.turns = omega arith in
    let so_far = subst (λ n. HasListened ids c.args.devices.now n (g.S.Source.seen c.args.source.now)
    (g.S.Source.seen l.source) (progress was.shift.till was.shift.receipts was.counts was.refused)
    (g.W.ByteOut.taken c.args.writer.now) (g.W.ByteOut.taken l.writer)) all l.invariant.so_far in
    listened_closed ids c.args.devices.now c.args.turns (g.S.Source.seen c.args.source.now) (g.S.Source.seen l.source)
    (progress was.shift.till was.shift.receipts was.counts was.refused) (g.W.ByteOut.taken c.args.writer.now)
    (g.W.ByteOut.taken l.writer) so_far was.shift.station.value (g.W.ByteOut.taken c.close.new.writer)
    c.close.result l.invariant.station c.close.ensures.told c.close.ensures.ok

pub returns-clause-front : goal.returns-clause-front
returns-clause-front g c =
    let l = c.loop-turn in
    let was = l.listener in
    let ids = c.args.self.shift.station.value in
    let all : l.turn ≡ c.args.turns = omega arith in
    let so_far = subst (λ n. HasListened ids c.args.devices.now n (g.S.Source.seen c.args.source.now)
    (g.S.Source.seen l.source) (progress was.shift.till was.shift.receipts was.counts was.refused)
    (g.W.ByteOut.taken c.args.writer.now) (g.W.ByteOut.taken l.writer)) all l.invariant.so_far in
    listened_closed_in_part ids c.args.devices.now c.args.turns (g.S.Source.seen c.args.source.now)
    (g.S.Source.seen l.source) (progress was.shift.till was.shift.receipts was.counts was.refused)
    (g.W.ByteOut.taken c.args.writer.now) (g.W.ByteOut.taken l.writer) so_far was.shift.station.value
    (g.W.ByteOut.taken c.close.new.writer) c.close.result l.invariant.station c.close.ensures.front
