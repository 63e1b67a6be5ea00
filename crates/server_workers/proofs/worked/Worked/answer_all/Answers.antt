use Rattle.std.proofs.Common.{rules, subst, sym, take, get_or, length, ◌≡◌, ◌+◌, ◌-◌, ◌<◌, arith}
use Rattle.std.proofs.lemmas.List.{take_more}
use Rattle.server_workers.specs.Alone.{HasTakenUp}
use Rattle.server_workers.specs.Filing.{HasRoomFor}
use Rattle.server_workers.specs.Lists.{lists_of}
use Rattle.server_workers.specs.Working.{HasFiled}
use Rattle.server_workers.proofs.AloneLemmas.{listed, room_on, taken_none, taken_on}
use Rattle.server_workers.proofs.TurnLemmas.{more_none, more_on}
use Rattle.server_workers.proofs.worked.Worked.answer_all.Goals as goal

pub loop-number-init : goal.loop-number-init
loop-number-init g c =
    let all : length c.args.numbers.now ≡ length c.args.numbers.now - 0 = omega arith in
    record {
      room = subst (λ n. HasRoomFor n (lists_of c.args.self.now)) all c.requires;
      more = more_none c.args.self.now;
      taken = taken_none c.args.numbers.now c.args.station.now c.args.self.now;
    }

pub loop-number-preserved : goal.loop-number-preserved
loop-number-preserved g c =
    let at = c.loop-number.number-index in
    let n = get_or c.args.numbers.now at 0 in
    let so_far = c.loop-number.invariant in
    let one = c.answer.ensures in
    let within : at < length c.args.numbers.now = search rules in
    let less : length c.args.numbers.now - (at + 1) + 1 ≡ length c.args.numbers.now - at = omega (arith, within) in
    record {
      room = room_on c.args.station.now _ (length c.args.numbers.now - at) (length c.args.numbers.now - (at + 1))
          c.loop-number.self c.answer.new.self so_far.room less one.filed one.more;
      more = more_on c.args.self.now c.loop-number.self c.answer.new.self so_far.more one.more;
      taken =
          subst (λ l. HasTakenUp c.args.numbers.now c.args.station.now l c.args.self.now c.answer.new.self)
          (sym (take_more c.args.numbers.now at 0 within))
          (taken_on c.args.numbers.now c.args.station.now (take at c.args.numbers.now) n c.args.self.now c.loop-number.self
          c.answer.new.self (listed c.args.numbers.now at within) so_far.taken
          (subst (λ k. HasFiled c.args.station.now k c.loop-number.self c.answer.new.self) c.listed.ensures one.filed));
    }
