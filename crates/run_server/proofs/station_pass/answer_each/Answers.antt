use Rattle.std.proofs.Common.{rules, subst, sym, take, get_or, ◌∙◌}
use Rattle.std.proofs.lemmas.List.{take_more}
use Rattle.server_workers.specs.Filing.{filing}
use Rattle.run_server.specs.PassTurns.{HasFiled}
use Rattle.run_server.proofs.TurnLemmas.{filed_more, handled_parts}
use Rattle.run_server.proofs.station_pass.answer_each.Goals as goal

pub loop-number-preserved : goal.loop-number-preserved
loop-number-preserved g c =
    let at = c.loop-number.number-index in
    let n = get_or c.args.numbers.now at 0 in
    record {
      parts = handled_parts c.args.station.now n c.loop-number.till c.answer-turn.new.till c.answer-turn.result
          c.answer-turn.ensures.turn
          ∙ c.loop-number.invariant.parts;
      filed =
          subst (λ l. HasFiled c.args.station.now l c.args.till.now c.answer-turn.new.till (filing c.args.filed.now) (filing c.file.new.filed))
          (sym (take_more c.args.numbers.now at 0 (search rules)))
          (filed_more c.args.station.now (take at c.args.numbers.now) n c.answer-turn.result c.args.till.now c.loop-number.till
          c.answer-turn.new.till (filing c.args.filed.now) (filing c.loop-number.filed) (filing c.file.new.filed)
          c.loop-number.invariant.filed c.answer-turn.ensures.turn
          c.in_ok-file.ensures);
    }
