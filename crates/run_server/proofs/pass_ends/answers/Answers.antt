use Rattle.std.proofs.Common.{rules, ◌<◌, ◌∙◌, length}
use Rattle.server_workers.specs.Filing.{filing}
use Rattle.run_server.specs.PassAnswers.{answer_in}
use Rattle.run_server.proofs.FrameLemmas.{told_more, left_more, still_first}
use Rattle.run_server.proofs.pass_ends.answers.Goals as goal

pub loop-number-preserved : goal.loop-number-preserved
loop-number-preserved c =
    let before = c.loop-number in
    let numbers = c.args.numbers.now in
    let at = before.number-index in
    let first = filing c.args.filed.now in
    let told = c.answer.ensures.told in
    let within : at < length numbers = search rules in
    record {
      by_number = told.by_number;
      same = told.same ∙ before.invariant.same;
      told = told_more (answer_in first) numbers at before.answers.items c.push.new.self.items c.in_ok-answer.field-0 within
          before.invariant.told c.in_ok-push.ensures.items
          (c.in_ok-answer.ensures.answer ∙ still_first numbers at first (filing before.filed) within before.invariant.left);
      left = left_more numbers at c.do_rise-is_moved.result first (filing before.filed) (filing c.answer.new.filed) within c.do_rise-is_moved.ensures
          told before.invariant.left;
    }
