use Rattle.std.proofs.Common.{List, subst}
use Rattle.std.proofs.lemmas.List.{at_drop_all}
use Rattle.gateway_book.specs.declared.ask.Ask.{Ask}
use Rattle.gateway_book.specs.Book.{state_of}
use Rattle.airtime_planner.proofs.Answering.{SoFar, all_answered}
use Rattle.airtime_planner.proofs.asking.answer_all.Goals as goal

pub returns-clause-answers : goal.returns-clause-answers
returns-clause-answers g c =
    let first = c.args.book.now in
    let now = c.loop-ask.book in
    let asks = c.args.asks.now in
    let P : List Ask → Type 0 = λ left. SoFar first.rules (state_of first) (state_of now) asks left c.args.out.now.items
    c.loop-ask.out.items in
    let none_left = at_drop_all (λ (q : List Ask). q) asks c.loop-ask.ask-index c.loop-ask-test.false in
    all_answered first.rules (state_of first) (state_of now) asks c.args.out.now.items c.loop-ask.out.items
    (subst P none_left c.loop-ask.invariant.1)
