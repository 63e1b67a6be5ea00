use Rattle.std.proofs.Common.{◌≡◌, ◌∙◌, ap, arith, rules}
use Rattle.std.proofs.lemmas.List.Sorted.{sum_by-IsPermutation}
use Rattle.answer_ticket.specs.declared.outcome.Outcome.{Outcome}
use Rattle.server_desk.specs.Airtime.{airtime_of_ending}
use Rattle.server_workers.specs.Works.{outcomes_airtime}
use Rattle.server_workers.proofs.CrewLemmas.{all_summed_up}
use Rattle.server_workers.proofs.FilingLemmas.{empty}
use Rattle.server_workers.proofs.ServedLemmas.{served_by}
use Rattle.server_workers.proofs.WorkLemmas.{holds}
use Rattle.server_workers.proofs.summing.summed_up.Goals as goal

pub returns-then-all-eq0-clause-back : goal.returns-then-all-eq0-clause-back
returns-then-all-eq0-clause-back g c =
    let zero : c.gather.new.all.ran ≡ 0 = search rules in
    let same : outcomes_airtime c.gather.new.all.filed.outcomes.items ≡ outcomes_airtime c.args.filed.outcomes.items =
    ap outcomes_airtime (c.gather.ensures.nobody zero) in
    ap (λ f. f.till) c.fault.ensures
    ∙ holds c.gather.new.all.till _ _ c.gather.ensures.parts (omega (arith, same, c.gather.ensures.amount))

pub returns-clause-till : goal.returns-clause-till
returns-clause-till g c =
    let none : outcomes_airtime c.args.filed.outcomes.items ≡ 0 = ap outcomes_airtime c.requires.room.outcomes.none in
    let same : outcomes_airtime c.sorted.result.outcomes.items ≡ outcomes_airtime c.gather.new.all.filed.outcomes.items =
    sum_by-IsPermutation (λ (o : Outcome). airtime_of_ending o.result) _ _ c.sorted.ensures.same.outcomes in
    c.sorted.ensures.till
    ∙ holds c.gather.new.all.till _ _ c.gather.ensures.parts (omega (arith, none, same, c.gather.ensures.amount))

pub returns-clause-all : goal.returns-clause-all
returns-clause-all g c =
    all_summed_up _ _ _ c.sorted.result (empty _ c.args.filed c.requires.room) c.gather.ensures.filed c.sorted.ensures.same
    (c.sorted.ensures.overrun ∙ c.gather.ensures.overrun)

pub returns-clause-turns : goal.returns-clause-turns
returns-clause-turns g c =
    served_by g.K.Room.numbers (λ m. m.worked) (λ m. m.done) c.args.crew.items c.sorted.result (returns-clause-all g c)
