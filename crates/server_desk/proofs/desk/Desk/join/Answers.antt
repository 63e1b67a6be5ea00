use Rattle.server_desk.proofs.Words.{false}
use Rattle.server_desk.proofs.AirtimeLemmas.{limits_kept}
use Rattle.server_desk.proofs.Decided.{is_join}
use Rattle.server_desk.proofs.HearLemmas.{answered, told, join_answer, join_holds}
use Rattle.server_desk.proofs.desk.Desk.join.Goals as goal

pub invariant_of-self : goal.invariant_of-self
invariant_of-self g c =
    let j = is_join _ _ _ _ _ c.args.n (rw (← c.self.view_is) at c.requires) in
    let told = rw c.copy_of.ensures at c.hear_at-answer.ensures.told in (
      rw (c.hear_at-answer.ensures.step, c.copy_of.ensures) (join_holds j _ _ _ c.hear_at-answer.result told c.self.invariant.0),
      rw (c.hear_at-answer.ensures.step, limits_kept) c.self.invariant.1,
    )

pub returns-clause-answer : goal.returns-clause-answer
returns-clause-answer g c =
    let j = is_join _ _ _ _ _ c.args.n (rw (← c.self.view_is) at c.requires) in
    let answer = rw c.copy_of.ensures at c.hear_at-answer.ensures.answer in
    rw (← c.self.view_is, join_answer j, c.desk_answer.ensures) (answered false _ c.hear_at-answer.result answer)

pub returns-clause-told : goal.returns-clause-told
returns-clause-told g c =
    let j = is_join _ _ _ _ _ c.args.n (rw (← c.self.view_is) at c.requires) in
    let heard = rw c.copy_of.ensures at c.hear_at-answer.ensures.told in
    rw (← c.self.view_is, join_answer j, c.desk_answer.ensures) (told false _ c.hear_at-answer.result heard)

pub hear_at-answer-requires : goal.hear_at-answer-requires
hear_at-answer-requires g c =
    let j = is_join _ _ _ _ _ c.args.n (rw (← c.self.view_is) at c.requires) in
    rw c.copy_of.ensures j.so.place
