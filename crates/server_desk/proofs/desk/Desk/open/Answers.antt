use Rattle.server_desk.proofs.Words.{arith, refl, sym, ◌∙◌, slice_get_read}
use Rattle.server_desk.proofs.AirtimeLemmas.{opened_airtimes, limits_kept}
use Rattle.server_desk.proofs.Decided.{is_new}
use Rattle.server_desk.proofs.HearLemmas.{answered, told, was_fault, open_answer, was_told, open_within, open_room, open_holds}
use Rattle.server_desk.proofs.HearLemmas.{open_step}
use Rattle.server_desk.proofs.desk.Desk.open.Goals as goal

pub returns-in-Err-clause-answer : goal.returns-in-Err-clause-answer
returns-in-Err-clause-answer g c =
    let n = is_new _ _ _ _ _ c.args.new (rw (← c.self.view_is) at c.requires) in
    let answer = rw c.copy_of.ensures at c.hear_at-answer.ensures.answer in
    let fault = sym c.desk_answer.ensures ∙ c.in-Err.is in
    rw (← c.self.view_is, open_answer _ _ _ _ n) (rw fault at (answered c.args.new.repeat _ c.hear_at-answer.result answer))

pub invariant_of-self-in-Err : goal.invariant_of-self-in-Err
invariant_of-self-in-Err g c =
    let same = was_fault _ c.args.new.repeat c.hear_at-answer.result c.in-Err.fault (sym c.desk_answer.ensures ∙ c.in-Err.is)
    c.hear_at-answer.ensures.refused in
    rw (same, c.reserve.ensures.items, c.reserve-2.ensures.items) c.self.invariant

pub index_mut-requires : goal.index_mut-requires
index_mut-requires g c =
    let n = is_new _ _ _ _ _ c.args.new (rw (← c.self.view_is) at c.requires) in
    omega (arith, open_within _ _ _ _ n, c.self.inside.devices.ok.0)

pub invariant_of-self-2 : goal.invariant_of-self-2
invariant_of-self-2 g c =
    let n = is_new _ _ _ _ _ c.args.new (rw (← c.self.view_is) at c.requires) in
    let hears = rw c.copy_of.ensures at c.hear_at-answer.ensures in
    let opened = was_told c.args.new.repeat _ c.hear_at-answer.result c.in-Ok-desk_answer.told
    (sym c.desk_answer.ensures ∙ c.in-Ok-desk_answer.is) hears.told in
    let asked = rw c.reserve.ensures.items at c.push_reserved.ensures.items in
    let known = rw c.reserve-2.ensures.items at c.push_reserved-2.ensures.items in
    let at = slice_get_read _ _ _ _ refl (open_within _ _ _ _ n) c.index_mut.ensures.value in (
      rw (hears.step, opened, asked, known) (open_holds _ _ _ _ n _ _ _ at refl _ c.self.invariant.0 refl),
      rw (c.hear_at-answer.ensures.step, limits_kept, known)
          (opened_airtimes _ _ _ _ c.self.invariant.1 (omega (arith, c.self.invariant.0.told, open_room _ _ _ _ n))),
    )

pub returns-clause-told : goal.returns-clause-told
returns-clause-told g c =
    let n = is_new _ _ _ _ _ c.args.new (rw (← c.self.view_is) at c.requires) in
    let heard = rw c.copy_of.ensures at c.hear_at-answer.ensures.told in
    let is = sym c.desk_answer.ensures ∙ c.in-Ok-desk_answer.is in
    rw (← c.self.view_is, open_answer _ _ _ _ n) (rw is at (told c.args.new.repeat _ c.hear_at-answer.result heard))

pub returns-clause-step : goal.returns-clause-step
returns-clause-step g c =
    let n = is_new _ _ _ _ _ c.args.new (rw (← c.self.view_is) at c.requires) in
    let hears = rw c.copy_of.ensures at c.hear_at-answer.ensures in
    let opened = was_told c.args.new.repeat _ c.hear_at-answer.result c.in-Ok-desk_answer.told
    (sym c.desk_answer.ensures ∙ c.in-Ok-desk_answer.is) hears.told in
    let asked = rw c.reserve.ensures.items at c.push_reserved.ensures.items in
    let known = rw c.reserve-2.ensures.items at c.push_reserved-2.ensures.items in
    let at = slice_get_read _ _ _ _ refl (open_within _ _ _ _ n) c.index_mut.ensures.value in
    rw (← c.self.view_is, hears.step, opened, asked, known) (open_step _ _ _ _ n _ _ _ at refl)

pub hear_at-answer-requires : goal.hear_at-answer-requires
hear_at-answer-requires g c =
    let n = is_new _ _ _ _ _ c.args.new (rw (← c.self.view_is) at c.requires) in
    rw c.copy_of.ensures n.so.place
