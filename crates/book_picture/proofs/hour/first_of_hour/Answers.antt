use Rattle.std.proofs.Common.{◌≡◌, ℕ, max, Some, None, sym, ap, ◌∙◌}
use Rattle.std.specs.Bool.{then_some}
use Rattle.resv_list.specs.Reservations.{start_of, member_from}
use Rattle.book_picture.proofs.HourLemmas.{found_in_hour, keep_in}
use Rattle.book_picture.proofs.hour.first_of_hour.Goals as goal

pub returns-in_err-member : goal.returns-in_err-member
returns-in_err-member g c =
    let l = g.R.Roster.list c.args.roster.now in
    let none : member_from (max c.args.at c.args.from) l ≡ None =
    sym (c.first_from.ensures ∙ ap (λ (n : ℕ). member_from n l) c.max.ensures) ∙ c.in_err-member.was in
    c.from_residual.ensures
    ∙ sym (found_in_hour start_of c.args.from c.args.at 0 l (g.met.R.Roster.by_start c.args.roster.now)
    ∙ ap (keep_in start_of c.args.from) none)

pub returns : goal.returns
returns g c =
    let l = g.R.Roster.list c.args.roster.now in
    let found : member_from (max c.args.at c.args.from) l ≡ Some c.in_ok-member.member =
    sym (c.first_from.ensures ∙ ap (λ (n : ℕ). member_from n l) c.max.ensures) ∙ c.in_ok-member.was in
    c.then_some.ensures
    ∙ ap (λ b. then_some b c.in_ok-member.member) c.is_within_hour.ensures
    ∙ sym (found_in_hour start_of c.args.from c.args.at 0 l (g.met.R.Roster.by_start c.args.roster.now)
    ∙ ap (keep_in start_of c.args.from) found)
