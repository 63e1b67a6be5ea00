use Rattle.std.proofs.Common.{◌≡◌, List, Some, None, map, sym, ap, ◌∙◌, arith}
use Rattle.resv_list.specs.declared.reservation.Reservation.{Reservation}
use Rattle.resv_list.specs.Hours.{greatest}
use Rattle.resv_list.specs.Reservations.{end_of, member_before}
use Rattle.book_picture.proofs.HourLemmas.{greatest_end, end_in}
use Rattle.book_picture.proofs.hour.latest_hour.Goals as goal

pub returns-in-Some : goal.returns-in-Some
returns-in-Some g c =
    let l = c.args.book.now.list in
    let last : member_before 18446744073709551615 l ≡ Some c.in-Some.last =
    sym (c.before-2.ensures ∙ ap (λ (m : List Reservation). member_before 18446744073709551615 m) c.roster.ensures)
    ∙ c.in-Some.is in
    let most : greatest (map end_of l) ≡ end_of c.in-Some.last =
    greatest_end c.args.book.now.rules.gap 18446744073709551615 l (omega arith) c.law_whole.ensures.by_start
    c.law_whole.ensures.lawful.apart ∙ ap end_in last in
    omega (arith, c.saturating_sub.ensures, c.end.ensures, most)

pub returns-in-None : goal.returns-in-None
returns-in-None g c =
    let l = c.args.book.now.list in
    let last : member_before 18446744073709551615 l ≡ None =
    sym (c.before-2.ensures ∙ ap (λ (m : List Reservation). member_before 18446744073709551615 m) c.roster.ensures)
    ∙ c.in-None.is in
    let most : greatest (map end_of l) ≡ 0 =
    greatest_end c.args.book.now.rules.gap 18446744073709551615 l (omega arith) c.law_whole.ensures.by_start
    c.law_whole.ensures.lawful.apart ∙ ap end_in last in
    omega (arith, most)
