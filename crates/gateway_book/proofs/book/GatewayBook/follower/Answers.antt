use Rattle.std.proofs.Common.{◌≡◌, ◌+◌, ◌≤◌, ◌<◌, true, false, length, Option, None, cond, sym, ap, ◌∙◌, subst, arith}
use Rattle.std.specs.Prelude.{is_some}
use Rattle.radio_bands.specs.Band.{hour}
use Rattle.resv_list.specs.declared.reservation.Reservation.{Reservation}
use Rattle.resv_list.specs.Reservations.{IsByStart}
use Rattle.gateway_book.specs.Answer.{first_some}
use Rattle.gateway_book.specs.Book.{Book, IsSound}
use Rattle.gateway_book.specs.Loading.{is_behind}
use Rattle.gateway_book.specs.Saved.{saved_of}
use Rattle.gateway_book.specs.Step.{reservation_of}
use Rattle.gateway_book.proofs.AdmittedLaws.{not_refused}
use Rattle.gateway_book.proofs.FollowLaws.{fit_rows, none_of, is_behind-from, asked_becomes, behind_not, duty_not, follows}
use Rattle.gateway_book.proofs.Joining.{followed, can_join}
use Rattle.gateway_book.proofs.SoundLaws.{admits}
use Rattle.gateway_book.proofs.book.GatewayBook.follower.Goals as goal

pub returns-then-is_some-clause-answer : goal.returns-then-is_some-clause-answer
returns-then-is_some-clause-answer g c =
    let ask = c.args.ask in
    let P : Book → Type 0 = λ b. is_behind ask.start b.list ≡ true in
    let behind = subst P c.self.view_is (is_behind-from ask.start (g.R.Roster.list c.self.inside.roster)
    ∙ ap (λ (o : Option Reservation). is_some o) (sym c.first_from.ensures) ∙ sym c.is_some.ensures ∙ c.if-is_some.true) in
    sym (ap (λ t. cond t (reservation_of ask) None) (behind_not (saved_of c.args.self.now) ask behind))

pub returns-then-is_some-3-clause-answer : goal.returns-then-is_some-3-clause-answer
returns-then-is_some-3-clause-answer g c =
    let ask = c.args.ask in
    let told = not_refused (first_some (fit_rows ask)) c.in-Ok.reservation ask c.in-Ok.ensures in
    sym (ap (λ t. cond t (reservation_of ask) None)
    (duty_not (saved_of c.args.self.now) ask told.0 c.in-Ok.reservation told.1
    (sym c.first_overlap.ensures ∙ none_of c.first_overlap.result (sym c.is_some-2.ensures ∙ c.if-is_some-2.false))
    (ap (λ o. is_some o) (sym c.duty_full.ensures) ∙ sym c.is_some-3.ensures ∙ c.if-is_some-3.true)))

pub returns-clause-answer : goal.returns-clause-answer
returns-clause-answer g c =
    let ask = c.args.ask in
    let now = c.args.self.now in
    let told = not_refused (first_some (fit_rows ask)) c.in-Ok.reservation ask c.in-Ok.ensures in
    let P : Book → Type 0 = λ b. is_behind ask.start b.list ≡ false in
    let Q : Book → Type 0 = λ b. (b.floor ≤ ask.start + hour) × (length b.list < b.rules.cap) in
    let ahead = subst P c.self.view_is (is_behind-from ask.start (g.R.Roster.list c.self.inside.roster)
    ∙ ap (λ (o : Option Reservation). is_some o) (sym c.first_from.ensures) ∙ sym c.is_some.ensures ∙ c.if-is_some.false) in
    let room = subst Q c.self.view_is (omega arith, omega (arith, c.len.ensures)) in
    sym (ap (λ t. cond t (reservation_of ask) None)
    (follows (saved_of now) ask told.0 c.in-Ok.reservation told.1 ahead room.0 room.1
    (sym c.first_overlap.ensures ∙ none_of c.first_overlap.result (sym c.is_some-2.ensures ∙ c.if-is_some-2.false))
    (sym c.duty_full.ensures ∙ none_of c.duty_full.result (sym c.is_some-3.ensures ∙ c.if-is_some-3.false)))
    ∙ asked_becomes ask c.in-Ok.reservation told.1)

pub returns-clause-admits : goal.returns-clause-admits
returns-clause-admits g c =
    let ask = c.args.ask in
    let now = c.args.self.now in
    let told = not_refused (first_some (fit_rows ask)) c.in-Ok.reservation ask c.in-Ok.ensures in
    let P : Book → Type 0 = λ b. is_behind ask.start b.list ≡ false in
    let Q : Book → Type 0 = λ b. (b.floor ≤ ask.start + hour) × (length b.list < b.rules.cap) in
    let ahead = subst P c.self.view_is (is_behind-from ask.start (g.R.Roster.list c.self.inside.roster)
    ∙ ap (λ (o : Option Reservation). is_some o) (sym c.first_from.ensures) ∙ sym c.is_some.ensures ∙ c.if-is_some.false) in
    let room = subst Q c.self.view_is (omega arith, omega (arith, c.len.ensures)) in
    let may = follows (saved_of now) ask told.0 c.in-Ok.reservation told.1 ahead room.0 room.1
    (sym c.first_overlap.ensures ∙ none_of c.first_overlap.result (sym c.is_some-2.ensures ∙ c.if-is_some-2.false))
    (sym c.duty_full.ensures ∙ none_of c.duty_full.result (sym c.is_some-3.ensures ∙ c.if-is_some-3.false)) in
    let B : Book → Type 0 = λ b. IsByStart b.list in
    let sound : IsSound now = subst IsSound c.self.view_is c.self.invariant in
    admits now c.in-Ok.reservation sound (subst B c.self.view_is (g.met.R.Roster.by_start c.self.inside.roster))
    (can_join now ask c.in-Ok.reservation sound c.requires
    (followed (saved_of now) ask c.in-Ok.reservation may (asked_becomes ask c.in-Ok.reservation told.1)))
