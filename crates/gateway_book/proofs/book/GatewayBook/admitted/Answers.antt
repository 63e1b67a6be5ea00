use Rattle.std.proofs.Common.{◌≡◌, nat_lt, false, [], ◌∷◌, sym, ◌∙◌, subst, Ok, Err, arith}
use Rattle.std.proofs.lemmas.Grind.{common_steps}
use Rattle.std.specs.Prelude.{MatchOption, IsOkAnd}
use Rattle.std.proofs.lemmas.Bool.{le-ltb}
use Rattle.gateway_book.specs.Answer.{IsAsked, no_band, too_long, past_end, first_some, refusal_of}
use Rattle.resv_list.specs.Reservations.{IsByStart}
use Rattle.gateway_book.specs.declared.refusal.Refusal.{Refusal}
use Rattle.gateway_book.proofs.SoundLaws.{admits, may_book}
use Rattle.gateway_book.proofs.AdmittedLaws.{not_refused, answer_duty, answer_match, overlap_asked, duty_asked}
use Rattle.gateway_book.specs.Book.{Book, IsSound, terms_of}
use Rattle.gateway_book.proofs.book.GatewayBook.admitted.Goals as goal

pub returns-in-Some-duty_full-clause-answer : goal.returns-in-Some-duty_full-clause-answer
returns-in-Some-duty_full-clause-answer g c =
    let now = c.args.self.now in
    let ask = c.args.ask in
    let r = c.in_ok-reservation.reservation in
    let refusal = c.in-Some-duty_full.refusal in
    let told = not_refused (first_some (no_band ask ∷ too_long ask ∷ past_end ask ∷ [])) r ask c.in_ok-reservation.ensures in
    let P : Book → Type 0 = λ b. nat_lt ask.start b.floor ≡ false in
    let ahead : P now = subst P c.self.view_is (le-ltb ask.start c.self.inside.floor c.if-ask-self.false) in
    let clear = overlap_asked now.rules.gap now.list ask r told.1 (sym c.first_overlap.ensures ∙ c.in_default.is) in
    let full = duty_asked now.list ask r refusal told.1 (sym c.duty_full.ensures ∙ c.in-Some-duty_full.is) in
    answer_match (refusal_of (terms_of now) now.list ask) refusal ask
    (answer_duty (terms_of now) now.list ask refusal told.0 ahead clear full)

pub returns-clause-admits : goal.returns-clause-admits
returns-clause-admits g c =
    let now = c.args.self.now in
    let ask = c.args.ask in
    let r = c.in_ok-reservation.reservation in
    let answer : MatchOption (refusal_of (terms_of now) now.list ask) (IsOkAnd {E = Refusal} (Ok r) (IsAsked ask))
    (λ refusal. Ok r ≡ Err refusal) = grind (arith, common_steps) in
    let told = not_refused (refusal_of (terms_of now) now.list ask) r ask answer in
    let P : Book → Type 0 = λ b. IsByStart b.list in
    let sound : IsSound now = subst IsSound c.self.view_is c.self.invariant in
    admits now r sound (subst P c.self.view_is (g.met.R.Roster.by_start c.self.inside.roster))
    (may_book now ask r sound told.1 told.0)
