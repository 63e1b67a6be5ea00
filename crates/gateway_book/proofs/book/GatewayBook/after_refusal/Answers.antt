use Rattle.std.proofs.Common.{◌≡◌, ℕ, Option, Some, None, sym, ap, ◌∙◌, subst}
use Rattle.resv_list.specs.Reservations.{IsByStart, member_from}
use Rattle.gateway_book.specs.declared.refusal.Refusal.TheVariants.{Taken, DutyFull}
use Rattle.gateway_book.specs.Answer.{refusal_of}
use Rattle.gateway_book.specs.Book.{Book, terms_of}
use Rattle.gateway_book.specs.Disjoint.{rested_from}
use Rattle.gateway_book.specs.Duty.{after_full_hour}
use Rattle.gateway_book.specs.Earliest.{IsNextStart}
use Rattle.gateway_book.proofs.EarliestLaws.{found_taken, next_full, next_none}
use Rattle.gateway_book.proofs.book.GatewayBook.after_refusal.Goals as goal

pub returns-in_err-member-in-Taken : goal.returns-in_err-member-in-Taken
returns-in_err-member-in-Taken g c =
    let now = c.args.self.now in
    let P : Book → Type 0 = λ b. IsByStart b.list in
    let Q : Book → Type 0 = λ b. member_from c.in-Taken.start b.list ≡ None in
    let R : Option ℕ → Type 0 = λ o. IsNextStart (terms_of now) now.list c.args.ask o in
    let e : refusal_of (terms_of now) now.list c.args.ask ≡ Some (Taken c.in-Taken.start) =
    c.requires.refused ∙ ap Some c.in-Taken.is in
    subst R (sym c.from_residual.ensures) (found_taken (terms_of now) now.list c.args.ask c.in-Taken.start None
    (subst P c.self.view_is (g.met.R.Roster.by_start c.self.inside.roster)) e
    (subst Q c.self.view_is (sym c.first_from.ensures ∙ c.in_err-member-in-Taken.was)))

pub returns-in_ok-member-in-Taken : goal.returns-in_ok-member-in-Taken
returns-in_ok-member-in-Taken g c =
    let now = c.args.self.now in
    let m = c.in_ok-member-in-Taken.member in
    let P : Book → Type 0 = λ b. IsByStart b.list in
    let Q : Book → Type 0 = λ b. member_from c.in-Taken.start b.list ≡ Some m in
    let R : ℕ → Type 0 = λ n. IsNextStart (terms_of now) now.list c.args.ask (Some n) in
    let S : Book → Type 0 = λ b. c.rested_from.result ≡ rested_from b.rules.gap m in
    let e : refusal_of (terms_of now) now.list c.args.ask ≡ Some (Taken c.in-Taken.start) =
    c.requires.refused ∙ ap Some c.in-Taken.is in
    subst R (sym (subst S c.self.view_is c.rested_from.ensures))
    (found_taken (terms_of now) now.list c.args.ask c.in-Taken.start (Some m)
    (subst P c.self.view_is (g.met.R.Roster.by_start c.self.inside.roster)) e
    (subst Q c.self.view_is (sym c.first_from.ensures ∙ c.in_ok-member-in-Taken.was)))

pub returns-in-DutyFull : goal.returns-in-DutyFull
returns-in-DutyFull g c =
    let now = c.args.self.now in
    let f = c.in-DutyFull in
    let P : Book → Type 0 = λ b. IsByStart b.list in
    let Q : Book → Type 0 = λ b. c.after_full_hour.result ≡ after_full_hour b.list f.band c.args.ask.start f.from in
    let R : Option ℕ → Type 0 = λ o. IsNextStart (terms_of now) now.list c.args.ask o in
    let e : refusal_of (terms_of now) now.list c.args.ask ≡ Some (DutyFull f.band f.from f.spent) =
    c.requires.refused ∙ ap Some f.is in
    subst R (sym (subst Q c.self.view_is c.after_full_hour.ensures)) (next_full (terms_of now) now.list c.args.ask f.band f.from
    f.spent (subst P c.self.view_is (g.met.R.Roster.by_start c.self.inside.roster)) e)

pub returns-in_default : goal.returns-in_default
returns-in_default g c =
    let now = c.args.self.now in
    next_none (terms_of now) now.list c.args.ask c.args.refusal c.requires.late c.requires.refused
    (λ start e. c.in_default.not-Taken start e) (λ band from sum e. c.in_default.not-DutyFull band from sum e)
