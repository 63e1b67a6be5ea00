use Rattle.std.proofs.Common.{sym, ap, subst}
use Rattle.resv_list.specs.Reservations.{IsFree}
use Rattle.gateway_book.specs.Book.{Book, IsSound, with_booked}
use Rattle.gateway_book.proofs.book.GatewayBook.add.Goals as goal

pub insert-requires : goal.insert-requires
insert-requires g c =
    let P : Book → Type 0 = λ b. IsFree c.args.reservation.start b.list in
    subst P (sym c.self.view_is) c.requires.free

pub invariant_of-self : goal.invariant_of-self
invariant_of-self g c =
    let P : Book → Type 0 = λ b. IsSound (with_booked b c.args.reservation) in
    rw (c.in-Ok.ensures.placed, c.airtime.ensures.value) (subst P (sym c.self.view_is) c.requires.sound)

pub returns-in-Ok-clause-added : goal.returns-in-Ok-clause-added
returns-in-Ok-clause-added g c =
    rw (c.in-Ok.ensures.placed, c.airtime.ensures.value)
    (ap (λ (b : Book). with_booked b c.args.reservation) c.self.view_is)
