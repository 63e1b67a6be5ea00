use Rattle.std.proofs.Common.{length, sym, ap, ◌∙◌, arith, Option}
use Rattle.resv_list.proofs.SortedLaws.{length-place_by}
use Rattle.resv_list.specs.declared.reservation.Reservation.{Reservation}
use Rattle.resv_list.specs.Reservations.{start_of}
use Rattle.gateway_book.specs.Book.{Book, with_booked}
use Rattle.gateway_book.specs.Loading.{joined}
use Rattle.gateway_book.specs.Saved.{saved_of, opened_again}
use Rattle.gateway_book.proofs.Joining.{followed, found_follower, again_behind, on_ok}
use Rattle.gateway_book.proofs.book.GatewayBook.join.Goals as goal

pub returns-clause-joined : goal.returns-clause-joined
returns-clause-joined g c =
    let now = c.args.self.now in
    let r = c.in-Some.reservation in
    let found = found_follower (saved_of now) c.args.ask r (sym c.in-Some.is ∙ c.follower.ensures.answer) in
    let follows = followed (saved_of now) c.args.ask r found.0 found.1 in
    on_ok c.add.result c.map_err.result c.map_err.ensures.variant c.add.ensures.added
    (λ e. e ∙ ap (λ (b : Book). with_booked b r) c.requires ∙ again_behind (saved_of now) r follows.last
    ∙ ap (λ (o : Option Reservation). opened_again (joined (saved_of now) o)) (sym found.1))

pub returns-clause-longer : goal.returns-clause-longer
returns-clause-longer g c =
    on_ok c.add.result c.map_err.result c.map_err.ensures.variant c.add.ensures.added
    (λ e. ap (λ (b : Book). length b.list) e ∙ length-place_by start_of c.in-Some.reservation c.args.self.now.list)

pub returns-clause-room : goal.returns-clause-room
returns-clause-room g c =
    let sound = c.in-Some.ensures.admits.sound in
    on_ok c.add.result c.map_err.result c.map_err.ensures.variant c.add.ensures.added
    (λ e. omega (
      arith,
      length-place_by start_of c.in-Some.reservation c.args.self.now.list,
      sound.counted,
      sound.capped,
    ))
