use Rattle.std.proofs.Common.{List, sym, subst}
use Rattle.resv_list.specs.declared.reservation.Reservation.{Reservation}
use Rattle.gateway_book.specs.Book.{IsSound}
use Rattle.gateway_book.specs.Loading.{saved_empty}
use Rattle.gateway_book.proofs.Joining.{empty_again}
use Rattle.gateway_book.proofs.SoundLaws.{sound_empty, within}
use Rattle.gateway_book.proofs.book.GatewayBook.opened.Goals as goal

pub invariant_of-result : goal.invariant_of-result
invariant_of-result g c =
    let s = saved_empty c.args.gateway in
    let h = within s.rules c.requires.opens in
    let P : List Reservation → Type 0 = λ l. IsSound (record
    { id = s.id; rules = s.rules; floor = s.floor; list = l; booked = 0; cancelled = 0; retired = 0 }) in
    subst P (sym c.requires.empty) (sound_empty s.id s.rules s.floor h.0 h.1 h.2)

pub returns : goal.returns
returns g c = empty_again c.args.gateway (g.R.Roster.list c.args.roster) c.requires.empty
