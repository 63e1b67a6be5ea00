use Rattle.std.proofs.Common.{List, sym, subst, ◌∙◌}
use Rattle.gateway_book.specs.Answer.{Rules}
use Rattle.resv_list.specs.declared.reservation.Reservation.{Reservation}
use Rattle.gateway_book.specs.Book.{IsSound}
use Rattle.gateway_book.proofs.SoundLaws.{sound_empty, within}
use Rattle.gateway_book.proofs.book.GatewayBook.new.Goals as goal

pub invariant_of-result : goal.invariant_of-result
invariant_of-result g c =
    let rules : Rules = record { cap = c.args.cap; gap = c.args.gap } in
    let h = within rules (sym c.open_fault.ensures ∙ c.in_default.is) in
    let P : List Reservation → Type 0 = λ l. IsSound (record
    { id = c.args.id; rules = rules; floor = 0; list = l; booked = 0; cancelled = 0; retired = 0 }) in
    subst P (sym c.requires) (sound_empty c.args.id rules 0 h.0 h.1 h.2)
