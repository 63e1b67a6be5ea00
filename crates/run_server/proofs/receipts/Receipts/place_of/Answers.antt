use Rattle.std.proofs.Common.{◌≡◌, ◌<◌, ◌∙◌, length, sym, ap, subst, IfSome}
use Rattle.std.specs.Prelude.{slice_get}
use Rattle.std.specs.Option.{option_and_then}
use Rattle.run_server.specs.Bookings.{bookings_in, booked_for}
use Rattle.run_server.proofs.BookingLemmas.{length-bookings, first_booked}
use Rattle.run_server.proofs.receipts.Receipts.place_of.Goals as goal

pub returns-clause-within : goal.returns-clause-within
returns-clause-within c =
    let flags = c.self.inside.are_cancelled.items in
    subst (λ n. IfSome c.place_of.result (λ at. at < n))
    (ap length c.as_slice.ensures.value
    ∙ sym (length-bookings c.self.inside.receipts.items flags c.self.invariant.same_length) ∙ ap length c.self.view_is)
    c.place_of.ensures.within

pub returns-clause-found : goal.returns-clause-found
returns-clause-found c =
    let flags = c.self.inside.are_cancelled.items in
    let asked = c.as_slice.result.now in
    subst (λ l. option_and_then (slice_get l) c.place_of.result ≡ booked_for c.args.number l)
    (ap (λ l. bookings_in l flags) c.as_slice.ensures.value ∙ c.self.view_is)
    (first_booked c.args.number asked flags c.place_of.result
    (c.self.invariant.same_length ∙ ap length (sym c.as_slice.ensures.value)) c.place_of.ensures.first
    c.place_of.ensures.within c.place_of.ensures.found)
