use Rattle.std.proofs.Common.{◌≡◌, ◌∙◌, ap, subst, rules, false}
use Rattle.std.specs.Prelude.{insert}
use Rattle.run_server.specs.Booking.{booking_of}
use Rattle.run_server.specs.Numbered.{IsEndOfLesser}
use Rattle.run_server.proofs.BookingLemmas.{number_of, one_more_is_flagged, bookings-insert}
use Rattle.run_server.proofs.receipts.Receipts.add.Goals as goal

pub invariant_of-self-2 : goal.invariant_of-self-2
invariant_of-self-2 c =
    let receipts = c.self.inside.receipts.items in
    let flags = c.self.inside.are_cancelled.items in
    let at = c.end_of_lesser-at.result in
    let r = (booking_of c.args.receipt).receipt in
    let more : c.put.new.items.items ≡ insert receipts at r = search rules in
    let flagged : c.put-2.new.items.items ≡ insert flags at false = search rules in
    rw (more, flagged)
    (one_more_is_flagged receipts flags r false at c.self.invariant
    (subst (λ l. IsEndOfLesser number_of r.number l at) c.deref.ensures.value c.end_of_lesser-at.ensures))

pub returns : goal.returns
returns c =
    let receipts = c.self.inside.receipts.items in
    let flags = c.self.inside.are_cancelled.items in
    let at = c.end_of_lesser-at.result in
    let r = (booking_of c.args.receipt).receipt in
    let more : c.put.new.items.items ≡ insert receipts at r = search rules in
    let flagged : c.put-2.new.items.items ≡ insert flags at false = search rules in (
      at,
      rw (more, flagged)
          (bookings-insert receipts flags at r false c.self.invariant.same_length
          ∙ ap (λ l. insert l at (booking_of c.args.receipt)) c.self.view_is),
    )
