use Rattle.std.proofs.Common.{◌∙◌, sym, ap, true}
use Rattle.std.specs.Bool.{beq}
use Rattle.std.specs.List.{list_any}
use Rattle.run_server.specs.Bookings.{open_receipts}
use Rattle.run_server.proofs.BookingLemmas.{all_open}
use Rattle.run_server.proofs.receipts.Receipts.not_cancelled.Goals as goal

pub returns-then-not-contains : goal.returns-then-not-contains
returns-then-not-contains c =
    let flags = c.self.inside.are_cancelled.items in
    let none = ap (list_any (λ flag. beq flag true)) (sym c.deref.ensures.value) ∙ sym c.contains.ensures.value
    ∙ c.if-not-contains.true in
    sym (ap open_receipts (sym c.self.view_is)
    ∙ all_open c.self.inside.receipts.items flags c.self.invariant.same_length none)
