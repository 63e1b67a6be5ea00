use Rattle.std.proofs.Common.{◌≡◌, ◌⊎◌, inl, inr, ◌∙◌, ◌++◌, length, sym, ap, map, append-nil}
use Rattle.run_server.specs.Bookings.{open_receipts}
use Rattle.run_server.proofs.BookingLemmas.{booking_at, none_behind}
use Rattle.run_server.proofs.receipts.open_receipts.Goals as goal

pub returns : goal.returns
returns c =
    let receipts = c.loop-receipt.receipt-iterator.a.rest in
    let flags = c.loop-receipt.receipt-iterator.b.rest in
    let told = map booking_at c.loop-receipt.yielded in
    let end : (length receipts.items ≡ 0) ⊎ (length flags.items ≡ 0) = elim c.in-None.ensures.steps [
      | inl p ↦ inl (sym receipts.ok.0 ∙ p.1.0)
      | inr p ↦ inr (sym flags.ok.0 ∙ p.1.0)
    ] in
    c.loop-receipt.invariant.kept
    ∙ ap open_receipts (sym (append-nil told) ∙ ap (λ l. told ++ l) (sym (none_behind receipts.items flags.items end))
    ∙ c.loop-receipt.invariant.left)
