use Rattle.std.proofs.Common.{◌≡◌, drop, not}
use Rattle.std.specs.Prelude.{filter, find}
use Rattle.book_audit.specs.Audit.{are_apart, has_book, of_others}
use Rattle.book_audit.proofs.apart.without_book.Given as goal

abbrev pub invariant-loop-gateway : goal.invariant-loop-gateway
invariant-loop-gateway g l =
    find are_apart (of_others l.desk (filter (λ id. not (has_book l.shelf id)) l.gateways))
    ≡ find are_apart (of_others l.desk (filter (λ id. not (has_book l.shelf id)) (drop l.gateway-index l.gateways)))
