use Rattle.server_core.proofs.Openings.{books_for, if_ok}
use Rattle.server_core.proofs.books.empty_books.Goals as goal

pub returns-clause-each : goal.returns-clause-each
returns-clause-each g c =
    if_ok c.books_of.result
    (λ books e. books_for books.items c.args.settings.now.gateways (rw c.gateways.ensures.list at e)) c.books_of.ensures
