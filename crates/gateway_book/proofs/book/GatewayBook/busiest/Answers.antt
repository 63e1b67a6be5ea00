use Rattle.std.proofs.Common.{◌≡◌, subst}
use Rattle.gateway_book.specs.Book.{Book}
use Rattle.gateway_book.specs.Busiest.{busiest_of}
use Rattle.gateway_book.proofs.BusiestLaws.{busiest_is_exact}
use Rattle.gateway_book.proofs.book.GatewayBook.busiest.Goals as goal

pub returns-clause-hour : goal.returns-clause-hour
returns-clause-hour g c =
    let P : Book → Type 0 = λ b. c.busiest_hour.result ≡ busiest_of b.list c.args.band in
    (busiest_is_exact c.args.self.now.list c.args.band c.busiest_hour.result).1 (subst P c.self.view_is c.busiest_hour.ensures)
