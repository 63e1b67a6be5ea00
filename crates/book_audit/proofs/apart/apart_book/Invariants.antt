use Rattle.std.proofs.Common.{◌≡◌, drop}
use Rattle.std.specs.Prelude.{find}
use Rattle.book_audit.specs.Audit.{are_apart, of_books}
use Rattle.book_audit.proofs.apart.apart_book.Given as goal

abbrev pub invariant-loop-shelved : goal.invariant-loop-shelved
invariant-loop-shelved g l =
    find are_apart (of_books l.desk l.shelf) ≡ find are_apart (of_books l.desk (drop l.shelved-index l.shelf))
