use Rattle.server_core.proofs.Words.{All, IsWhole}
use Rattle.std.proofs.Common.{take}
use Rattle.server_core.proofs.books.law_each_whole.Given as goal

abbrev pub invariant-loop-book : goal.invariant-loop-book
invariant-loop-book g l = All IsWhole (take l.book-index l.books)
