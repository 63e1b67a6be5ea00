use Rattle.std.proofs.Common.{◌≡◌, map, take}
use Rattle.serve_turns.specs.NewDesk.{set_as_book}
use Rattle.serve_turns.proofs.new_desk.gateways_of.Given as goal

abbrev pub invariant-loop-book : goal.invariant-loop-book
invariant-loop-book g l = l.gateways.items ≡ map set_as_book (take l.book-index l.books)
