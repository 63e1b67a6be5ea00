use Rattle.std.proofs.Common.{◌≡◌, ◌≤◌, ◌+◌, ◌++◌, map, vec_len, vec_capacity}
use Rattle.std.specs.Vec.Iter.{into_iter_items, into_iter_len}
use Rattle.server_station.specs.Closings.{with_totals}
use Rattle.server_station.proofs.shelf.part.Given as goal

abbrev pub invariant-loop-id : goal.invariant-loop-id
invariant-loop-id g l = record {
  totals : l.totals.items ++ map with_totals (into_iter_items l.id-iterator) ≡ map with_totals l.fn.shelf.items;
  books : l.books.items ++ map (λ s. s.1) (into_iter_items l.id-iterator) ≡ map (λ s. s.1) l.fn.shelf.items;
  totals_room : vec_len l.totals + into_iter_len l.id-iterator ≤ vec_capacity l.totals;
  books_room : vec_len l.books + into_iter_len l.id-iterator ≤ vec_capacity l.books;
}
