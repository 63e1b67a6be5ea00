use Rattle.std.proofs.Common.{◌≡◌, ◌≤◌, ◌+◌, ◌++◌, map, vec_len, vec_capacity}
use Rattle.std.specs.Vec.Iter.{into_iter_items, into_iter_len}
use Rattle.server_station.proofs.shelf.put_back.Given as goal

abbrev pub invariant-loop-id : goal.invariant-loop-id
invariant-loop-id g l = record {
  same : l.places.items ++ map (λ s. s.0) (into_iter_items l.id-iterator) ≡ map (λ s. s.0) l.fn.shelf.items;
  room : vec_len l.places + into_iter_len l.id-iterator ≤ vec_capacity l.places;
}
