use Rattle.std.proofs.Common.{◌≡◌, ◌≤◌, ◌+◌, ◌++◌, [], map, vec_len, vec_capacity}
use Rattle.std.specs.Vec.Iter.{drain_items, drain_len, drain_kept, drain_capacity}
use Rattle.server_station.proofs.shelf.take_out.Given as goal

abbrev pub invariant-loop-place : goal.invariant-loop-place
invariant-loop-place g l = record {
  same : map (λ s. s.0) l.shelf.items ++ drain_items l.place-iterator ≡ l.fn.places.items;
  room : vec_len l.shelf + drain_len l.place-iterator ≤ vec_capacity l.shelf;
  len : vec_len l.shelf + drain_len l.place-iterator ≡ vec_len l.fn.places;
  kept : drain_kept l.place-iterator ≡ [];
  kept_room : vec_len l.shelf + drain_len l.place-iterator ≤ drain_capacity l.place-iterator;
}
