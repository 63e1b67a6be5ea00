use Rattle.std.proofs.Common.{◌≡◌, ◌+◌, ◌<◌, ◌≤◌, All, vec_len, vec_capacity}
use Rattle.std.specs.Vec.Iter.{into_iter_items, into_iter_len}
use Rattle.server_workers.specs.Filing.{AreEmptyFor}
use Rattle.server_workers.proofs.serving.hired.Given as goal

abbrev pub invariant-loop-own : goal.invariant-loop-own
invariant-loop-own g l =
    record {
      amount : l.till.amount ≡ l.fn.till.amount;
      parts : l.till.parts + vec_len l.fn.lists ≡ l.fn.till.parts + into_iter_len l.own-iterator;
      some : vec_len l.fn.lists < l.fn.till.parts;
      count : vec_len l.crew + into_iter_len l.own-iterator ≡ vec_len l.fn.lists;
      places : vec_len l.fn.lists ≤ vec_capacity l.crew;
      empty : All (λ own. AreEmptyFor g.K.Room.room own) (into_iter_items l.own-iterator);
    }
