use Rattle.std.proofs.Common.{◌≡◌, All, vec_len, vec_capacity}
use Rattle.server_workers.specs.Filing.{AreEmptyFor}
use Rattle.server_workers.proofs.serving.lists_for.Given as goal

abbrev pub invariant-loop-worker : goal.invariant-loop-worker
invariant-loop-worker g l =
    record {
      count : vec_len l.lists ≡ l._worker;
      places : vec_capacity l.lists ≡ l.workers;
      empty : All (λ own. AreEmptyFor l.room own) l.lists.items;
    }
