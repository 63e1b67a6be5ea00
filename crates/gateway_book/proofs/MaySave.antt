use Rattle.std.proofs.Common.{arith}
use Rattle.gateway_book.specs.Loading.{BooksMayBeSaved}

-- A book in memory may be saved.

pub books_may_be_saved : BooksMayBeSaved
books_may_be_saved b sound held = record {
  id = held.id;
  floor = held.floor;
  members = held.members;
  list = record {
    opened = sound.opened;
    capped = sound.capped;
    counted = sound.counted;
    by_start = held.by_start;
    rested = sound.rested;
    lawful = sound.lawful;
    kept_whole = sound.kept_whole;
    covered = omega arith;
    bounded = omega (arith, sound.balanced, sound.bounded);
  };
}
