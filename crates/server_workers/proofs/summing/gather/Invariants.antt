use Rattle.std.proofs.Common.{◌≡◌, ◌+◌, ◌-◌, ◌*◌, ◌^◌, ◌≤◌, map, vec_len}
use Rattle.server_workers.specs.Filing.{HasRoomFor}
use Rattle.server_workers.specs.Works.{outcomes_airtime}
use Rattle.server_workers.specs.Serving.{begun_count}
use Rattle.server_workers.proofs.CrewLemmas.{IsOwed}
use Rattle.server_workers.proofs.summing.gather.Given as goal

abbrev pub invariant-loop-member : goal.invariant-loop-member
invariant-loop-member g l =
    record {
      room : HasRoomFor (vec_len l.crew * g.K.Room.room) l.all.filed;
      owed : IsOwed l.fn.all (map (λ m. m.worked) l.fn.crew.items) l.all (map (λ m. m.worked) l.crew.items);
      fits : l.all.overrun ≤ 2 ^ 64 - 1;
      parts : l.all.till.parts + vec_len l.crew ≡ l.fn.all.till.parts + vec_len l.fn.crew;
      most : l.fn.all.till.parts + vec_len l.fn.crew ≤ 65536;
      amount : l.all.till.amount + outcomes_airtime l.fn.all.filed.outcomes.items
          ≡ l.fn.all.till.amount + outcomes_airtime l.all.filed.outcomes.items;
      few : l.fn.all.ran + vec_len l.fn.crew ≤ 16;
      ran : l.all.ran + vec_len l.crew ≤ l.fn.all.ran + vec_len l.fn.crew;
      begun : l.all.ran + begun_count (map (λ m. m.has_begun) l.crew.items)
          ≡ l.fn.all.ran + begun_count (map (λ m. m.has_begun) l.fn.crew.items);
      nobody : l.all.ran ≡ 0 → l.all.filed.outcomes.items ≡ l.fn.all.filed.outcomes.items;
    }

abbrev pub decreases-loop-member : goal.decreases-loop-member
decreases-loop-member g l = goal.left-loop-member g l
