-- What the threads are passed may be sent and shared: part by part.
use denote.Param.Send.{Quiet-if}
use denote.Exit.{unseen}
use Rattle.std.proofs.Common.{rules}
use Rattle.server_workers.proofs.serving.run.Goals as goal

pub scoped-requires : goal.scoped-requires
scoped-requires g c =
    let may = c.type_bounds in
    record {
      at = λ a. (
        record { owned = may.send-K.owned; leaving = λ k. Quiet-if _ unseen unseen (λ x w. tt) (λ x w. tt) },
        record { owned = may.send-B.owned; leaving = λ k. Quiet-if _ unseen unseen (λ x w. tt) (λ x w. tt) },
        record { owned = may.send-S.owned; leaving = λ k. Quiet-if _ unseen unseen (λ x w. tt) (λ x w. tt) },
        search rules,
        record { owned = may.send-S-Hasher.owned; leaving = λ k. Quiet-if _ unseen unseen (λ x w. tt) (λ x w. tt) },
        search rules,
        search rules,
        search rules,
        search rules,
        search rules,
        search rules,
        search rules,
        search rules,
      );
    }
