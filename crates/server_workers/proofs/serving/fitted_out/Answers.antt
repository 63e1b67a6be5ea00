use Rattle.std.proofs.Common.{◌≡◌, ◌*◌, ap, ◌∙◌, length, vec_capacity, subst}
use Rattle.server_workers.specs.Filing.{AreEmptyFor}
use Rattle.server_workers.proofs.CrewLemmas.{within_reach}
use Rattle.server_workers.proofs.serving.fitted_out.Goals as goal

-- a list has the room, so the product isn't too great
pub returns-clause-all : goal.returns-clause-all
returns-clause-all g c =
    let list = c.in_ok-with_room.field-0.receipts in
    let e : c.saturating_mul-room.result ≡ c.args.workers * length c.args.numbers.now =
    within_reach (c.from.result * length c.args.numbers.now) c.saturating_mul-room.result
    (vec_capacity list) c.in_ok-with_room.ensures.receipts.fits c.saturating_mul-room.ensures list.small
    ∙ ap (λ n. n * length c.args.numbers.now) c.from.ensures in
    subst (λ n. AreEmptyFor n c.in_ok-with_room.field-0) e c.in_ok-with_room.ensures
