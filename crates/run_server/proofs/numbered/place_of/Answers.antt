use Rattle.std.proofs.Common.{refl}
use Rattle.run_server.proofs.NumberLemmas.{all_lesser, told_by}
use Rattle.run_server.proofs.numbered.place_of.Goals as goal

pub returns-in_err-get-clause-found : goal.returns-in_err-get-clause-found
returns-in_err-get-clause-found g c =
    rw c.from_residual.ensures
    (all_lesser g.T.Numbered.number_of c.args.number c.args.items.now c.requires c.end_of_lesser-at.result
    c.end_of_lesser-at.ensures c.in_err-get.ensures.lookup.3)

pub returns-clause-found : goal.returns-clause-found
returns-clause-found g c =
    let there = c.in_ok-get.ensures.lookup.3 in
    rw (c.then_some.ensures, c.number.ensures)
    (told_by g.T.Numbered.number_of c.args.number c.args.items.now c.requires c.end_of_lesser-at.result
    c.end_of_lesser-at.ensures c.in_ok-get.field-0.now _ refl there.0 there.1)
