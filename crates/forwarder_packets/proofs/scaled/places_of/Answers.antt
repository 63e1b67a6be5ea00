use Rattle.std.proofs.Common.{◌≤◌, ◌<◌, ◌*◌, ℕ, List, arith, length, take, sym, subst}
use Rattle.std.proofs.lemmas.List.{length-take}
use Rattle.forwarder_packets.proofs.Digits.{taken_digits, shifted_small}
use Rattle.forwarder_packets.proofs.scaled.places_of.Goals as goal

pub value_of-requires-clause-digits : goal.value_of-requires-clause-digits
value_of-requires-clause-digits c = taken_digits c.min.result c.args.digits.now c.requires.digits

pub returns-clause-small : goal.returns-clause-small
returns-clause-small c =
    let kept : List ℕ = take c.min.result c.args.digits.now in
    let le : length kept ≤ c.args.places = omega (arith, length-take c.min.result c.args.digits.now, c.min.ensures) in
    let whole = shifted_small c.value_of.result (length kept) c.args.places c.value_of.ensures.small le c.requires.places in
    subst (λ n. c.value_of.result * n < 1000000) (sym c.ten_to.ensures.value) whole
