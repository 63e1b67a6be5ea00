use Rattle.std.proofs.Common.{◌-◌, ◌<◌, ◌≤◌, length, arith}
use Rattle.std.proofs.lemmas.Bool.Decides.{nat_tests}
use Rattle.std.proofs.lemmas.List.Elements.{at_read}
use Rattle.run_server.proofs.NumberLemmas.{between}
use Rattle.run_server.proofs.numbered.is_end_of_lesser.Goals.{else-at-gt0-via-then-at-gt0+else-number}
use Rattle.run_server.proofs.numbered.is_end_of_lesser.Goals.{else-at-gt0-via-else-at-gt0}
use Rattle.run_server.proofs.numbered.is_end_of_lesser.Goals as goal

pub returns-else-at-items : goal.returns-else-at-items
returns-else-at-items g c =
    let inside : c.args.at < length c.args.items.now = grind (arith, nat_tests, c.requires.within, c.if-at-items.false) in
    λ t.
    between g.T.Numbered.number_of c.args.number c.args.items.now c.requires.rising c.args.at c.requires.within
    (elim c.else-at-gt0.branch [
      | else-at-gt0-via-then-at-gt0+else-number w ↦ λ d l.
          at_read c.args.items.now (λ x. g.T.Numbered.number_of x < c.args.number) (c.args.at - 1) w.index-items-at.result
          (omega (arith, l, inside)) w.index-items-at.is
          (grind (arith, nat_tests, w.if-number.false, w.number.ensures)) d
      | else-at-gt0-via-else-at-gt0 w ↦ λ d l. absurd (omega (arith, l, w.if-at-gt0.false))
    ])
    (λ d l.
    at_read c.args.items.now (λ x. c.args.number ≤ g.T.Numbered.number_of x) c.args.at
    c.index-items-at-else-at-items.result inside c.index-items-at-else-at-items.is
    (grind (arith, nat_tests, t, c.number-else-at-items.ensures)) d)

pub returns-then-at-items : goal.returns-then-at-items
returns-then-at-items g c = λ t.
    between g.T.Numbered.number_of c.args.number c.args.items.now c.requires.rising c.args.at c.requires.within
    (elim c.else-at-gt0.branch [
      | else-at-gt0-via-then-at-gt0+else-number w ↦ λ d l.
          at_read c.args.items.now (λ x. g.T.Numbered.number_of x < c.args.number) (c.args.at - 1) w.index-items-at.result
          (omega (arith, l, c.requires.within)) w.index-items-at.is
          (grind (arith, nat_tests, w.if-number.false, w.number.ensures)) d
      | else-at-gt0-via-else-at-gt0 w ↦ λ d l. absurd (omega (arith, l, w.if-at-gt0.false))
    ])
    (λ d l. absurd (omega (arith, l, c.if-at-items.true)))
