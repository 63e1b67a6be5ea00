use Rattle.resv_tree.proofs.AheadLemmas.{sums_bounded, step_bounded, step_covers, step_given, step_ahead}
use Rattle.resv_tree.proofs.hours.Hours.next.Goals as goal

pub taken_in-count-requires-clause-fits : goal.taken_in-count-requires-clause-fits
taken_in-count-requires-clause-fits c =
    sums_bounded c.args.self.now.left.now c.args.self.now.ahead.now c.args.self.now.sums c.requires c.args.self.now.ahead_of

pub taken_out-self-requires-clause-covers : goal.taken_out-self-requires-clause-covers
taken_out-self-requires-clause-covers c =
    step_covers c.args.self.now.left.now c.args.self.now.ahead.now c.args.self.now.sums c.taken_in-count.result.1
    c.taken_in-count.result.0 c.index-self-0.result c.requires c.args.self.now.ahead_of c.taken_in-count.ensures.all
    c.taken_in-count.ensures.sums

pub taken_out-self-requires-clause-fits : goal.taken_out-self-requires-clause-fits
taken_out-self-requires-clause-fits c =
    step_bounded c.args.self.now.left.now c.args.self.now.ahead.now c.args.self.now.sums c.taken_in-count.result.1
    c.taken_in-count.result.0 c.index-self-0.result c.requires c.args.self.now.ahead_of c.taken_in-count.ensures.all
    c.taken_in-count.ensures.sums

pub invariant_of-self : goal.invariant_of-self
invariant_of-self c =
    record {
      ahead_of =
          step_ahead c.args.self.now.left.now c.args.self.now.ahead.now c.args.self.now.sums c.taken_in-count.result.1
          c.taken_in-count.result.0 c.index-self-0.result c.requires c.args.self.now.ahead_of c.taken_in-count.ensures.all
          c.taken_in-count.ensures.sums c.taken_out-self.result c.taken_out-self.ensures;
    }

pub returns-clause-given : goal.returns-clause-given
returns-clause-given c =
    step_given c.args.self.now.left.now c.args.self.now.ahead.now c.args.self.now.sums c.taken_in-count.result.1
    c.taken_in-count.result.0 c.index-self-0.result c.requires c.args.self.now.ahead_of c.taken_in-count.ensures.all
    c.taken_in-count.ensures.sums c.band.result c.quarters-own.result c.band.ensures c.quarters-own.ensures
