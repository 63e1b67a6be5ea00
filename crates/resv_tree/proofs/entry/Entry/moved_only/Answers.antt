use Rattle.std.proofs.Common.{arith, sym, ◌∙◌}
use Rattle.resv_tree.specs.Sums.{quarters_in}
use Rattle.resv_tree.proofs.EntryLemmas.{in_band, amount_of, own_same}
use Rattle.resv_tree.proofs.StillLemmas.{nothing_beside}
use Rattle.resv_tree.proofs.entry.Entry.moved_only.Goals as goal

pub returns-then-not-is_in : goal.returns-then-not-is_in
returns-then-not-is_in c =
    let e = c.args.self.now in
    let more = quarters_in c.args.more.now in
    let less = quarters_in c.args.less.now in
    let other = sym c.is_in.ensures ∙ c.if-not-is_in.true in
    let none = nothing_beside more less e.reservation c.args.band c.requires.only other in
    own_same e _ _ (omega (arith, none))

pub moved-own-requires : goal.moved-own-requires
moved-own-requires c =
    let r = c.args.self.now.reservation in
    let here = in_band r c.args.band (sym c.is_in.ensures ∙ c.if-not-is_in.false) in
    record {
      fits = omega (
        arith,
        c.requires.fits,
        c.quarters.ensures,
        c.quarters-2.ensures,
        amount_of (quarters_in c.args.more.now) r c.args.band here,
        amount_of (quarters_in c.args.less.now) r c.args.band here,
      );
    }

pub returns : goal.returns
returns c =
    let e = c.args.self.now in
    let here = in_band e.reservation c.args.band (sym c.is_in.ensures ∙ c.if-not-is_in.false) in
    own_same e _ _ (omega (
      arith,
      c.moved-own.ensures,
      c.quarters.ensures,
      c.quarters-2.ensures,
      amount_of (quarters_in c.args.more.now) e.reservation c.args.band here,
      amount_of (quarters_in c.args.less.now) e.reservation c.args.band here,
    ))
