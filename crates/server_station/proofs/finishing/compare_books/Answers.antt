use Rattle.std.proofs.Common.{sym, ap, subst, refl, map, rules, ◌∙◌}
use Rattle.server_station.specs.Closings.{IsFinishCause}
use Rattle.server_station.proofs.ClosingLemmas.{cause_handed, sum_closed, ids_closed, totals_closed, equal_closed, once_closed}
use Rattle.server_station.proofs.ClosingLemmas.{accounted_closed}
use Rattle.server_station.proofs.finishing.compare_books.Goals as goal

pub returns-in-Err-clause-back : goal.returns-in-Err-clause-back
returns-in-Err-clause-back g c =
    let told = cause_handed (map (λ s. s.0) c.args.lists.shelf.items) c.args.tills.items c.args.receipts.now c.args.desk _ _
    c.deref.ensures.value refl c.in-Err.cause c.in-Err.ensures.cause in
    record {
      cause = subst (IsFinishCause c.args.tills.items (map (λ s. s.0) c.args.lists.shelf.items) c.args.receipts.now)
          (sym (ap (λ f. f.cause) c.new.ensures)) told;
      station = search rules;
      tills = search rules;
    }

pub returns-clause-closed : goal.returns-clause-closed
returns-clause-closed g c =
    let made = c.close.ensures in
    record {
      all_in = c.requires.all_in;
      booked = made.booked;
      answered = search rules;
      sum = sum_closed c.args.desk _ _ _ c.close.result.booked c.deref.ensures.value made.books made.answered c.requires.rising
          c.in_default.ensures.sum;
      gateways = ids_closed _ _ made.totals;
      totals = totals_closed _ _ _ made.totals made.books;
      equal = equal_closed _ _ _ _ _ made.desk c.deref.ensures.value made.totals c.in_default.ensures.equal;
      once = once_closed _ _ _ c.deref.ensures.value made.books c.in_default.ensures.once;
      accounted = accounted_closed _ _ _ _ _ c.deref.ensures.value made.totals made.books c.in_default.ensures.accounted;
    }
