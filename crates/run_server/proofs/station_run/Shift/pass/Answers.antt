use Rattle.std.proofs.Common.{subst, sym}
use Rattle.air_ledger.specs.Tills.{Holding}
use Rattle.run_server.specs.declared.station_pass.Told.{Told}
use Rattle.run_server.specs.PassTold.{IsPassTold}
use Rattle.run_server.proofs.DoneLemmas.{dealt_with, of_ok, some_left}
use Rattle.run_server.proofs.station_run.Shift.pass.Goals as goal

pub returns-clause-done : goal.returns-clause-done
returns-clause-done g c =
    let told = c.in_ok-told.told in
    let ids = c.args.self.station.value in
    let after = c.answer_with_workers-till.result.till in
    record {
      numbers = c.in_ok-numbers.numbers.items;
      closed = c.in_ok-numbers.ensures;
      answered =
          dealt_with ids c.args.place c.in_ok-numbers.numbers.items _ _
          (some_left c.as_slice.result.now c.in_ok-numbers.numbers.items c.is_empty.result c.is_empty.ensures c.if-is_empty.false
          c.as_slice.ensures.value)
          (record {
            answers = told.answers.items;
            booked = told.booked.items;
            pass =
                subst (λ (h : Holding). IsPassTold ids c.args.self.till h c.in_ok-numbers.numbers.items told.answers.items
                told.booked.items) (sym c.take_in.ensures.till)
                (subst (λ s. IsPassTold s c.args.self.till after c.in_ok-numbers.numbers.items told.answers.items
                told.booked.items) c.deref.ensures
                (subst (λ l. IsPassTold c.deref.result.now c.args.self.till after l told.answers.items told.booked.items)
                c.as_slice-2.ensures.value
                (of_ok (λ (t : Told). IsPassTold c.deref.result.now c.args.self.till after c.as_slice-2.result.now
                t.answers.items t.booked.items)
                c.answer_with_workers-till.result.told told c.in_ok-told.was c.answer_with_workers-till.ensures.told)));
            told = c.in_ok-take_in.ensures.told;
            kept = c.in_ok-take_in.ensures.kept;
          });
    }
