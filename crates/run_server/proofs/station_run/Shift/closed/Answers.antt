use Rattle.std.proofs.Common.{rules, ℕ, All, Some, subst, sym}
use Rattle.std.proofs.lemmas.List.Elements.{All-push}
use Rattle.std.proofs.lemmas.List.Filters.{dedup_is, All-dedup}
use Rattle.std.proofs.lemmas.List.Sorted.{All-permutation}
use Rattle.std.proofs.lemmas.Map.Keys.{IsStrictlyIncreasing-dedup}
use Rattle.server_station.specs.Stations.{WasPassed}
use Rattle.run_server.proofs.station_run.Shift.closed.Goals as goal

pub loop-preserved : goal.loop-preserved
loop-preserved g c =
    subst (All (λ n. WasPassed c.args.now (Some n))) (sym c.in_ok-push.ensures.items)
    (All-push (λ n. WasPassed c.args.now (Some n)) c.loop.numbers.items c.in-Some-pass.number c.loop.invariant
    c.in-Some-pass.ensures)

pub returns : goal.returns
returns g c =
    let P : ℕ → Type 0 = λ n. WasPassed c.args.now (Some n) in
    let is = dedup_is _ _ _ c.dedup.ensures.filtered in
    record {
      each = rw is (All-dedup _ P _ (All-permutation P _ _ c.sort_unstable.ensures.permutation c.loop.invariant));
      until = search rules;
      rising = rw is (IsStrictlyIncreasing-dedup _ c.sort_unstable.ensures.sorted);
    }
