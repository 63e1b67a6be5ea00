-- With the parts that the crew had, the till has the parts that it had before.
use Rattle.std.proofs.Common.{◌≡◌, ◌+◌, ◌≤◌, ap, arith, subst, IfOk, vec_len}
use Rattle.server_workers.specs.Counts.{WereAsked}
use Rattle.server_workers.specs.Works.{outcomes_airtime}
use Rattle.server_workers.proofs.CrewLemmas.{summed_ok, summed_err}
use Rattle.server_workers.proofs.serving.serve_with.Goals as goal

pub returns-clause-till : goal.returns-clause-till
returns-clause-till g c =
    let left = ap (λ t. t.parts) c.hired-crew.ensures.till in
    let few : vec_len c.in-Ok.outfit.lists ≤ 16 = rw c.in-Ok.is at c.requires.few in
    let parts : c.hired-crew.new.till.parts + vec_len c.hired-crew.result ≡ c.args.till.parts =
    omega (arith, left, c.hired-crew.ensures.count, c.requires.parts, few) in
    let amount = ap (λ t. t.amount) c.hired-crew.ensures.till in
    summed_ok c.args.till c.hired-crew.new.till (vec_len c.hired-crew.result) parts amount (λ s. s.till)
    (λ s. outcomes_airtime s.outcomes.items) c.summed_up.result c.summed_up.ensures.till

pub returns-clause-back : goal.returns-clause-back
returns-clause-back g c =
    let left = ap (λ t. t.parts) c.hired-crew.ensures.till in
    let few : vec_len c.in-Ok.outfit.lists ≤ 16 = rw c.in-Ok.is at c.requires.few in
    let parts : c.hired-crew.new.till.parts + vec_len c.hired-crew.result ≡ c.args.till.parts =
    omega (arith, left, c.hired-crew.ensures.count, c.requires.parts, few) in
    let amount = ap (λ t. t.amount) c.hired-crew.ensures.till in
    summed_err c.args.till c.hired-crew.new.till (vec_len c.hired-crew.result) parts amount
    (λ f. f.till) c.summed_up.result c.summed_up.ensures.back

pub returns-clause-ran : goal.returns-clause-ran
returns-clause-ran g c =
    rw c.in-Ok.is (subst (λ n. IfOk c.summed_up.result (λ s. (1 ≤ s.ran) × (s.ran ≤ n))) c.hired-crew.ensures.count
    c.summed_up.ensures.ran)

pub returns-clause-asked : goal.returns-clause-asked
returns-clause-asked g c =
    rw c.in-Ok.is (subst (λ n. IfOk c.summed_up.result (λ s. WereAsked n s.counts)) c.hired-crew.ensures.count
    c.summed_up.ensures.asked)
