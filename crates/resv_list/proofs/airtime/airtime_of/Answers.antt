use Rattle.std.proofs.Common.{◌≡◌, ◌∙◌, rules}
use Rattle.std.specs.List.{sum_by}
use Rattle.resv_list.specs.Reservations.{airtime_us}
use Rattle.resv_list.proofs.NetLemmas.{net-sum_by}
use Rattle.resv_list.proofs.airtime.airtime_of.Goals as goal

pub returns : goal.returns
returns c =
    let whole : c.sum.result ≡ sum_by airtime_us c.args.members.now = search rules in
    whole ∙ net-sum_by c.args.members.now
