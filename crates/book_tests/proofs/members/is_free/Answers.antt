use Rattle.std.specs.Prelude.{◌≢◌, Some, None}
use Rattle.std.proofs.Common.{arith}
use Rattle.std.proofs.lemmas.Bool.Decides.{nat_tests}
use Rattle.resv_list.specs.Reservations.{start_of}
use Rattle.resv_list.specs.Free.{free_where_missed}
use Rattle.book_tests.proofs.members.is_free.Goals as goal

pub returns-in-Some : goal.returns-in-Some
returns-in-Some g c n =
    let other : c.in-Some.member.start ≢ c.args.start = grind (arith, nat_tests) in
    free_where_missed start_of c.args.start 0 (g.R.Roster.list c.args.roster.now) (Some c.in-Some.member) c.in-Some.ensures other
    (g.met.R.Roster.by_start c.args.roster.now)

pub returns-in-None : goal.returns-in-None
returns-in-None g c n = free_where_missed start_of c.args.start 0 (g.R.Roster.list c.args.roster.now) None c.in-None.ensures tt
    (g.met.R.Roster.by_start c.args.roster.now)
