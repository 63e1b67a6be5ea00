use Rattle.std.proofs.Common.{sym}
use Rattle.gateway_book.proofs.SoundLaws.{sound_after_cancel}
use Rattle.gateway_book.proofs.book.GatewayBook.cancel.Goals as goal

pub invariant_of-self : goal.invariant_of-self
invariant_of-self g c =
    sound_after_cancel _ c.args.number c.args.start c.in-Some.member
    (g.R.Roster.list c.remove.new.self) c.airtime.result c.self.invariant (g.met.R.Roster.by_start c.self.inside.roster)
    (sym c.in-Some.ensures.member) c.in-Some.ensures.alone c.remove.ensures.left c.airtime.ensures.value
