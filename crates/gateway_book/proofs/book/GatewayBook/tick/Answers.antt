use Rattle.std.proofs.Common.{arith}
use Rattle.gateway_book.proofs.SoundLaws.{sound_dropped, dropped_fits, ticked_dropped, ticked_remembers}
use Rattle.gateway_book.proofs.book.GatewayBook.tick.Goals as goal

pub overflow_add-self : goal.overflow_add-self
overflow_add-self g c =
    omega (
      arith,
      dropped_fits _ c.saturating_sub.result c.drop_before-dropped.result.airtime c.self.invariant
          c.drop_before-dropped.ensures.airtime,
    )

pub invariant_of-self : goal.invariant_of-self
invariant_of-self g c =
    sound_dropped _ c.max-self-inside.result c.saturating_sub.result c.drop_before-dropped.result.airtime
    (g.R.Roster.list c.drop_before-dropped.new.self) c.self.invariant (g.met.R.Roster.by_start c.self.inside.roster)
    c.saturating_sub.ensures c.drop_before-dropped.ensures.left c.drop_before-dropped.ensures.airtime

pub returns-clause-ticked : goal.returns-clause-ticked
returns-clause-ticked g c =
    ticked_dropped _ c.args.self.now c.args.now c.max-self-inside.result c.saturating_sub.result
    c.drop_before-dropped.result.airtime (g.R.Roster.list c.drop_before-dropped.new.self) c.self.view_is
    (g.met.R.Roster.by_start c.self.inside.roster) c.max-self-inside.ensures c.saturating_sub.ensures
    c.drop_before-dropped.ensures.left c.drop_before-dropped.ensures.airtime

pub returns-clause-step : goal.returns-clause-step
returns-clause-step g c = ticked_remembers c.args.self.now _ c.args.now
    (ticked_dropped _ c.args.self.now c.args.now c.max-self-inside.result c.saturating_sub.result
    c.drop_before-dropped.result.airtime (g.R.Roster.list c.drop_before-dropped.new.self) c.self.view_is
    (g.met.R.Roster.by_start c.self.inside.roster) c.max-self-inside.ensures c.saturating_sub.ensures
    c.drop_before-dropped.ensures.left c.drop_before-dropped.ensures.airtime)
