use Rattle.serve_turns.specs.Effects.{given}
use Rattle.serve_turns.proofs.Oks.{if_ok, on_err}
use Rattle.serve_turns.proofs.Acts.{act_broke_desk, act_broke_first, act_broke_passing, act_broke_renewing, act_broke_telling, act_done}
use Rattle.serve_turns.proofs.serving.Serving.act.Goals as goal

pub returns-in_err-take-clause-broken : goal.returns-in_err-take-clause-broken
returns-in_err-take-clause-broken g c =
    let a = c.args.self.now.answerer in
    on_err c.from_residual.result _
    (act_broke_first g.row.A.Denot c.args.now (given c.args.came c.args.room.now) (g.H.Host.effects c.args.host.now) (g.H.Host.effects c.take.new.host) (g.H.Host.effects c.take.new.host) (g.H.Host.effects c.take.new.host) a a a a a c.in_err-take.ensures.broken)

pub returns-in_err-pass-clause-broken : goal.returns-in_err-pass-clause-broken
returns-in_err-pass-clause-broken g c =
    let a = c.args.self.now.answerer in
    let b = c.take.new.self.answerer in
    on_err c.from_residual-in_err-pass.result _
    (act_broke_passing g.row.A.Denot c.args.now (given c.args.came c.args.room.now) (g.H.Host.effects c.args.host.now) (g.H.Host.effects c.take.new.host) (g.H.Host.effects c.pass.new.host) (g.H.Host.effects c.pass.new.host) a b b b b c.in_ok-take.ensures.done
    c.in_err-pass.ensures.broken)

pub returns-in_err-report-clause-broken : goal.returns-in_err-report-clause-broken
returns-in_err-report-clause-broken g c =
    let a = c.args.self.now.answerer in
    let b = c.take.new.self.answerer in
    let d = c.pass.new.self in
    on_err c.from_residual-in_err-report.result _
    (act_broke_telling g.row.A.Denot c.args.now (given c.args.came c.args.room.now) (g.H.Host.effects c.args.host.now) (g.H.Host.effects c.take.new.host) (g.H.Host.effects c.pass.new.host) (g.H.Host.effects c.pass.new.host) a b d d d c.in_ok-take.ensures.done
    c.in_ok-pass.ensures.done)

pub returns-in_err-renew_if_due-clause-broken : goal.returns-in_err-renew_if_due-clause-broken
returns-in_err-renew_if_due-clause-broken g c =
    let a = c.args.self.now.answerer in
    on_err c.from_residual-in_err-renew_if_due.result _
    (act_broke_renewing g.row.A.Denot c.args.now (given c.args.came c.args.room.now) (g.H.Host.effects c.args.host.now)
    (g.H.Host.effects c.take.new.host) (g.H.Host.effects c.pass.new.host) (g.H.Host.effects c.renew_if_due.new.host) a
    c.take.new.self.answerer c.pass.new.self c.report.new.self c.renew_if_due.new.self c.in_ok-take.ensures.done
    c.in_ok-pass.ensures.done c.in_ok-report.ensures c.in_err-renew_if_due.ensures.broken)

pub returns-clause-done : goal.returns-clause-done
returns-clause-done g c =
    let a = c.args.self.now.answerer in
    if_ok c.renew_desk_if_due.result _ _
    (λ made. act_done g.row.A.Denot c.args.now (given c.args.came c.args.room.now) (g.H.Host.effects c.args.host.now)
    (g.H.Host.effects c.take.new.host) (g.H.Host.effects c.pass.new.host) (g.H.Host.effects c.renew_if_due.new.host) a
    c.take.new.self.answerer c.pass.new.self c.report.new.self c.renew_if_due.new.self c.in_ok-take.ensures.done
    c.in_ok-pass.ensures.done c.in_ok-report.ensures c.in_ok-renew_if_due.ensures.done c.renew_desk_if_due.new.self made)
    c.renew_desk_if_due.ensures

pub returns-clause-broken : goal.returns-clause-broken
returns-clause-broken g c =
    let a = c.args.self.now.answerer in
    on_err c.renew_desk_if_due.result _
    (act_broke_desk g.row.A.Denot c.args.now (given c.args.came c.args.room.now) (g.H.Host.effects c.args.host.now)
    (g.H.Host.effects c.take.new.host) (g.H.Host.effects c.pass.new.host) (g.H.Host.effects c.renew_if_due.new.host) a
    c.take.new.self.answerer c.pass.new.self c.report.new.self c.renew_if_due.new.self c.in_ok-take.ensures.done
    c.in_ok-pass.ensures.done c.in_ok-report.ensures c.in_ok-renew_if_due.ensures.done)
