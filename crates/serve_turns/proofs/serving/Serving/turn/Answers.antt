use Rattle.std.proofs.Common.{[], ◌∷◌, None, Some, ap, arith, subst}
use Rattle.std.specs.Prelude.{OnErr}
use Rattle.serve_turns.specs.Effects.{Adds, Shows, given}
use Rattle.serve_turns.specs.Turn.{IsCut, rests, waits}
use Rattle.serve_turns.proofs.Effects.{adds_then}
use Rattle.serve_turns.proofs.Oks.{if_ok}
use Rattle.serve_turns.proofs.Turns.{turn_made, turn_cut, turn_broken}
use Rattle.serve_turns.proofs.serving.Serving.turn.Goals as goal

pub returns-in_default-clause-clock : goal.returns-in_default-clause-clock
returns-in_default-clause-clock g c _ =
    let came = given c.wait-came.result c.wait-came.new.room in
    record {
      came = came;
      shown = None;
      late = tt;
      seen = adds_then _ _ _ (waits (rests c.args.self.now) came ∷ []) (Shows None ∷ []) c.wait-came.ensures.waited
          (subst (λ n. Adds (g.H.Host.effects c.wait-came.new.host) (g.H.Host.effects c.now.new.self) (Shows n ∷ [])) c.in_default.is
          c.now.ensures);
    }

pub returns-then-now-gt-LAST_MOMENT-clause-clock : goal.returns-then-now-gt-LAST_MOMENT-clause-clock
returns-then-now-gt-LAST_MOMENT-clause-clock g c _ =
    let came = given c.wait-came.result c.wait-came.new.room in
    record {
      came = came;
      shown = Some c.in-Some.now;
      late = omega (arith, c.if-now-gt-LAST_MOMENT.true);
      seen = adds_then _ _ _ (waits (rests c.args.self.now) came ∷ []) (Shows (Some c.in-Some.now) ∷ []) c.wait-came.ensures.waited
          (subst (λ n. Adds (g.H.Host.effects c.wait-came.new.host) (g.H.Host.effects c.now.new.self) (Shows n ∷ [])) c.in-Some.is
          c.now.ensures);
    }

pub returns-in-Ok-clause-done : goal.returns-in-Ok-clause-done
returns-in-Ok-clause-done g c =
    if_ok c.tell.result _ _
    (λ told. turn_made (given c.wait-came.result c.wait-came.new.room) c.in-Some.now c.args.self.now c.act.new.self _
    _ _ _ _ _ (λ r. ap (λ o. given o c.wait-came.new.room) (c.wait-came.ensures.none r))
    told c.wait-came.ensures.waited
    (subst (λ n. Adds (g.H.Host.effects c.wait-came.new.host) (g.H.Host.effects c.now.new.self) (Shows n ∷ [])) c.in-Some.is
    c.now.ensures)
    (omega (arith, c.if-now-gt-LAST_MOMENT.false)) c.in-Ok.ensures.done)
    c.tell.ensures.told

pub returns-in-Ok-clause-write : goal.returns-in-Ok-clause-write
returns-in-Ok-clause-write g c e =
    turn_cut (given c.wait-came.result c.wait-came.new.room) c.in-Some.now c.args.self.now c.act.new.self
    _ _ _ _ _ (λ r. ap (λ o. given o c.wait-came.new.room) (c.wait-came.ensures.none r))
    (subst (λ r. OnErr r (IsCut (g.H.Host.effects c.act.new.host) (g.H.Host.effects c.tell.new.host) c.act.new.self.answerer)) e
    c.tell.ensures.cut)
    c.wait-came.ensures.waited
    (subst (λ n. Adds (g.H.Host.effects c.wait-came.new.host) (g.H.Host.effects c.now.new.self) (Shows n ∷ [])) c.in-Some.is
    c.now.ensures)
    (omega (arith, c.if-now-gt-LAST_MOMENT.false)) c.in-Ok.ensures.done

pub returns-in-Err-clause-memory : goal.returns-in-Err-clause-memory
returns-in-Err-clause-memory g c _ =
    turn_broken (given c.wait-came.result c.wait-came.new.room) c.in-Some.now c.args.self.now _ _ _ _ (λ r. ap (λ o. given o c.wait-came.new.room) (c.wait-came.ensures.none r))
    c.wait-came.ensures.waited
    (subst (λ n. Adds (g.H.Host.effects c.wait-came.new.host) (g.H.Host.effects c.now.new.self) (Shows n ∷ [])) c.in-Some.is
    c.now.ensures)
    (omega (arith, c.if-now-gt-LAST_MOMENT.false)) c.in-Err.ensures.broken
