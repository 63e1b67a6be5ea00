use Rattle.std.proofs.Common.{◌∙◌, ap, nat_lt, refl, sym}
use Rattle.std.proofs.lemmas.Bool.{le-ltb}
use Rattle.serve_turns.specs.Turn.{told_every}
use Rattle.serve_turns.proofs.Oks.{if_ok}
use Rattle.serve_turns.proofs.Passes.{report_said, told_then}
use Rattle.serve_turns.proofs.answerer.Answerer.report.Goals as goal

pub returns : goal.returns
returns g c =
    if_ok c.say_drops.result _ _
    (λ made. report_said c.args.now c.args.self.now _ c.say_drops.new.self
    (ap (λ n. nat_lt n told_every) (sym c.saturating_sub.ensures) ∙ le-ltb _ _ c.if-saturating_sub-lt-TOLD_EVERY.false)
    (told_then c.args.now c.args.self.now _ (record { server = refl; set = refl; counts = refl; known = refl; kept = refl; drops = refl; text = refl }) refl) made)
    c.say_drops.ensures
