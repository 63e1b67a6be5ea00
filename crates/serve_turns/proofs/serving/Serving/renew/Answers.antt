use Rattle.std.proofs.Common.{◌∙◌, ap}
use Rattle.serve_turns.proofs.Oks.{if_both}
use Rattle.serve_turns.proofs.serving.Serving.renew.Goals as goal

pub returns-clause-between : goal.returns-clause-between
returns-clause-between g c =
    if_both c.renew.result _ _ _
    (λ did text. record { ready = did.ready; told = ap (λ t. t.writer.items) text ∙ c.requires.between.told }) c.renew.ensures.done
    c.renew.ensures.text
