use Rattle.server_core.proofs.Words.{seen, usual_limits}
use Rattle.server_core.proofs.Openings.{if_ok, opened_empty}
use Rattle.server_core.proofs.server.Server.new.Goals as goal

pub returns : goal.returns
returns g c =
    if_ok c.opened.result
    (λ server o. opened_empty c.args.settings.now usual_limits _ _ (seen server) c.in_ok-books.ensures.empty o)
    c.opened.ensures.opens
