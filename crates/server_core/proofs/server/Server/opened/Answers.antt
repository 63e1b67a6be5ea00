use Rattle.server_core.proofs.Words.{refl}
use Rattle.server_core.proofs.Openings.{server_opened}
use Rattle.server_core.proofs.server.Server.opened.Goals as goal

pub returns-clause-opens : goal.returns-clause-opens
returns-clause-opens g c = server_opened c.args.settings.now c.args.limits c.args.books.items _ _ c.requires
    (rw c.deref.ensures.value at c.law_each_whole.ensures) c.in_ok-desk.ensures refl refl c.new-2.ensures.items
