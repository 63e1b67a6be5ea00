use Rattle.server_core.proofs.Words.{seen}
use Rattle.server_core.proofs.{Calls.on_ok, Events.bad_told}
use Rattle.server_core.proofs.calling.ServerEngineUnit.tell_bad.Goals as goal

pub returns-clause-done : goal.returns-clause-done
returns-clause-done g c = on_ok c.told.result
    (λ told. bad_told c.args.place (seen c.args.self.now) (seen c.told.new.self) c.args.line told) c.told.ensures
