use Rattle.std.proofs.Common.{◌∷◌, []}
use Rattle.server_core.specs.Server.{seen}
use Rattle.serve_downlinks.specs.Batch.{addr_in, addressed, sent_of}
use Rattle.serve_downlinks.proofs.Texts.{texts_join}
use Rattle.serve_downlinks.proofs.batch.add_downlink.Goals as goal

pub returns : goal.returns
returns g c =
    texts_join c.add_sent.result c.args.batch.now.items c.add_addressed.new.batch.items c.add_sent.new.batch.items
    (addressed (seen c.args.server.now).desk.reg.devices c.args.device_sessions.now c.args.downlink.now.frame.now
    (addr_in c.args.downlink.now.frame.now))
    (sent_of c.args.downlink.now.candidate ∷ []) c.in_ok-add_addressed.ensures c.add_sent.ensures
