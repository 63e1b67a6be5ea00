use Rattle.std.proofs.Common.{◌≡◌, ◌∙◌, sym, ap, subst}
use Rattle.std.specs.Prelude.{IfOk}
use Rattle.json.specs.Json.{document}
use Rattle.forwarder_packets.specs.TxAck.{failure, failure_of_document, failure_of_text}
use Rattle.forwarder_packets.proofs.Acks.{failure-text, failure-other}
use Rattle.forwarder_packets.proofs.tx_ack.read_bytes.Goals as goal

pub returns-in-Err : goal.returns-in-Err
returns-in-Err g c =
    subst (λ s. IfOk c.failed.result (λ ack. failure ack ≡ s)) (sym (failure-other _ c.in-Err.ensures.cases.0)) c.failed.ensures

pub returns-in-Ok : goal.returns-in-Ok
returns-in-Ok g c =
    let said : failure_of_document (document c.in-Ok.text.now) ≡ failure_of_text c.args.bytes.now =
    ap (λ b. failure_of_document (document b)) c.in-Ok.ensures.cases.0 ∙ sym (failure-text _ c.in-Ok.ensures.cases.1) in
    subst (λ s. IfOk c.read_text.result (λ ack. failure ack ≡ s)) said c.read_text.ensures
