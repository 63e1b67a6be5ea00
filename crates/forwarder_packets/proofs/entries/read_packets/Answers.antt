use Rattle.std.proofs.Common.{◌≡◌, ◌∙◌, sym, ap, subst, map}
use Rattle.std.specs.Prelude.{Ok, IfOk}
use Rattle.json.specs.Json.{document}
use Rattle.forwarder_packets.specs.Entries.{of_document, packets_of}
use Rattle.forwarder_packets.specs.Seen.{received}
use Rattle.forwarder_packets.proofs.Arrays.{packets_of-text, packets_of-other}
use Rattle.forwarder_packets.proofs.entries.read_packets.Goals as goal

pub returns-in-Err-clause-fault : goal.returns-in-Err-clause-fault
returns-in-Err-clause-fault g c = λ h. packets_of-other _ c.in-Err.ensures.cases.0

pub returns-in-Ok-clause-packets : goal.returns-in-Ok-clause-packets
returns-in-Ok-clause-packets g c =
    let said : of_document (document c.in-Ok.text.now) ≡ packets_of c.args.bytes.now =
    ap (λ b. of_document (document b)) c.in-Ok.ensures.cases.0 ∙ sym (packets_of-text _ c.in-Ok.ensures.cases.1) in
    subst (λ s. IfOk c.read_text.result (λ entries. s ≡ Ok (map received entries.items))) said c.read_text.ensures.packets
