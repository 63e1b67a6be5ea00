use Rattle.std.proofs.Common.{◌≤◌, ◌<◌, ◌∙◌, Some, ap, length, subst, sym}
use Rattle.std.specs.Prelude.{is_some, not}
use Rattle.server_desk.specs.Register.{counters_of, device_with}
use Rattle.serve_journal.specs.Payload.{payload_of}
use Rattle.serve_turns.proofs.Controls.{batch_of_full, batch_of_none, batch_of_taken, none_by, there_by}
use Rattle.serve_turns.proofs.answerer.Answerer.queue_batch.Goals as goal
use Rattle.serve_turns.proofs.answerer.Answerer.queue_batch.Goals.{then-is_none-via-then-is_none, then-is_none-via-else-is_none+then-waiting-ge-QUEUE_LIMIT}

pub returns-then-is_none : goal.returns-then-is_none
returns-then-is_none g c =
    let q = c.args.queued.now in
    let found = device_with q.addr c.args.self.now.server.desk.reg.devices in
    elim c.then-is_none.branch [
      | then-is_none-via-then-is_none w ↦
          sym (batch_of_none q found (none_by (λ f. counters_of f.1) found
          (ap is_some (sym c.device.ensures) ∙ c.is_none.ensures ∙ ap not w.if-is_none.true)))
      | then-is_none-via-else-is_none+then-waiting-ge-QUEUE_LIMIT w ↦
          sym (batch_of_full q found (subst (λ l. 16 ≤ length l) w.waiting.ensures w.if-waiting-ge-QUEUE_LIMIT.true))
    ]

pub returns-in_ok-waits_batch-in-Some : goal.returns-in_ok-waits_batch-in-Some
returns-in_ok-waits_batch-in-Some g c =
    let q = c.args.queued.now in
    let found = device_with q.addr c.args.self.now.server.desk.reg.devices in
    ap Some c.in_ok-waits_batch-in-Some.ensures
    ∙ sym (batch_of_taken q found c.in-Some.payload
    (there_by (λ f. counters_of f.1) found (ap is_some (sym c.device.ensures) ∙ c.is_none.ensures ∙ ap not c.if-is_none.false))
    (subst (λ l. length l < 16) c.waiting.ensures c.if-waiting-ge-QUEUE_LIMIT.false)
    (ap (payload_of q.port) (sym c.as_slice.ensures) ∙ sym c.new.ensures ∙ c.in-Some.is))
