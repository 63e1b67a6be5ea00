use Rattle.std.proofs.Common.{◌≡◌, ◌∙◌, ◌++◌, List, ap, drop, take, is_some, length, map, None, refl, subst, sym}
use Rattle.std.proofs.Math.Seq.{take-append_seam}
use Rattle.server_core.specs.Server.{seen}
use Rattle.serve_downlinks.specs.Downlinks.{to_send}
use Rattle.serve_downlinks.specs.Batch.{batch_entries, batch_text, knows}
use Rattle.serve_turns.specs.Effects.{Adds}
use Rattle.serve_turns.specs.Life.{Makes}
use Rattle.serve_turns.specs.Sending.{Asked, delivered_as, delivering, unwritten}
use Rattle.serve_turns.proofs.Oks.{if_ok, on_err, some_at}
use Rattle.serve_turns.proofs.Lives.{told_more}
use Rattle.serve_turns.proofs.Sendings.{asks_broke, asks_done, asks_failed, asks_none, asks_unkept, asks_untold, never, none_asked, once, some_asked}
use Rattle.serve_turns.proofs.answerer.Answerer.ask.Goals as goal

pub returns-then-is_empty-clause-done : goal.returns-then-is_empty-clause-done
returns-then-is_empty-clause-done g c =
    asks_none c.args.now (map to_send c.args.ready.now) c.args.asks.now c.args.self.now _ c.requires.ready
    (none_asked c.args.asks.now c.if-is_empty.ensures)

pub returns-in_default-clause-done : goal.returns-in_default-clause-done
returns-in_default-clause-done g c =
    asks_unkept c.args.now (map to_send c.args.ready.now) c.args.asks.now c.args.self.now _ c.requires.ready c.in_default.is

pub returns-then-is_some-clause-done : goal.returns-then-is_some-clause-done
returns-then-is_some-clause-done g c =
    let failed = once c.in-Some.keeping.failed_at
    (ap is_some (sym c.failed_at.ensures) ∙ sym c.is_some.ensures ∙ c.if-is_some.true) in
    if_ok c.put_unwritten.result _ _
    (λ text. asks_failed c.args.now (map to_send c.args.ready.now) c.args.asks.now c.args.self.now _ c.in-Some.keeping failed.0 _
    (some_asked c.args.asks.now c.if-is_empty.ensures) c.in-Some.is failed.1
    (told_more (unwritten c.args.asks.now) c.args.self.now _ c.requires.ready refl
    (record { set = refl; known = refl; kept = refl; drops = refl; told_at = refl; counts = refl }) text))
    c.put_unwritten.ensures

pub returns-then-is_some-clause-broken : goal.returns-then-is_some-clause-broken
returns-then-is_some-clause-broken g c =
    on_err c.put_unwritten.result _ (asks_broke c.args.now (map to_send c.args.ready.now) c.args.asks.now c.args.self.now _)

pub returns-in_err-batch-clause-broken : goal.returns-in_err-batch-clause-broken
returns-in_err-batch-clause-broken g c =
    on_err c.from_residual.result _ (asks_broke c.args.now (map to_send c.args.ready.now) c.args.asks.now c.args.self.now _)

pub returns-in_err-went-clause-broken : goal.returns-in_err-went-clause-broken
returns-in_err-went-clause-broken g c =
    on_err c.from_residual-in_err-went.result _
    (asks_broke c.args.now (map to_send c.args.ready.now) c.args.asks.now c.args.self.now _)

pub returns-clause-done : goal.returns-clause-done
returns-clause-done g c =
    let now = c.args.now in
    let ds = map to_send c.args.ready.now in
    let asks : List Asked = c.args.asks.now in
    let k = c.in-Some.keeping in
    let old = c.args.self.now in
    let went = c.deliver-written.new.went in
    let batch = c.in_ok-batch.batch.items in
    let well : k.failed_at ≡ None = never k.failed_at
    (ap is_some (sym c.failed_at.ensures) ∙ sym c.is_some.ensures ∙ c.if-is_some.false) in
    let is : batch ≡ batch_text (batch_entries (knows (seen old.server) old.forwarders.sessions.items k.sessions now) ds) =
    c.in_ok-batch.ensures
    ∙ ap (λ fs. batch_text (batch_entries (knows (seen old.server) fs c.sessions.result.now now) ds)) c.sessions-sessions.ensures
    ∙ ap (λ vs. batch_text (batch_entries (knows (seen old.server) old.forwarders.sessions.items vs now) ds)) c.sessions.ensures in
    if_ok c.tell_delivered.result _ _
    (λ made. asks_done now ds asks old (g.H.Host.effects c.args.host.now) (g.H.Host.effects c.deliver-written.new.host) k
    (record { written = c.deliver-written.result; went = went }) batch (some_asked asks c.if-is_empty.ensures) c.in-Some.is well is
    (subst (λ b. Adds (g.H.Host.effects c.args.host.now) (g.H.Host.effects c.deliver-written.new.host)
    (delivering (record { written = c.deliver-written.result; went = went }) b asks)) c.deref.ensures.value
    c.deliver-written.ensures.done)
    c.tell_delivered.new.self
    (subst (λ b. Makes (delivered_as c.deliver-written.result now went (length b) asks k) old c.tell_delivered.new.self)
    c.deref-2.ensures.value
    (subst (λ w. Makes (delivered_as c.deliver-written.result now w (length c.deref-2.result.now) asks k) old
    c.tell_delivered.new.self)
    (c.deref-3.ensures.value
    ∙ ap (λ n. take n (went ++ drop (length went) c.in_ok-went.went.items))
    (c.in_ok-went.ensures.len ∙ sym c.deliver-written.ensures.len)
    ∙ take-append_seam went (drop (length went) c.in_ok-went.went.items))
    (some_at old.keeping k _ c.in-Some.is made))))
    c.tell_delivered.ensures

pub returns-clause-broken : goal.returns-clause-broken
returns-clause-broken g c =
    let now = c.args.now in
    let ds = map to_send c.args.ready.now in
    let asks : List Asked = c.args.asks.now in
    let k = c.in-Some.keeping in
    let old = c.args.self.now in
    let went = c.deliver-written.new.went in
    let batch = c.in_ok-batch.batch.items in
    let well : k.failed_at ≡ None = never k.failed_at
    (ap is_some (sym c.failed_at.ensures) ∙ sym c.is_some.ensures ∙ c.if-is_some.false) in
    let is : batch ≡ batch_text (batch_entries (knows (seen old.server) old.forwarders.sessions.items k.sessions now) ds) =
    c.in_ok-batch.ensures
    ∙ ap (λ fs. batch_text (batch_entries (knows (seen old.server) fs c.sessions.result.now now) ds)) c.sessions-sessions.ensures
    ∙ ap (λ vs. batch_text (batch_entries (knows (seen old.server) old.forwarders.sessions.items vs now) ds)) c.sessions.ensures in
    on_err c.tell_delivered.result _
    (asks_untold now ds asks old (g.H.Host.effects c.args.host.now) (g.H.Host.effects c.deliver-written.new.host) k
    (record { written = c.deliver-written.result; went = went }) batch (some_asked asks c.if-is_empty.ensures) c.in-Some.is well is
    (subst (λ b. Adds (g.H.Host.effects c.args.host.now) (g.H.Host.effects c.deliver-written.new.host)
    (delivering (record { written = c.deliver-written.result; went = went }) b asks)) c.deref.ensures.value
    c.deliver-written.ensures.done))
