use Rattle.std.proofs.Common.{◌∙◌, ◌++◌, ap, length, map, nat_lt, refl, subst, sym}
use Rattle.std.proofs.lemmas.List.{length-map}
use Rattle.text_lines.specs.Line.{text_of}
use Rattle.serve_downlinks.specs.Downlinks.{to_send}
use Rattle.serve_turns.specs.Sending.{asked, asking_kept, asking_kept_effects, keeping_back, kept_back, sendable}
use Rattle.serve_turns.specs.Life.{Makes, telling}
use Rattle.serve_turns.specs.Turn.{Did, Broke}
use Rattle.serve_turns.proofs.Oks.{if_err, if_ok, on_err}
use Rattle.serve_turns.proofs.Lives.{makes_then, told_more}
use Rattle.serve_turns.proofs.Sendings.{fewer_kept_back, kept_some, no_keeping, sends_broke, sends_cut, sends_done, sends_unkept}
use Rattle.serve_turns.proofs.answerer.Answerer.send_downlinks.Goals as goal

pub returns-then-is_none-clause-done : goal.returns-then-is_none-clause-done
returns-then-is_none-clause-done g c =
    sends_unkept c.args.now (map (λ e. e.line) c.args.entries.now) c.args.self.now _ c.requires.ready
    (no_keeping c.args.self.now.keeping c.if-is_none.ensures)

pub returns-in_err-downlinks-clause-broken : goal.returns-in_err-downlinks-clause-broken
returns-in_err-downlinks-clause-broken g c =
    on_err c.from_residual.result _ (sends_broke c.args.now (map (λ e. e.line) c.args.entries.now) c.args.self.now _)

pub returns-in_err-ready-clause-broken : goal.returns-in_err-ready-clause-broken
returns-in_err-ready-clause-broken g c =
    on_err c.from_residual-in_err-ready.result _
    (sends_broke c.args.now (map (λ e. e.line) c.args.entries.now) c.args.self.now _)

pub returns-in_err-asks-clause-broken : goal.returns-in_err-asks-clause-broken
returns-in_err-asks-clause-broken g c =
    on_err c.from_residual-in_err-asks.result _
    (sends_broke c.args.now (map (λ e. e.line) c.args.entries.now) c.args.self.now _)

pub returns-in_err-put_kept_back-clause-broken : goal.returns-in_err-put_kept_back-clause-broken
returns-in_err-put_kept_back-clause-broken g c =
    on_err c.from_residual-in_err-put_kept_back.result _
    (sends_broke c.args.now (map (λ e. e.line) c.args.entries.now) c.args.self.now _)

pub returns-clause-done : goal.returns-clause-done
returns-clause-done g c =
    let lines = map (λ e. e.line) c.args.entries.now in
    let old = c.args.self.now in
    let ks = old.forwarders.sessions.items in
    let middle = record old { text = c.put_kept_back.new.text } in
    let keeps = kept_some old.keeping c.if-is_none.ensures in
    let found = map to_send c.in_ok-downlinks.downlinks.items in
    let may = c.in_ok-ready.ensures ∙ ap (λ fs. sendable fs (map to_send c.deref.result.now)) c.sessions.ensures
    ∙ ap (λ ds. sendable ks (map to_send ds)) c.deref.ensures.value in
    let are = c.in_ok-asks.ensures ∙ ap (λ fs. asked fs (map to_send c.deref-2.result.now)) c.sessions-2.ensures
    ∙ ap (λ ds. asked ks (map to_send ds)) c.deref-2.ensures.value in
    let told = told_more (kept_back ks found) old middle c.requires.ready refl
    (record { set = refl; known = refl; kept = refl; drops = refl; told_at = refl; counts = refl })
    (c.in_ok-put_kept_back.ensures
    ∙ ap (λ fs. old.text.writer.items ++ text_of (kept_back fs (map to_send c.deref-3.result.now))) c.sessions-3.ensures
    ∙ ap (λ ds. old.text.writer.items ++ text_of (kept_back ks (map to_send ds))) c.deref-3.ensures.value) in
    let fewer = c.is_shorter.ensures ∙ ap (λ these. nat_lt (length these) (length c.deref-5.result.now)) c.deref-4.ensures.value
    ∙ ap (λ those. nat_lt (length c.in_ok-ready.ready.items) (length those)) c.deref-5.ensures.value
    ∙ fewer_kept_back ks found (map to_send c.in_ok-ready.ready.items) _ _ (sym (length-map c.in_ok-ready.ready.items to_send))
    (sym (length-map c.in_ok-downlinks.downlinks.items to_send)) may in
    let back = makes_then (telling (kept_back ks found)) _ old middle c.keep_back.new.self told
    (subst (λ any. Makes (keeping_back any) middle c.keep_back.new.self) fewer c.keep_back.ensures) in
    if_ok c.ask.result _ _
    (λ did. sends_done c.args.now lines old (g.H.Host.effects c.args.host.now) (g.H.Host.effects c.ask.new.host) keeps.0 found
    (map to_send c.in_ok-ready.ready.items) c.in_ok-asks.asks.items c.keep_back.new.self keeps.1 c.in_ok-downlinks.ensures may are back c.ask.new.self
    (subst (λ x. Did (g.H.Host.effects c.args.host.now) (g.H.Host.effects c.ask.new.host)
    (asking_kept c.args.now (map to_send c.in_ok-ready.ready.items) x)
    (asking_kept_effects c.args.now (map to_send c.in_ok-ready.ready.items) x) c.keep_back.new.self c.ask.new.self) c.deref-7.ensures.value
    (subst (λ x. Did (g.H.Host.effects c.args.host.now) (g.H.Host.effects c.ask.new.host)
    (asking_kept c.args.now (map to_send x) c.deref-7.result.now)
    (asking_kept_effects c.args.now (map to_send x) c.deref-7.result.now) c.keep_back.new.self c.ask.new.self) c.deref-6.ensures.value did)))
    c.ask.ensures.done

pub returns-clause-broken : goal.returns-clause-broken
returns-clause-broken g c =
    let lines = map (λ e. e.line) c.args.entries.now in
    let old = c.args.self.now in
    let ks = old.forwarders.sessions.items in
    let middle = record old { text = c.put_kept_back.new.text } in
    let keeps = kept_some old.keeping c.if-is_none.ensures in
    let found = map to_send c.in_ok-downlinks.downlinks.items in
    let may = c.in_ok-ready.ensures ∙ ap (λ fs. sendable fs (map to_send c.deref.result.now)) c.sessions.ensures
    ∙ ap (λ ds. sendable ks (map to_send ds)) c.deref.ensures.value in
    let are = c.in_ok-asks.ensures ∙ ap (λ fs. asked fs (map to_send c.deref-2.result.now)) c.sessions-2.ensures
    ∙ ap (λ ds. asked ks (map to_send ds)) c.deref-2.ensures.value in
    let told = told_more (kept_back ks found) old middle c.requires.ready refl
    (record { set = refl; known = refl; kept = refl; drops = refl; told_at = refl; counts = refl })
    (c.in_ok-put_kept_back.ensures
    ∙ ap (λ fs. old.text.writer.items ++ text_of (kept_back fs (map to_send c.deref-3.result.now))) c.sessions-3.ensures
    ∙ ap (λ ds. old.text.writer.items ++ text_of (kept_back ks (map to_send ds))) c.deref-3.ensures.value) in
    let fewer = c.is_shorter.ensures ∙ ap (λ these. nat_lt (length these) (length c.deref-5.result.now)) c.deref-4.ensures.value
    ∙ ap (λ those. nat_lt (length c.in_ok-ready.ready.items) (length those)) c.deref-5.ensures.value
    ∙ fewer_kept_back ks found (map to_send c.in_ok-ready.ready.items) _ _ (sym (length-map c.in_ok-ready.ready.items to_send))
    (sym (length-map c.in_ok-downlinks.downlinks.items to_send)) may in
    let back = makes_then (telling (kept_back ks found)) _ old middle c.keep_back.new.self told
    (subst (λ any. Makes (keeping_back any) middle c.keep_back.new.self) fewer c.keep_back.ensures) in
    if_err c.ask.result _ _
    (λ broke. sends_cut c.args.now lines old (g.H.Host.effects c.args.host.now) (g.H.Host.effects c.ask.new.host) keeps.0 found
    (map to_send c.in_ok-ready.ready.items) c.in_ok-asks.asks.items c.keep_back.new.self keeps.1 c.in_ok-downlinks.ensures may are back
    (subst (λ x. Broke (g.H.Host.effects c.args.host.now) (g.H.Host.effects c.ask.new.host)
    (asking_kept_effects c.args.now (map to_send c.in_ok-ready.ready.items) x) c.keep_back.new.self) c.deref-7.ensures.value
    (subst (λ x. Broke (g.H.Host.effects c.args.host.now) (g.H.Host.effects c.ask.new.host)
    (asking_kept_effects c.args.now (map to_send x) c.deref-7.result.now) c.keep_back.new.self) c.deref-6.ensures.value broke)))
    c.ask.ensures.broken
