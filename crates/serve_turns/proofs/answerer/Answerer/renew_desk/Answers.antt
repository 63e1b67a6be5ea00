use Rattle.std.proofs.Common.{◌∙◌, ap, refl}
use Rattle.server_core.specs.Server.{seen}
use Rattle.serve_turns.proofs.NewDesks.{desk_made}
use Rattle.serve_turns.proofs.Oks.{if_ok}
use Rattle.serve_turns.proofs.answerer.Answerer.renew_desk.Goals as goal

pub returns : goal.returns
returns g c =
    let old = c.args.self.now in
    let middle = record old { server = c.in_ok-self.field-0; forwarders = c.renumber.new.self } in
    if_ok c.queue_all.result _ _
    (desk_made c.args.settings.now c.into_books-books.result.items old middle
    (c.into_books-books.ensures ∙ ap (λ s. (seen s).books) c.replace.ensures.value) c.in_ok-self.ensures.opens c.queue_all.new.self
    c.in_ok-waiting.waiting.items
    (record { set = refl; known = c.renumber.ensures; kept = refl; drops = refl; told_at = refl; counts = refl; text = refl })
    c.in_ok-waiting.ensures)
    c.queue_all.ensures
