use Rattle.std.proofs.Common.{◌≡◌, take, ap, subst, sym, map, ◌∙◌, ◌++◌, ◌∷◌, [], All}
use Rattle.std.proofs.lemmas.{List.map_push, List.take_all, List.take_more, List.Elements.All-push}
use Rattle.server_core.specs.Opened.{IsWhole}
use Rattle.serve_opening.specs.Gateways.{setting_of}
use Rattle.serve_opening.proofs.gateway.settings_of.Goals as goal

pub loop-book-preserved : goal.loop-book-preserved
loop-book-preserved g c =
    let all = c.args.books.now in
    let place = c.loop-book.book-index in
    let book = c.book-item.result in
    let more = take_more all place book c.loop-book-test.true ∙ ap (λ b. take place all ++ b ∷ []) (sym c.book-item.is) in
    let here : c.push.new.self.items ≡ map setting_of (take place all) ++ setting_of book ∷ [] =
    cc (c.in_ok-push.ensures.items, c.loop-book.invariant.settings, c.id.ensures, c.cap.ensures, c.gap.ensures) in
    record {
      settings = here ∙ sym (map_push setting_of (take place all) book) ∙ ap (map setting_of) (sym more);
      whole = subst (All IsWhole) (sym more) (All-push IsWhole (take place all) book c.loop-book.invariant.whole c.law_whole.ensures);
    }

pub returns-clause-whole : goal.returns-clause-whole
returns-clause-whole g c =
    subst (All IsWhole) (take_all c.loop-book.book-index c.args.books.now c.loop-book-test.false) c.loop-book.invariant.whole
