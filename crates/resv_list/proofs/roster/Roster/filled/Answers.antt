use Rattle.std.proofs.Common.{◌≡◌, ◌+◌, List, [], ◌∷◌, ◌++◌, drop, ap, sym, ◌∙◌, subst, append_assoc}
use Rattle.std.proofs.lemmas.List.{at_drop_more}
use Rattle.resv_list.specs.declared.reservation.Reservation.{Reservation}
use Rattle.resv_list.specs.Reservations.{start_of, IsByStart}
use Rattle.resv_list.proofs.FilledLaws.{placed_last, next_is_new}
use Rattle.resv_list.proofs.roster.Roster.filled.Goals as goal

pub insert-requires : goal.insert-requires
insert-requires g c =
    let m = c.member-item.result in
    let l = c.args.members.now in
    let i = c.loop-member.member-index in
    let done = g.Self.Roster.list c.loop-member.roster in
    let more : drop i l ≡ m ∷ drop (i + 1) l =
    at_drop_more (λ (q : List Reservation). q) l i m c.loop-member-test.true
    ∙ ap (λ (x : Reservation). x ∷ drop (i + 1) l) (sym c.member-item.is) in
    let whole : l ≡ done ++ (m ∷ drop (i + 1) l) = sym c.loop-member.invariant ∙ ap (λ (q : List Reservation). done ++ q) more in
    next_is_new start_of 0 done m (drop (i + 1) l) (subst IsByStart whole c.requires.by_start)

pub loop-member-preserved : goal.loop-member-preserved
loop-member-preserved g c =
    let m = c.member-item.result in
    let l = c.args.members.now in
    let i = c.loop-member.member-index in
    let done = g.Self.Roster.list c.loop-member.roster in
    let more : drop i l ≡ m ∷ drop (i + 1) l =
    at_drop_more (λ (q : List Reservation). q) l i m c.loop-member-test.true
    ∙ ap (λ (x : Reservation). x ∷ drop (i + 1) l) (sym c.member-item.is) in
    let whole : l ≡ done ++ (m ∷ drop (i + 1) l) = sym c.loop-member.invariant ∙ ap (λ (q : List Reservation). done ++ q) more in
    let last : g.Self.Roster.list c.insert.new.self ≡ done ++ (m ∷ []) =
    c.in-Ok.ensures.placed ∙ placed_last start_of 0 done m (drop (i + 1) l) (subst IsByStart whole c.requires.by_start) in
    ap (λ (q : List Reservation). q ++ drop (i + 1) l) last ∙ append_assoc done (m ∷ []) (drop (i + 1) l) ∙ sym whole
