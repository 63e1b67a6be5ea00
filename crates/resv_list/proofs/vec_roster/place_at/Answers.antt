use Rattle.std.proofs.Common.{◌≡◌, ◌≢◌, ◌≤◌, arith, refl, ℕ, List, Option, Bool, true, false, Some}
use Rattle.std.proofs.Common.{None, slice_get, length, sym, ap, ◌∙◌, MatchOption, nat_eq, nat_lt, remove}
use Rattle.std.specs.Bool.{then_some}
use Rattle.std.proofs.lemmas.Bool.{ltb-true, ltb-false}
use Rattle.std.proofs.lemmas.Bool.Decides.{nat_tests}
use Rattle.resv_list.specs.declared.reservation.Reservation.{Reservation}
use Rattle.resv_list.specs.Sorted.{IsCut}
use Rattle.resv_list.specs.Reservations.{start_of, IsByStart, member_at, without}
use Rattle.resv_list.proofs.CutLemmas.{at_cut, not_at_cut, slice_get-read, nothing_past}
use Rattle.resv_list.proofs.vec_roster.place_at.Goals as goal

-- that a member stands at the place and begins at the moment, or that none begins at it
abbrev Tells : List Reservation → ℕ → Option ℕ → Type 0
Tells l start o =
    MatchOption o (member_at start l ≡ None) (λ place. member_at start l ≡ slice_get l place)
    × MatchOption o (without start l ≡ l) (λ place. without start l ≡ remove l place)

told : (l : List Reservation) (start place : ℕ) (m : Reservation) → IsByStart l → IsCut (λ r. nat_lt r.start start) l place
    → slice_get l place ≡ Some m → (t : Bool) → nat_eq m.start start ≡ t → Tells l start (then_some t place)
told l start place m rises cut stands true e =
    let found = at_cut start_of 0 start l place m cut rises stands (grind (arith, nat_tests)) in
    (found.0 ∙ sym stands, found.1)
told l start place m rises cut stands false e =
    not_at_cut start_of 0 start l place cut rises (λ y h k. let same : m ≡ y = cc in
    let other : m.start ≢ start = grind (arith, nat_tests) in other (ap start_of same ∙ k))

told_none : (l : List Reservation) (start place : ℕ) → IsByStart l → IsCut (λ r. nat_lt r.start start) l place
    → length l ≤ place → Tells l start None
told_none l start place rises cut past =
    not_at_cut start_of 0 start l place cut rises (λ y e. absurd (nothing_past l place y past e))

pub returns-in_err-get-clause-found : goal.returns-in_err-get-clause-found
returns-in_err-get-clause-found c =
    let past = ltb-false _ _ (sym c.in_err-get.ensures.lookup.0) in
    let cut = c.place_of-place.ensures.cut in
    rw c.from_residual.ensures (told_none c.args.members.now c.args.start c.place_of-place.result c.requires cut past).0

pub returns-in_err-get-clause-left : goal.returns-in_err-get-clause-left
returns-in_err-get-clause-left c =
    let past = ltb-false _ _ (sym c.in_err-get.ensures.lookup.0) in
    let cut = c.place_of-place.ensures.cut in
    rw c.from_residual.ensures (told_none c.args.members.now c.args.start c.place_of-place.result c.requires cut past).1

pub returns-clause-found : goal.returns-clause-found
returns-clause-found c =
    let l = c.args.members.now in
    let m = c.in_ok-get.field-0.now in
    let within = ltb-true _ _ (sym c.in_ok-get.ensures.lookup.0) in
    let stands = slice_get-read l c.place_of-place.result m within c.in_ok-get.ensures.lookup.1 in
    rw c.then_some.ensures (told l c.args.start c.place_of-place.result m c.requires c.place_of-place.ensures.cut stands
    (nat_eq m.start c.args.start) refl).0

pub returns-clause-left : goal.returns-clause-left
returns-clause-left c =
    let l = c.args.members.now in
    let m = c.in_ok-get.field-0.now in
    let within = ltb-true _ _ (sym c.in_ok-get.ensures.lookup.0) in
    let stands = slice_get-read l c.place_of-place.result m within c.in_ok-get.ensures.lookup.1 in
    rw c.then_some.ensures (told l c.args.start c.place_of-place.result m c.requires c.place_of-place.ensures.cut stands
    (nat_eq m.start c.args.start) refl).1
