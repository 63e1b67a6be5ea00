-- A cancel of what isn't booked for its number on a gateway changes nothing there.
use Rattle.server_core.proofs.Words.{ap, sym, ◌∙◌, Bool, Err, List, None, OnErr, Option, Result, Some, false, find, if◌then◌else◌}
use Rattle.server_core.proofs.Words.{nat_le, refl, true, ℕ, ◌==◌, ◌≡◌, ◌≢◌, Reservation, Book, is_named, remembers_cancel}
use Rattle.server_core.proofs.Words.{CancelFault, Begun, Gateway, Limits, World, AreSettings, SettingLists, Sent, IsMember, Step}
use Rattle.server_core.proofs.Words.{run, found_or, start_of, arith}
use Rattle.server_core.proofs.Holds.{Holds, WasThere, member_stands}
use Rattle.std.proofs.lemmas.Bool.{eqb-true, and_parts}
use Rattle.server_core.proofs.{BookSteps.there, BookSteps.own, Runs.none_was, Runs.unused_run}
use Rattle.std.proofs.lemmas.List.Folds.{find_at}
use Rattle.std.specs.List.{position_or_len}
use Rattle.resv_list.proofs.Walk.{found_passes}
use Rattle.gateway_book.specs.Book.{airtime_answer}
use Rattle.server_core.specs.BookCalls.{IsBookAt, IsCancel, sent_at}

-- where nothing is found, a cancel is refused
refused_by : (floor start : ℕ) (o : Option Reservation) (t : Bool) → ((r : Reservation) → o ≡ Some r → ⊥)
    → (fault : CancelFault) × ((if t then Err Begun else found_or o) ≡ Err fault)
refused_by floor start o true none = (Begun, refl)
refused_by floor start None false none = (_, refl)
refused_by floor start (Some r) false none = absurd (none r refl)

same_if_refused : (r : Result ℕ CancelFault) (fault : CancelFault) (old new : Book) → r ≡ Err fault → OnErr r (new ≡ old)
    → new ≡ old
same_if_refused r fault old new e h = grind (arith, e, h)

module _ {settings : SettingLists} {past : List Gateway} {w : World} {T : _} (h : Holds settings past T w)
    (none : (id : ℕ) (r : Reservation) → WasThere past id r → ⊥) (n start id at : ℕ) (old : Book)
    (b : IsBookAt id at w.gateways old)
    (other : (sent : Sent) → sent_at w n ≡ Some sent → sent.gateway ≡ id → sent.start ≢ start) where
  not_named : (r : Reservation) → find (is_named n start) b.gateway.state.list ≡ Some r → ⊥
  not_named r f =
      let l = b.gateway.state.list in
      let place = position_or_len (is_named n start) l in
      let named = and_parts (r.number == n) (r.start == start) (found_passes start_of (is_named n start) r l f) in
      let number : r.number ≡ n = eqb-true r.number n named.0 in
      let begins : r.start ≡ start = eqb-true r.start start named.1 in
      let member : IsMember w at place b.gateway r =
      record { gateway = (there w id at old b).0; member = sym (find_at (is_named n start) l) ∙ f } in
      let s = member_stands h at place b.gateway r member (none b.gateway.id r) in
      let kept : sent_at w r.number ≡ Some s.sent = rw s.kept.there s.kept.is in
      other s.sent (ap (sent_at w) (sym number) ∙ kept) (s.booking.gateway ∙ own w id at old b) (s.booking.start ∙ begins)

  same : (new : Book) (result : Result ℕ CancelFault) → IsCancel n start old new result → new ≡ old
  same new result c =
      let k = b.keeps in
      let s = b.gateway.state in
      let refused = refused_by s.floor start (find (is_named n start) s.list) (nat_le start s.floor) not_named in
      let answered : result ≡ Err refused.0 =
      c.answer ∙ ap airtime_answer (remembers_cancel old s k.orderly k.remembers n start ∙ refused.1) in
      same_if_refused result refused.0 old new answered c.refused

pub other_cancel : (settings : SettingLists) → AreSettings settings.gateways settings.devices → (limits : Limits)
    (steps : List Step) (n start id at : ℕ) (old new : Book) (result : Result ℕ CancelFault)
    → IsBookAt id at (run settings limits steps).world.gateways old → IsCancel n start old new result
    → ((sent : Sent) → sent_at (run settings limits steps).world n ≡ Some sent → sent.gateway ≡ id → sent.start ≢ start)
    → new ≡ old
other_cancel settings are limits steps n start id at old new result b c other =
    let good = unused_run settings are limits steps in
    same good.holds (none_was settings are) n start id at old b other new result c
