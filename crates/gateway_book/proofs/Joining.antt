use Rattle.std.specs.Prelude.{◌≡◌, ◌+◌, ◌<◌, ◌≤◌, nat_lt, nat_le, Bool, true, false, not, ◌&&◌, is_some, List, [], ◌∷◌, length}
use Rattle.std.specs.Prelude.{Some, None, if◌then◌else◌, cond, is_ok, Result, Ok, Err, OnOk}
use Rattle.std.proofs.Common.{refl, sym, ap, arith}
use Rattle.std.proofs.lemmas.Bool.{leb-true, ltb-true, and_parts}
use Rattle.std.proofs.lemmas.Bool.Decides.{nat_tests}
use Rattle.std.proofs.lemmas.Option.{same_Some}
use Rattle.radio_airtime.specs.DataRate.{max_phy_of}
use Rattle.radio_bands.specs.Band.{hour, band_of}
use Rattle.resv_list.specs.Fit.{last_end}
use Rattle.gateway_book.specs.declared.refusal.Refusal.TheVariants.{NoBand, TooLong, PastEnd}
use Rattle.resv_list.specs.declared.reservation.Reservation.{Reservation}
use Rattle.resv_list.specs.Reservations.{airtime_us, net, place}
use Rattle.radio_airtime.specs.Bounds.{airtime_of-short}
use Rattle.gateway_book.specs.declared.ask.Ask.{Ask}
use Rattle.gateway_book.specs.declared.saved_line.SavedGateway.{SavedGateway}
use Rattle.gateway_book.specs.Answer.{IsAsked, no_band, too_long, past_end, taken, duty_full, first_some, overlap, ask_end}
use Rattle.gateway_book.specs.Book.{Book, IsSound}
use Rattle.gateway_book.specs.Loading.{is_behind, may_follow, joined, saved_empty}
use Rattle.gateway_book.specs.Saved.{Saved, saved_of, opened_again}
use Rattle.gateway_book.specs.Step.{is_fit, made_if, reservation_of}
use Rattle.gateway_book.proofs.AnswerLaws.{first_none, no_refusal, not_taken, not_full}
use Rattle.gateway_book.proofs.FollowLaws.{follow_rows, follow_terms, none_of, place-last, net-behind, net-short}
use Rattle.gateway_book.proofs.OrderlyLaws.{MayJoin, same_hour}
use Rattle.gateway_book.proofs.SoundLaws.{CanBook}

-- What a member that may follow brings to the book.

pub record IsFollower (s : Saved) (ask : Ask) (r : Reservation) : Type 0 where
  pub asked : IsAsked ask r
  pub last : is_behind r.start s.list ≡ false
  pub kept : s.floor ≤ r.start + hour
  pub room : length s.list < s.rules.cap
  pub joins : MayJoin s.rules.gap s.list r

-- the reservation that an ask becomes has its fields
made_asked : (ask : Ask) (r : Reservation) (t : Bool) (e : is_fit ask ≡ t) → made_if ask t e ≡ Some r → IsAsked ask r
made_asked ask r true e m = let same = sym (same_Some _ _ m) in record {
  number = ap (λ (s : Reservation). s.number) same;
  start = ap (λ (s : Reservation). s.start) same;
  freq_hz = ap (λ (s : Reservation). s.freq_hz) same;
  rate = ap (λ (s : Reservation). s.rate) same;
  len = ap (λ (s : Reservation). s.len) same;
}
made_asked ask r false e m = absurd (cc)

pub becomes_asked : (ask : Ask) (r : Reservation) → reservation_of ask ≡ Some r → IsAsked ask r
becomes_asked ask r m = made_asked ask r (is_fit ask) refl m

not_true : (t : Bool) → not t ≡ true → t ≡ false
not_true true e = absurd (cc)
not_true false e = refl

pub followed : (s : Saved) (ask : Ask) (r : Reservation) → may_follow s ask ≡ true → reservation_of ask ≡ Some r
    → IsFollower s ask r
followed s ask r e m =
    let a = becomes_asked ask r m in
    let last = and_parts (not (is_behind ask.start s.list) && nat_le s.floor (ask.start + hour)
    && nat_lt (length s.list) s.rules.cap) (not (is_some (first_some (follow_rows s ask)))) e in
    let third = and_parts (not (is_behind ask.start s.list) && nat_le s.floor (ask.start + hour))
    (nat_lt (length s.list) s.rules.cap) last.0 in
    let second = and_parts (not (is_behind ask.start s.list)) (nat_le s.floor (ask.start + hour)) third.0 in
    let rows = none_of (first_some (follow_rows s ask)) (not_true _ last.1) in
    let terms = follow_terms s ask in
    let none-1 = first_none (no_band ask)
    (too_long ask ∷ past_end ask ∷ taken terms s.list ask ∷ duty_full s.list ask ∷ []) rows in
    let none-2 = first_none (too_long ask) (past_end ask ∷ taken terms s.list ask ∷ duty_full s.list ask ∷ []) none-1.1 in
    let none-3 = first_none (past_end ask) (taken terms s.list ask ∷ duty_full s.list ask ∷ []) none-2.1 in
    let none-4 = first_none (taken terms s.list ask) (duty_full s.list ask ∷ []) none-3.1 in
    let none-5 = first_none (duty_full s.list ask) [] none-4.1 in
    record {
      asked = a;
      last = rw a.start (not_true (is_behind ask.start s.list) second.0);
      kept = rw a.start (leb-true s.floor (ask.start + hour) second.1);
      room = ltb-true (length s.list) s.rules.cap third.1;
      joins = record {
        clear = rw (a.start, a.rate, a.len) (not_taken (overlap s.rules.gap s.list ask.start (ask_end ask)) none-4.0);
        duty = λ band b.
            let lies = rw (a.freq_hz, a.rate) at b in
            same_hour s.list band ask r a (not_full s.list ask band (rw lies at none-5.0));
      };
    }

-- what the look for a follower answers
pub found_follower : (s : Saved) (ask : Ask) (r : Reservation)
    → Some r ≡ (if may_follow s ask then reservation_of ask else None) → (may_follow s ask ≡ true) × (reservation_of ask ≡ Some r)
found_follower s ask r e = by_test (may_follow s ask) e
  where
    by_test : (t : Bool) → Some r ≡ cond t (reservation_of ask) None → (t ≡ true) × (reservation_of ask ≡ Some r)
    by_test true h = (refl, sym h)
    by_test false h = absurd (cc)

made_some : (ask : Ask) (t : Bool) (e : is_fit ask ≡ t) → t ≡ true → (r : Reservation) × (made_if ask t e ≡ Some r)
made_some ask true e h = (_, refl)
made_some ask false e h = absurd (cc)

unrefused_fits : (ask : Ask) → not (is_some (band_of ask.freq_hz ask.rate)) ≡ false
    → nat_lt (max_phy_of ask.rate) ask.len ≡ false → nat_lt last_end (ask_end ask) ≡ false → is_fit ask ≡ true
unrefused_fits ask b s t = grind (arith, nat_tests)

-- it can be booked
pub can_join : (b : Book) (ask : Ask) (r : Reservation) → IsSound b → b ≡ opened_again (saved_of b)
    → IsFollower (saved_of b) ask r → CanBook b r
can_join b ask r s e f =
    let booked : b.booked ≡ net b.list = ap (λ (c : Book). c.booked) e in
    record {
      ahead = f.kept;
      joins = f.joins;
      spare = f.room;
      total =
          omega (arith, booked, net-short b.list, airtime_of-short r.rate r.len r.fit.sized, f.room, s.capped);
    }

-- the book with it behind the others
pub again_behind : (s : Saved) (r : Reservation) → is_behind r.start s.list ≡ false
    → record (opened_again s) { list = place r s.list; booked = net s.list + airtime_us r } ≡ opened_again (joined s (Some r))
again_behind s r last = rw (place-last r s.list last, net-behind s.list r) refl

-- what holds where one of two succeeds that succeed together
pub on_ok : {T E F P Q : Type 0} (a : Result T E) (b : Result T F) → is_ok b ≡ is_ok a → OnOk a P → (P → Q) → OnOk b Q
on_ok (Ok x) (Ok y) v p f = f p
on_ok (Ok x) (Err d) v p f = absurd (cc)
on_ok (Err e) (Ok y) v p f = absurd (cc)
on_ok (Err e) (Err d) v p f = tt

-- the book of a gateway without a member
pub empty_again : (g : SavedGateway) (l : List Reservation) → l ≡ []
    → record {
      id = g.id;
      rules = record { cap = g.cap; gap = g.gap };
      floor = g.floor;
      list = l;
      booked = 0;
      cancelled = 0;
      retired = 0;
    }
    ≡ opened_again (saved_empty g)
unfolding net
empty_again g l e = rw e refl

-- one that may follow is fit
pub follower_is_fit : (s : Saved) (ask : Ask) → may_follow s ask ≡ true → (r : Reservation) × (reservation_of ask ≡ Some r)
follower_is_fit s ask e =
    let last = and_parts (not (is_behind ask.start s.list) && nat_le s.floor (ask.start + hour)
    && nat_lt (length s.list) s.rules.cap) (not (is_some (first_some (follow_rows s ask)))) e in
    let terms = follow_terms s ask in
    let a = first_none (no_band ask) (too_long ask ∷ past_end ask ∷ taken terms s.list ask ∷ duty_full s.list ask ∷ [])
    (none_of (first_some (follow_rows s ask)) (not_true _ last.1)) in
    let b = first_none (too_long ask) (past_end ask ∷ taken terms s.list ask ∷ duty_full s.list ask ∷ []) a.1 in
    let d = first_none (past_end ask) (taken terms s.list ask ∷ duty_full s.list ask ∷ []) b.1 in
    made_some ask (is_fit ask) refl
    (unrefused_fits ask (no_refusal _ NoBand a.0) (no_refusal _ TooLong b.0) (no_refusal _ PastEnd d.0))
