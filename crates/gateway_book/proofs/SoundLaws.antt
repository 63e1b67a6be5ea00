use Rattle.std.specs.Prelude.{ℕ, ◌≡◌, ◌+◌, ◌-◌, ◌<◌, ◌≤◌, max, Bool, List, [], length, Some, None, find, filter, ◌==◌, ◌||◌}
use Rattle.std.specs.Prelude.{not, true, false, if◌then◌else◌}
use Rattle.std.proofs.Common.{refl, sym, ap, subst, ◌∙◌, arith, nat_lt}
use Rattle.std.proofs.lemmas.Bool.Decides.{nat_tests}
use Rattle.resv_list.specs.declared.reservation.Reservation.{Reservation}
use Rattle.resv_list.proofs.SortedLaws.{length-place_by}
use Rattle.resv_list.specs.Reservations.{start_of, IsByStart, place, airtime_us, net, without, members_before, members_from}
use Rattle.resv_list.proofs.NetLemmas.{net-parted}
use Rattle.radio_bands.specs.Band.{hour}
use Rattle.gateway_book.specs.Kept.{is_kept, kept, retired_of}
use Rattle.gateway_book.specs.Lawful.{IsLawful}
use Rattle.gateway_book.specs.Opening.{open_fault}
use Rattle.gateway_book.proofs.KeptLaws.{kept-filtered, kept-place, kept-filter, kept-twice, kept-nil, kept-from, retired-before}
use Rattle.gateway_book.proofs.KeptLaws.{net-place}
use Rattle.gateway_book.specs.declared.ask.Ask.{Ask}
use Rattle.gateway_book.specs.Answer.{IsAsked, most_cap, total_limit, refusal_of, Rules}
use Rattle.gateway_book.proofs.AnswerLaws.{accepted}
use Rattle.gateway_book.specs.Step.{is_named, without_named, tick_step}
use Rattle.gateway_book.proofs.CancelLaws.{fewer, net_named}
use Rattle.gateway_book.specs.Orderly.{IsOrderly}
use Rattle.gateway_book.proofs.OrderlyLaws.{MayJoin, free_where_clear, orderly_nil, orderly_placed, orderly_filter, may_join}
use Rattle.gateway_book.specs.Book.{Book, IsSound, Admits, terms_of, with_booked, with_cancelled, at_floor, ticked, state_of}
use Rattle.gateway_book.specs.Remembers.{Remembers}
use Rattle.gateway_book.specs.Disjoint.{most_gap}
use Rattle.gateway_book.specs.declared.opening.OpenFault.TheVariants.{BadCap, BadGap}

-- What a book keeps when it is opened and when it books.

-- what is not refused lies within
within_by : (cap gap : ℕ) (s t u : Bool) → (cap == 0) ≡ s → nat_lt most_cap cap ≡ t → nat_lt most_gap gap ≡ u
    → (if s || t then Some BadCap else (if u then Some BadGap else None)) ≡ None
    → (0 < cap) × (cap ≤ most_cap) × (gap ≤ most_gap)
within_by cap gap true t u a b c e = absurd (cc)
within_by cap gap false true u a b c e = absurd (cc)
within_by cap gap false false true a b c e = absurd (cc)
within_by cap gap false false false a b c e = (grind (arith, nat_tests), grind (arith, nat_tests), grind (arith, nat_tests))

pub within : (rules : Rules) → open_fault rules ≡ None → (0 < rules.cap) × (rules.cap ≤ most_cap) × (rules.gap ≤ most_gap)
within rules e =
    within_by rules.cap rules.gap (rules.cap == 0) (nat_lt most_cap rules.cap) (nat_lt most_gap rules.gap) refl refl refl e

pub sound_empty : (id : ℕ) (rules : Rules) (floor : ℕ) → 0 < rules.cap → rules.cap ≤ most_cap → rules.gap ≤ most_gap → IsSound
    (record { id = id; rules = rules; floor = floor; list = []; booked = 0; cancelled = 0; retired = 0 })
unfolding net
sound_empty id rules floor h g k =
    record {
      opened = h;
      capped = g;
      counted = omega arith;
      rested = k;
      lawful = (orderly_nil rules.gap k).lawful;
      kept_whole = kept-nil floor;
      balanced = refl;
      bounded = omega arith;
    }

-- of a reservation, that it joins the list
pub record CanBook (b : Book) (r : Reservation) : Type 0 where
  pub ahead : b.floor ≤ r.start + hour
  pub joins : MayJoin b.rules.gap b.list r
  pub spare : length b.list < b.rules.cap
  pub total : b.booked + airtime_us r ≤ total_limit

orderly_book : (b : Book) → IsSound b → IsByStart b.list → IsOrderly b.rules.gap b.list
orderly_book b s o = record { rested = s.rested; by_start = o; lawful = s.lawful }

pub sound_booked : (b : Book) (r : Reservation) → IsSound b → IsByStart b.list → CanBook b r → IsSound (with_booked b r)
sound_booked b r s o c =
    let joined : IsOrderly b.rules.gap (place r b.list) = orderly_placed b.list r (orderly_book b s o) c.joins in
    record {
      opened = s.opened;
      capped = s.capped;
      counted = omega (arith, length-place_by start_of r b.list, c.spare);
      rested = s.rested;
      lawful = joined.lawful;
      kept_whole = kept-place r b.list b.floor o joined.by_start c.ahead ∙ ap (place r) s.kept_whole;
      balanced = omega (arith, net-place r b.list, s.balanced);
      bounded = c.total;
    }

pub admits : (b : Book) (r : Reservation) → IsSound b → IsByStart b.list → CanBook b r → Admits b r
admits b r s o c =
    record { free = free_where_clear b.rules.gap b.list r o c.joins.clear; sound = sound_booked b r s o c }

pub may_book : (b : Book) (ask : Ask) (r : Reservation) → IsSound b → IsAsked ask r → refusal_of (terms_of b) b.list ask ≡ None
    → CanBook b r
may_book b ask r s a e =
    let h = accepted (terms_of b) b.list ask e in
    let n : length (kept b.list b.floor) ≡ length b.list = ap length s.kept_whole in
    record {
      ahead = rw a.start (omega (arith, h.ahead));
      joins = may_join (terms_of b) b.list ask r a e;
      spare = omega (arith, n, h.spare, s.counted);
      total = rw (a.rate, a.len) h.total;
    }

-- what is kept and what is retired are all there was
pub net_parted : (l : List Reservation) (floor : ℕ) → IsByStart l → net (kept l floor) + net (retired_of l floor) ≡ net l
net_parted l floor o =
    let k : net (kept l floor) ≡ net (members_from (floor - hour) l) = ap net (kept-from l floor o) in
    let q : net (retired_of l floor) ≡ net (members_before (floor - hour) l) = ap net (retired-before l floor) in
    omega (arith, k, q, net-parted (floor - hour) l)

shorter : (l : List Reservation) (floor : ℕ) → IsByStart l → length (kept l floor) ≤ length l
shorter l floor o =
    let k : length (kept l floor) ≡ length (filter (is_kept floor) l) = ap length (kept-filtered l floor o) in
    omega (arith, k, fewer (is_kept floor) l)

-- what a book keeps when its floor rises
pub sound_ticked : (b : Book) (floor : ℕ) → IsSound b → IsByStart b.list → IsSound (at_floor b floor)
sound_ticked b floor s o =
    let left : IsOrderly b.rules.gap (filter (is_kept floor) b.list) = orderly_filter (is_kept floor) b.list
    (orderly_book b s o) in
    let P : List Reservation → Type 0 = λ l. IsLawful b.rules.gap l in
    record {
      opened = s.opened;
      capped = s.capped;
      counted = omega (arith, s.counted, shorter b.list floor o);
      rested = s.rested;
      lawful = subst P (sym (kept-filtered b.list floor o)) left.lawful;
      kept_whole = kept-twice b.list floor o;
      balanced = omega (arith, s.balanced, net_parted b.list floor o);
      bounded = s.bounded;
    }

-- what a book keeps when it cancels
pub sound_cancelled : (b : Book) (number start : ℕ) (r : Reservation) → IsSound b → IsByStart b.list
    → find (is_named number start) b.list ≡ Some r → without start b.list ≡ without_named b.list number start
    → IsSound (with_cancelled b number start (airtime_us r))
sound_cancelled b number start r s o f w =
    let stays : Reservation → Bool = λ m. not (is_named number start m) in
    let left : IsOrderly b.rules.gap (without_named b.list number start) = orderly_filter stays b.list (orderly_book b s o) in
    record {
      opened = s.opened;
      capped = s.capped;
      counted = omega (arith, fewer stays b.list, s.counted);
      rested = s.rested;
      lawful = left.lawful;
      kept_whole = kept-filter stays b.list b.floor o ∙ ap (filter stays) s.kept_whole;
      balanced = omega (arith, net_named b.list number start r o f w, s.balanced);
      bounded = s.bounded;
    }

-- What a book keeps where its roster and its counts are known one by one.

pub sound_after_cancel : (b : Book) (number start : ℕ) (r : Reservation) (l : List Reservation) (airtime : ℕ) → IsSound b
    → IsByStart b.list → find (is_named number start) b.list ≡ Some r → without start b.list ≡ without_named b.list number start
    → l ≡ without start b.list → airtime ≡ airtime_us r → IsSound (record b { list = l; cancelled = b.cancelled + airtime })
sound_after_cancel b number start r l airtime s o f w p e =
    let P : List Reservation → Type 0 = λ m. IsSound (record b { list = m; cancelled = b.cancelled + airtime }) in
    let Q : ℕ → Type 0 = λ n. IsSound (record b { list = without_named b.list number start; cancelled = b.cancelled + n }) in
    subst P (sym (p ∙ w)) (subst Q (sym e) (sound_cancelled b number start r s o f w))

-- the book whose roster has dropped what begins more than an hour before the floor
pub at_floor_dropped : (b : Book) (floor at airtime : ℕ) (l : List Reservation) → IsByStart b.list → at ≡ floor - hour
    → l ≡ members_from at b.list → airtime ≡ net (members_before at b.list)
    → record b { floor = floor; list = l; retired = b.retired + airtime } ≡ at_floor b floor
at_floor_dropped b floor at airtime l o e p q =
    let kept_is : l ≡ kept b.list floor =
    p ∙ ap (λ (n : ℕ). members_from n b.list) e ∙ sym (kept-from b.list floor o) in
    let gone : airtime ≡ net (retired_of b.list floor) =
    q ∙ ap (λ (n : ℕ). net (members_before n b.list)) e ∙ sym (ap net (retired-before b.list floor)) in
    rw (kept_is, gone) refl

pub sound_dropped : (b : Book) (floor at airtime : ℕ) (l : List Reservation) → IsSound b → IsByStart b.list → at ≡ floor - hour
    → l ≡ members_from at b.list → airtime ≡ net (members_before at b.list)
    → IsSound (record b { floor = floor; list = l; retired = b.retired + airtime })
sound_dropped b floor at airtime l s o e p q =
    subst IsSound (sym (at_floor_dropped b floor at airtime l o e p q)) (sound_ticked b floor s o)

-- what is dropped was booked
pub dropped_fits : (b : Book) (at airtime : ℕ) → IsSound b → airtime ≡ net (members_before at b.list)
    → b.retired + airtime ≤ total_limit
dropped_fits b at airtime s q = omega (arith, q, net-parted at b.list, s.balanced, s.bounded)

pub ticked_dropped : (inside now : Book) (moment floor at airtime : ℕ) (l : List Reservation) → inside ≡ now
    → IsByStart inside.list → floor ≡ max inside.floor moment → at ≡ floor - hour → l ≡ members_from at inside.list
    → airtime ≡ net (members_before at inside.list)
    → record inside { floor = floor; list = l; retired = inside.retired + airtime } ≡ ticked now moment
ticked_dropped inside now moment floor at airtime l v o m e p q =
    at_floor_dropped inside floor at airtime l o e p q ∙ ap (at_floor inside) m ∙ ap (λ (b : Book). ticked b moment) v

pub ticked_remembers : (b c : Book) (moment : ℕ) → c ≡ ticked b moment → Remembers c (tick_step (state_of b) moment)
ticked_remembers b c moment e =
    let P : Book → Type 0 = λ d. Remembers d (tick_step (state_of b) moment) in
    subst P (sym e) (record { floor = refl; list = refl; booked = refl; cancelled = refl })
