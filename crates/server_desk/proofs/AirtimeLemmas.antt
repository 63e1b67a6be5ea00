-- The airtimes of the gateways, as the desk keeps them.
use Rattle.server_desk.proofs.Words
use Words.{◌-◌, numbered, known_airtime, map-map, ℕ, ◌≡◌, ◌≢◌, ◌+◌, ◌^◌, ◌<◌, ◌≤◌, ◌==◌, true, List, [], ◌∷◌, ◌++◌, map, length}
use Words.{slice_set, get_or, All, AllPairs, Option, Some, Result, refl, option_map, sym, ap, ◌∙◌, subst, arith, length-map}
use Words.{length-append, length-set, All-nil, All-map, All-push, All-set, longest_us, IsWithinLongest, Ending, HeardCopy}
use Words.{HearFault, Heard, Gatherings, after_hearing, GatewaySetting, Known, NotGiven, Done, Sent, first_at, sent_of, is_here}
use Words.{is_booked_on, answered_at, answered_for, sent_airtime, airtime_of_ending, settled_limit, whole_airtime, AreAirtimes}
use Words.{raised, CanRaise, kept_by, get_or-map}
use Rattle.server_desk.proofs.AirtimeSums.{answered_sum, sum_set, sum_push, same_airtimes, answered_found, raises, answered_short}
use Rattle.server_desk.proofs.Numbers.{at_number}

module _ (ids airtimes : List ℕ) (limit : ℕ) (known : List Known) (i : AreAirtimes ids airtimes limit known) where
  pub as_many : length airtimes ≡ length ids
  as_many = ap length i.told ∙ length-map ids (λ id. answered_at id known)

  -- the desk answers what it keeps for the gateway
  pub answered_is : (gateway d : ℕ) (place : Option ℕ)
      → place ≡ option_map (λ found. found.0) (first_at (λ id. id == gateway) ids)
      → option_map (λ p. get_or airtimes p d) place ≡ answered_for ids known gateway
  answered_is gateway d place e = rw (e, i.told) (answered_found known gateway d ids)

  raised_by : (k : Known) → raised ids (kept_by (Some k)) (map (λ id. answered_at id known) ids)
      ≡ map (λ id. answered_at id known + known_airtime id k) ids
  raised_by (Done (Some sent)) = (raises (λ id. answered_at id known) sent ids i.differ).0
  raised_by k = same_airtimes (λ id. answered_at id known) (λ id. answered_at id known + 0) (λ id. omega arith) ids

  -- where more is known, by what this adds
  more_airtimes : (more : List Known) (k : Known) → ((id : ℕ) → answered_at id more ≡ answered_at id known + known_airtime id k)
      → All (λ k. is_booked_on ids k ≡ true) more → All (λ k. whole_airtime k ≤ longest_us) more → length more ≤ limit
      → AreAirtimes ids (raised ids (kept_by (Some k)) airtimes) limit more
  more_airtimes more k e here short few =
      let told = raised_by k ∙ same_airtimes _ (λ id. answered_at id more) (λ id. sym (e id)) ids in
      record { differ = i.differ; told = rw i.told told; here = here; short = short; few = few; limited = i.limited }

  -- where a copy opened a gathering
  pub opened_airtimes : length known < limit → AreAirtimes ids airtimes limit (known ++ NotGiven ∷ [])
  opened_airtimes h =
      more_airtimes _ NotGiven (λ id. sum_push (answered_sum id) known NotGiven)
      (All-push (λ k. is_booked_on ids k ≡ true) known NotGiven i.here refl)
      (All-push (λ k. whole_airtime k ≤ longest_us) known NotGiven i.short (omega arith))
      (omega (arith, length-append known (NotGiven ∷ []), h))

  -- where an answer that added nothing is written anew: a ticket is given, or the answer is settled
  module _ (n : ℕ) (old new : Known) (there : numbered n known ≡ Some old) (none : (id : ℕ) → known_airtime id old ≡ 0) where
    adds : (id : ℕ) → answered_at id (slice_set known (n - 1) new) ≡ answered_at id known + known_airtime id new
    adds id = omega (arith, sum_set (answered_sum id) known (n - 1) old new (at_number n known old there), none id)

    pub set_airtimes : is_booked_on ids new ≡ true → whole_airtime new ≤ longest_us
        → AreAirtimes ids (raised ids (kept_by (Some new)) airtimes) limit (slice_set known (n - 1) new)
    set_airtimes here short =
        more_airtimes _ new adds (All-set (λ k. is_booked_on ids k ≡ true) known (n - 1) new here i.here)
        (All-set (λ k. whole_airtime k ≤ longest_us) known (n - 1) new short i.short)
        (omega (arith, length-set known (n - 1) new, i.few))

-- an answer that may be settled was booked on one of the gateways, if it was booked
pub booked_here : (ids : List ℕ) (ending : Ending) → is_here ids ending ≡ true → is_booked_on ids (Done (sent_of ending)) ≡ true
booked_here ids ending here = grind arith

-- hearing a copy leaves the limits as they are
pub limits_kept : (r : Result Heard HearFault) (s : Gatherings) (bytes : List ℕ) (copy : HeardCopy) (arrived : ℕ)
    → (after_hearing r s bytes copy arrived).limits ≡ s.limits
limits_kept r s bytes copy arrived = grind arith

-- before anything was heard
ids_differ : (gateways : List GatewaySetting) → AllPairs (λ g h. g.id ≢ h.id) gateways
    → AllPairs (λ a b. a ≢ b) (map (λ g. g.id) gateways)
ids_differ gateways d i j x i<j j<n same =
    let none : GatewaySetting = record { id = 0; cap = 0; gap = 0 } in
    let short : j < length gateways = omega (arith, length-map gateways (λ (g : GatewaySetting). g.id), j<n) in
    let first = get_or-map (λ (g : GatewaySetting). g.id) gateways i none x (omega (arith, i<j, short)) in
    let other = get_or-map (λ (g : GatewaySetting). g.id) gateways j none x short in
    d i j none i<j short (sym first ∙ same ∙ other)

pub first_airtimes : (gateways : List GatewaySetting) (limit : ℕ) → AllPairs (λ g h. g.id ≢ h.id) gateways → limit < 2 ^ 32
    → AreAirtimes (map (λ g. g.id) gateways) (map (λ g. 0) gateways) limit []
first_airtimes gateways limit d h =
    record {
      differ = ids_differ gateways d;
      told = sym (map-map (λ id. answered_at id []) (λ (g : GatewaySetting). g.id) gateways);
      here = All-nil (λ k. is_booked_on (map (λ g. g.id) gateways) k ≡ true);
      short = All-nil (λ k. whole_airtime k ≤ longest_us);
      few = omega arith;
      limited = h;
    }

pub short_ending : (ending : Ending) → IsWithinLongest ending → airtime_of_ending ending ≤ longest_us
short_ending ending h = grind arith

-- an answer's airtime can be added
pub can_raise : (ids airtimes : List ℕ) (limit : ℕ) (known : List Known) (sent : Option Sent)
    → AreAirtimes ids airtimes limit known → sent_airtime sent ≤ longest_us → CanRaise ids airtimes sent
can_raise ids airtimes limit known sent i short =
    let low : (id : ℕ) → answered_at id known ≤ settled_limit =
    λ id. omega (arith, answered_short id known i.short, i.few, i.limited) in
    let all : All (λ x. x ≤ settled_limit) airtimes = subst (All (λ x. x ≤ settled_limit)) (sym i.told)
    (All-map (λ x. x ≤ settled_limit) (λ id. answered_at id known) ids (λ k d q. low (get_or ids k d))) in
    record { places = as_many ids airtimes limit known i; room = all; short = short }
