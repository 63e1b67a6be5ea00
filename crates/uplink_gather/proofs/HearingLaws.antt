use Rattle.std.proofs.Common.{ℕ, ◌≡◌, ◌+◌, Bool, true, false, if◌then◌else◌, List, length, nat_le, Option, Some, None, Result, Ok}
use Rattle.std.proofs.Common.{Err, refl, sym, ap, subst, ◌∙◌}
use Rattle.uplink_gather.specs.declared.fault.HearFault.{HearFault}
use Rattle.uplink_gather.specs.declared.fault.HearFault.TheVariants.{SameGateway, TooManyCopies, Late, Crowded}
use Rattle.uplink_gather.specs.declared.answers.Place.{Place}
use Rattle.uplink_gather.specs.declared.answers.Place.TheVariants.{Joins, Opens}
use Rattle.uplink_gather.specs.declared.answers.Heard.TheVariants.{Opened, Joined}
use Rattle.uplink_gather.specs.Gatherings.{Gathering, Gatherings, numbered, newest, copies_of}
use Rattle.uplink_gather.proofs.GatheringLaws.{newest_stands}
use Rattle.uplink_gather.specs.Hearing.{place_by, place_of, takes_copies, has_gateway, delay, late_us, is_crowded, answer_at}
use Rattle.uplink_gather.specs.Hearing.{hear_answer}

-- Laws of the place of a copy.

-- the answer by the tests of which it is made
answer_by : (joins again full late : Bool) → ℕ → Result Place HearFault
answer_by joins again full late n =
    if joins
    then (if again then Err SameGateway else (if full then Err TooManyCopies else Ok (Joins n)))
    else (if late then Err Late else Ok Opens)

joined_number : (joins again full late : Bool) (m n : ℕ) → answer_by joins again full late m ≡ Ok (Joins n) → m ≡ n
unfolding answer_by
joined_number true true full late m n e = absurd (cc)
joined_number true false true late m n e = absurd (cc)
joined_number true false false late m n e = cc
joined_number false again full true m n e = absurd (cc)
joined_number false again full false m n e = absurd (cc)

-- a copy joins a gathering that is there, the newest of its bytes
pub record JoinsAt (s : Gatherings) (bytes : List ℕ) (n : ℕ) : Type 0 where
  pub gathering : Gathering
  pub there : numbered n s.list ≡ Some gathering
  pub newest_is : newest bytes s.list ≡ Some (n, gathering)
  pub same : bytes ≡ gathering.bytes

pub joins_at : (s : Gatherings) (bytes : List ℕ) (gateway arrived n : ℕ) → place_of s bytes gateway arrived ≡ Ok (Joins n)
    → JoinsAt s bytes n
unfolding answer_by
joins_at s bytes gateway arrived n e = by (newest bytes s.list) refl e
  where
    by : (o : Option (ℕ × Gathering)) → newest bytes s.list ≡ o → place_by s.limits gateway arrived o ≡ Ok (Joins n)
        → JoinsAt s bytes n
    by None p q = absurd (cc)
    by (Some x) p q =
        let number : x.0 ≡ n = joined_number (takes_copies x.1 arrived) (has_gateway gateway x.1.copies)
        (nat_le s.limits.max_copies (length x.1.copies)) (nat_le (delay x.1 arrived) late_us) x.0 n q in
        let at = newest_stands bytes s.list x p in
        let There : ℕ → Type 0 = λ m. numbered m s.list ≡ Some x.1 in
        record { gathering = x.1; there = subst There number at.0; newest_is = p ∙ ap (λ m. Some (m, x.1)) number; same = at.1 }

not_joined : (t : Bool) (k n m : ℕ) → (if t then Err Crowded else Ok (Opened k)) ≡ Ok (Joined n m) → ⊥
not_joined true k n m e = absurd (cc)
not_joined false k n m e = absurd (cc)

pub answer_joined : (s : Gatherings) (bytes : List ℕ) (gateway arrived n copies : ℕ)
    → hear_answer s bytes gateway arrived ≡ Ok (Joined n copies)
    → (place_of s bytes gateway arrived ≡ Ok (Joins n)) × (copies ≡ length (copies_of n s.list) + 1)
answer_joined s bytes gateway arrived n copies e = by (place_of s bytes gateway arrived) e
  where
    by : (place : Result Place HearFault) → answer_at s place ≡ Ok (Joined n copies)
        → (place ≡ Ok (Joins n)) × (copies ≡ length (copies_of n s.list) + 1)
    by (Ok (Joins m)) e =
        let number : m ≡ n = cc in
        let count : length (copies_of m s.list) + 1 ≡ copies = cc in
        (ap (λ k. Ok (Joins k)) number, sym count ∙ ap (λ k. length (copies_of k s.list) + 1) number)
    by (Ok Opens) e = absurd (not_joined (is_crowded s) (length s.list + 1) n copies e)
    by (Err fault) e = absurd (cc)
