use Rattle.std.specs.Prelude.{ℕ, ◌+◌, ◌≤◌, ◌≢◌, ◌^◌, ◌*◌, ◌<◌, ◌==◌, ◌≡◌, Bool, true, if◌then◌else◌, List, [], ◌∷◌, map, length}
use Rattle.std.specs.Prelude.{slice_set, get_or, All, AllPairs, Option, Some, None}
use Rattle.answer_ticket.specs.declared.outcome.Ending.{Ending}
use Rattle.answer_ticket.specs.Ended.{longest_us}
use Rattle.server_desk.specs.Answers.{Answer, Waiting, Open, Booked, Out, Settled, Known, NotGiven, Pending, Done, Sent}
use Rattle.server_desk.specs.Register.{is_among, first_at}
use Rattle.server_desk.specs.Settling.{sent_of}

-- How long each gateway is on air for the answers that are settled, after this project's profile.

-- the airtime of what was booked, if it was booked on this gateway
abbrev pub own_airtime : ℕ → Option Sent → ℕ
own_airtime id None = 0
own_airtime id (Some sent) = if sent.gateway == id then sent.airtime else 0

-- what a settled answer adds to this gateway's airtime, by the desk's part of the world and by the world
abbrev pub known_airtime : ℕ → Known → ℕ
known_airtime id NotGiven = 0
known_airtime id Pending = 0
known_airtime id (Done sent) = own_airtime id sent

abbrev pub answer_airtime : ℕ → Answer → ℕ
answer_airtime id Waiting = 0
answer_airtime id (Open k job) = 0
answer_airtime id (Booked sent window carried) = 0
answer_airtime id (Out refusal) = 0
answer_airtime id (Settled sent) = own_airtime id sent

-- the airtime of the settled answers that were booked on this gateway
abbrev pub answered_at : ℕ → List Known → ℕ
answered_at id [] = 0
answered_at id (k ∷ known) = known_airtime id k + answered_at id known

abbrev pub answered_in : ℕ → List Answer → ℕ
answered_in id [] = 0
answered_in id (a ∷ answers) = answer_airtime id a + answered_in id answers

-- the airtime of the settled answers that were booked on the gateways with these ids
abbrev pub total_at : List ℕ → List Known → ℕ
total_at [] known = 0
total_at (id ∷ ids) known = answered_at id known + total_at ids known

-- what the desk answers for a gateway: nothing where it has none with this id
abbrev pub answered_for : List ℕ → List Known → ℕ → Option ℕ
answered_for ids known id = if is_among ids id then Some (answered_at id known) else None

-- the airtime of an answer that ended so
abbrev pub sent_airtime : Option Sent → ℕ
sent_airtime None = 0
sent_airtime (Some sent) = sent.airtime

-- how long an answer that ended so is on air: 0 where none was booked
abbrev pub airtime_of_ending : Ending → ℕ
airtime_of_ending ending = sent_airtime (sent_of ending)

-- what all settled answers together are on air for at most
abbrev pub settled_limit : ℕ
settled_limit = longest_us * 2 ^ 32

-- what a settled answer is on air for, on whichever gateway
abbrev pub whole_airtime : Known → ℕ
whole_airtime NotGiven = 0
whole_airtime Pending = 0
whole_airtime (Done sent) = sent_airtime sent

-- the airtime of all settled answers
abbrev pub settled_airtime : List Known → ℕ
settled_airtime [] = 0
settled_airtime (k ∷ known) = whole_airtime k + settled_airtime known

-- what was booked, if anything, was booked on a gateway with one of these ids
abbrev pub is_booked_on : List ℕ → Known → Bool
is_booked_on ids NotGiven = true
is_booked_on ids Pending = true
is_booked_on ids (Done None) = true
is_booked_on ids (Done (Some sent)) = is_among ids sent.gateway

-- what the desk keeps of the airtimes: one for each of its gateways, which differ, and on one of which each answer was
-- booked; and there are at most `limit` answers, each on air for no longer than an answer may be, so that the sums fit in
-- 64 bits
pub record AreAirtimes (ids airtimes : List ℕ) (limit : ℕ) (known : List Known) : Type 0 where
  pub differ : AllPairs (λ a b. a ≢ b) ids
  pub told : airtimes ≡ map (λ id. answered_at id known) ids
  pub here : All (λ k. is_booked_on ids k ≡ true) known
  pub short : All (λ k. whole_airtime k ≤ longest_us) known
  pub few : length known ≤ limit
  pub limited : limit < 2 ^ 32

-- the airtimes with that of what was sent added to its gateway's
abbrev pub raised_at : Option (ℕ × ℕ) → ℕ → List ℕ → List ℕ
raised_at None airtime airtimes = airtimes
raised_at (Some found) airtime airtimes = slice_set airtimes found.0 (get_or airtimes found.0 0 + airtime)

-- the airtimes, by the gateways with these ids, after one more answer was settled
abbrev pub raised : List ℕ → Option Sent → List ℕ → List ℕ
raised ids None airtimes = airtimes
raised ids (Some sent) airtimes = raised_at (first_at (λ id. id == sent.gateway) ids) sent.airtime airtimes

-- a desk's numbers can't leave 64 bits by one answer more
pub record CanRaise (ids airtimes : List ℕ) (sent : Option Sent) : Type 0 where
  pub places : length airtimes ≡ length ids
  pub room : All (λ x. x ≤ settled_limit) airtimes
  pub short : sent_airtime sent ≤ longest_us
