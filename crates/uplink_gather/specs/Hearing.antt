use Rattle.std.specs.Prelude.{ℕ, ◌+◌, ◌-◌, nat_le, ◌==◌, Bool, false, ◌&&◌, ◌||◌, if◌then◌else◌, List, [], ◌∷◌, ◌++◌, length}
use Rattle.std.specs.Prelude.{filter, Option, Some, None, Result, Ok, Err}
use Rattle.std.specs.List.{list_any}
use Rattle.uplink_gather.specs.declared.heard.HeardCopy.{HeardCopy}
use Rattle.uplink_gather.specs.declared.limits.Limits.{Limits}
use Rattle.uplink_gather.specs.declared.fault.HearFault.{HearFault}
use Rattle.uplink_gather.specs.declared.fault.HearFault.TheVariants.{SameGateway, TooManyCopies, Late, Crowded}
use Rattle.uplink_gather.specs.declared.answers.Place.{Place}
use Rattle.uplink_gather.specs.declared.answers.Place.TheVariants.{Joins, Opens}
use Rattle.uplink_gather.specs.declared.answers.Heard.{Heard}
use Rattle.uplink_gather.specs.declared.answers.Heard.TheVariants.{Opened, Joined}
use Rattle.uplink_gather.specs.Gatherings.{Gathering, Gatherings, rewritten, newest, is_open, copies_of, join_us}

-- Hearing a copy: where it goes, and what becomes of the gatherings, after this project's profile.

-- up to how long after a gathering's opening, in microseconds, its bytes open no other
abbrev pub late_us : ℕ
late_us = 1000000

-- how long after the opening it arrives, in microseconds: 0 where it arrives earlier
abbrev pub delay : Gathering → ℕ → ℕ
delay g arrived = arrived - g.opened

-- a copy that arrives then joins the gathering
abbrev pub takes_copies : Gathering → ℕ → Bool
takes_copies g arrived = is_open g && nat_le (delay g arrived) join_us

-- one of the copies is from this gateway
abbrev pub has_gateway : ℕ → List HeardCopy → Bool
has_gateway gateway copies = list_any (λ c. c.gateway == gateway) copies

-- a copy that would join the gathering with the number n, which has these copies
abbrev pub join_answer : Limits → ℕ → List HeardCopy → ℕ → Result Place HearFault
join_answer limits n copies gateway =
    if has_gateway gateway copies
    then Err SameGateway
    else (if nat_le limits.max_copies (length copies) then Err TooManyCopies else Ok (Joins n))

-- where a copy goes, by the newest gathering of its bytes
abbrev pub place_by : Limits → ℕ → ℕ → Option (ℕ × Gathering) → Result Place HearFault
place_by limits gateway arrived None = Ok Opens
place_by limits gateway arrived (Some e) =
    if takes_copies e.1 arrived
    then join_answer limits e.0 e.1.copies gateway
    else (if nat_le (delay e.1 arrived) late_us then Err Late else Ok Opens)

-- where a copy of these bytes goes that this gateway heard
abbrev pub place_of : Gatherings → List ℕ → ℕ → ℕ → Result Place HearFault
place_of s bytes gateway arrived = place_by s.limits gateway arrived (newest bytes s.list)

-- as many are unclosed, or were ever opened, as may be
abbrev pub is_crowded : Gatherings → Bool
is_crowded s = nat_le s.limits.max_open (length (filter is_open s.list)) || nat_le s.limits.max_ever (length s.list)

-- the answer to a copy that has this place
abbrev pub answer_at : Gatherings → Result Place HearFault → Result Heard HearFault
answer_at s (Ok (Joins n)) = Ok (Joined n (length (copies_of n s.list) + 1))
answer_at s (Ok Opens) = if is_crowded s then Err Crowded else Ok (Opened (length s.list + 1))
answer_at s (Err fault) = Err fault

-- the answer to a copy, memory aside
abbrev pub hear_answer : Gatherings → List ℕ → ℕ → ℕ → Result Heard HearFault
hear_answer s bytes gateway arrived = answer_at s (place_of s bytes gateway arrived)

-- the gathering that a copy opens
abbrev pub opening : List ℕ → HeardCopy → ℕ → Gathering
opening bytes copy arrived = record { bytes = bytes; opened = arrived; copies = copy ∷ []; closed = false }

-- the gathering with one copy more
abbrev pub with_copy : HeardCopy → Gathering → Gathering
with_copy copy g = record g { copies = g.copies ++ copy ∷ [] }

-- the gatherings after an answer: only a copy that was taken in changes them
abbrev pub after_hearing : Result Heard HearFault → Gatherings → List ℕ → HeardCopy → ℕ → Gatherings
after_hearing (Ok (Opened n)) s bytes copy arrived = record s { list = s.list ++ opening bytes copy arrived ∷ [] }
after_hearing (Ok (Joined n copies)) s bytes copy arrived = record s { list = rewritten (with_copy copy) n s.list }
after_hearing (Err fault) s bytes copy arrived = s

-- the gatherings after a copy, where there is memory
abbrev pub hear_step : Gatherings → List ℕ → HeardCopy → ℕ → Gatherings
hear_step s bytes copy arrived =
    after_hearing (hear_answer s bytes copy.gateway arrived) s bytes copy arrived
