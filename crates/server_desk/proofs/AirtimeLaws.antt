use Rattle.server_desk.proofs.Words
use Words.{ℕ, ◌≡◌, ◌-◌, List, Some, Result, Ok, Err, refl, arith, Limits, numbered, Job, Heard1, TakeFault, SettingLists}
use Words.{Register, Decision, decide, Known, NotGiven, Pending, take_answer, settled_airtime, DeskView, total_of, desk_of}
use Words.{desk_hear, desk_take, desk_taken, known_after}
use Rattle.server_desk.proofs.{Numbers.at_number, AirtimeSums.sum_push, AirtimeSums.sum_set, AirtimeSums.settled_sum}
use Rattle.server_desk.specs.{World.opening}

-- Which calls leave the airtime of all settled answers as it is: all but `settle`.

-- before anything was heard there is none
pub total-opening : (settings : SettingLists) (limits : Limits) → total_of (desk_of (opening settings limits)) ≡ 0
total-opening settings limits = refl

heard_by : (known : List Known) (decision : Decision) → settled_airtime (known_after decision known) ≡ settled_airtime known
heard_by known decision = grind (arith, sum_push settled_sum)

pub total-hear : (d : DeskView) (bytes : List ℕ) (heard : Heard1) (arrived : ℕ)
    → total_of (desk_hear d bytes heard arrived) ≡ total_of d
total-hear d bytes heard arrived = heard_by d.known (decide d.ids d.reg bytes heard arrived)

-- a ticket is given only where none was
waits : (reg : Register) (known : List Known) (n : ℕ) (job : Job) → take_answer reg known n ≡ Ok job
    → numbered n known ≡ Some NotGiven
unfolding take_answer
waits reg known n job e = grind arith

taken_by : (d : DeskView) (n : ℕ) (r : Result Job TakeFault) → take_answer d.reg d.known n ≡ r
    → total_of (desk_taken r n d) ≡ total_of d
taken_by d n (Err fault) e = refl
taken_by d n (Ok job) e =
    let found = waits d.reg d.known n job e in
    let at = at_number n d.known NotGiven found in
    rw found (omega (arith, sum_set settled_sum d.known (n - 1) NotGiven Pending at))

pub total-take : (d : DeskView) (n : ℕ) → total_of (desk_take d n) ≡ total_of d
total-take d n = taken_by d n (take_answer d.reg d.known n) refl
