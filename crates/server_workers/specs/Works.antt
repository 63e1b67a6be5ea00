use Rattle.std.specs.Prelude.{ℕ, ◌≡◌, ◌+◌, ◌<◌, ◌≤◌, List, [], ◌++◌, Vec, vec_len, vec_capacity, sum_by}
use Rattle.answer_ticket.specs.declared.outcome.Outcome.{Outcome}
use Rattle.server_desk.specs.Airtime.{airtime_of_ending}

-- What workers have done, after this project's profile.

-- the airtime of the answers that ended so, in microseconds
abbrev pub outcomes_airtime : List Outcome → ℕ
outcomes_airtime outcomes = sum_by (λ (o : Outcome). airtime_of_ending o.result) outcomes

-- an empty list with room for so many items
pub record IsEmptyFor {X Z : Type 0} (room : ℕ) (list : Vec X Z) : Type 0 where
  pub none : list.items ≡ []
  pub fits : vec_capacity list ≡ room

-- one more item fits into the list
abbrev pub IsOpen : {X Z : Type 0} → Vec X Z → Type 0
IsOpen list = vec_len list < vec_capacity list

-- so many items more fit into the list
abbrev pub Fits : {X Z : Type 0} → ℕ → Vec X Z → Type 0
Fits n list = vec_len list + n ≤ vec_capacity list

-- a list begins with another
abbrev pub BeginsWith : {X : Type 0} → List X → List X → Type 0
BeginsWith {X} old new = (more : List X) × (new ≡ old ++ more)

-- a list begins with what was there before, and has the room that it had
pub record IsLonger {X Z : Type 0} (old new : Vec X Z) : Type 0 where
  pub begins : BeginsWith old.items new.items
  pub fits : vec_capacity new ≡ vec_capacity old

-- a list has these items at its end, and the room that it had
pub record HasMore {X Z : Type 0} (more : List X) (old new : Vec X Z) : Type 0 where
  pub items : new.items ≡ old.items ++ more
  pub fits : vec_capacity new ≡ vec_capacity old

-- a list has another's items at its end, and the room that it had
pub record IsJoined {X Z : Type 0} (old more new : Vec X Z) : Type 0 where
  pub items : new.items ≡ old.items ++ more.items
  pub length : vec_len new ≡ vec_len old + vec_len more
  pub fits : vec_capacity old ≤ vec_capacity new
