use Rattle.std.specs.Prelude.{ℕ, Option, Some, None}
use Rattle.uplink_gather.specs.Gatherings.{due_of, close_step}
use Rattle.server_desk.specs.Register.{Register}

-- Time passes, and a gathering that is due is closed (this project's profile).

-- the least number that is due
abbrev pub pass_answer : Register → ℕ → Option ℕ
pass_answer reg now = due_of now reg.gathered.list

abbrev pub closing : Option ℕ → Register → Register
closing None reg = reg
closing (Some n) reg = record reg { gathered = close_step reg.gathered n }

-- what the server knows then
abbrev pub pass_step : Register → ℕ → Register
pass_step reg now = closing (pass_answer reg now) reg
