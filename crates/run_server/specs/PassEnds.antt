use Rattle.std.specs.Prelude.{ℕ, ◌==◌, not, List, filter, find, is_some, Option}
use Rattle.std.specs.Global.{Global}
use Rattle.std.specs.Option.{option_or, option_map}
use Rattle.answer_ticket.specs.declared.outcome.Outcome.{Outcome}
use Rattle.server_desk.specs.declared.faults.TakeFault.{TakeFault}
use Rattle.server_workers.specs.Filing.{Filing}
use Rattle.run_server.specs.declared.pass_ends.End.{End}
use Rattle.run_server.specs.declared.pass_ends.End.TheVariants as ends

-- How the uplinks that one `pass` closed ended, after this project's profile.

-- how number n ended: by the first of these lists that has it; one that was skipped has not ended
abbrev pub end_of : Filing Global → ℕ → Option End
end_of f n =
    option_or (option_map (λ (o : Outcome). ends.Settled o.result) (find (λ (o : Outcome). o.number == n) f.outcomes))
    (option_or (option_map (λ (r : ℕ × TakeFault). ends.Refused r.1) (find (λ (r : ℕ × TakeFault). r.0 == n) f.refused))
    (option_map (λ (m : ℕ). ends.Stray) (find (λ (m : ℕ). m == n) f.strays)))

-- those of these numbers that have not ended
abbrev pub left_by : Filing Global → List ℕ → List ℕ
left_by f numbers = filter (λ n. not (is_some (end_of f n))) numbers
