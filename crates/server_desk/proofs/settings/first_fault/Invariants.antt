use Rattle.server_desk.proofs.Words.{◌≡◌, [], take, drop, first_fault}
use Rattle.server_desk.proofs.settings.first_fault.Given as goal

abbrev pub invariant-loop-place : goal.invariant-loop-place
invariant-loop-place g l =
    first_fault g.S.Setting.fault_of (take l.place l.settings) (drop l.place l.settings)
    ≡ first_fault g.S.Setting.fault_of [] l.settings
