use Rattle.desk_tests.proofs.ledger.all_parts_hold_all_airtime.Given as goal

abbrev pub ghosts-day : goal.ghosts-day
ghosts-day g a = record { name = a.blank.name; parts = a.blank.parts }
