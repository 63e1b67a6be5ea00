use Rattle.workers_tests.proofs.growth.stations.takes.Given as goal

abbrev pub ghosts-is_refused : goal.ghosts-is_refused
ghosts-is_refused g a = record { name = a.blank.name; parts = a.blank.parts }
