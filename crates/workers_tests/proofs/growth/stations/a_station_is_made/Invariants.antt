use Rattle.workers_tests.proofs.growth.stations.a_station_is_made.Given as goal

abbrev pub ghosts-is_made_without : goal.ghosts-is_made_without
ghosts-is_made_without a = record { name = a.blank.name; parts = a.blank.parts }
