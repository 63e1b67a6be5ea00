use Rattle.workers_tests.proofs.station_tests.hands_back_what_is_another_stations.Given as goal

abbrev pub ghosts-strayed-B-Ledger : goal.ghosts-strayed-B-Ledger
ghosts-strayed-B-Ledger g a = record { name = a.blank.name; parts = a.blank.parts }

abbrev pub ghosts-strayed-C-Ledger : goal.ghosts-strayed-C-Ledger
ghosts-strayed-C-Ledger g a = record { name = a.other.name; parts = a.other.parts }
