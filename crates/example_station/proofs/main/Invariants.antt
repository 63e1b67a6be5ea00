use Rattle.example_station.proofs.main.Given as goal

abbrev pub ghosts-serve_one : goal.ghosts-serve_one
ghosts-serve_one g a = record { name = a.blank.name; parts = a.blank.parts }
