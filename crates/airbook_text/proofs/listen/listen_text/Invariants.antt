use Rattle.airbook_text.proofs.listen.listen_text.Given as goal

abbrev pub ghosts-listen_with : goal.ghosts-listen_with
ghosts-listen_with g a = record { name = a.blank.name; parts = a.blank.parts }
