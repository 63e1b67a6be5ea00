use Rattle.text_tests.proofs.passes.as_many_workers_start_as_there_is_work_for.Given as goal

abbrev pub ghosts-answered : goal.ghosts-answered
ghosts-answered g a = record { name = a.blank.name; parts = a.blank.parts }
