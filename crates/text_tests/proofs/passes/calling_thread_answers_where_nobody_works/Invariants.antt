use Rattle.text_tests.proofs.passes.calling_thread_answers_where_nobody_works.Given as goal

abbrev pub ghosts-answered : goal.ghosts-answered
ghosts-answered g a = record { name = a.blank.name; parts = a.blank.parts }
