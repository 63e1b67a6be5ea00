use Rattle.text_tests.proofs.passes.number_that_stands_twice_has_its_answer_twice.Given as goal

abbrev pub ghosts-told_twice : goal.ghosts-told_twice
ghosts-told_twice g a = record { name = a.blank.name; parts = a.blank.parts }
