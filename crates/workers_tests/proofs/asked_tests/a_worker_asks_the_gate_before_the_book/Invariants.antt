use Rattle.workers_tests.proofs.asked_tests.a_worker_asks_the_gate_before_the_book.Given as goal

abbrev pub ghosts-taken_at_the_gate : goal.ghosts-taken_at_the_gate
ghosts-taken_at_the_gate g a = record { name = a.blank.name; parts = a.blank.parts }
