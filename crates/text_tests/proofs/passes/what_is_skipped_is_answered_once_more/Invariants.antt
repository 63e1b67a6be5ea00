use Rattle.text_tests.proofs.passes.what_is_skipped_is_answered_once_more.Given as goal

abbrev pub ghosts-held : goal.ghosts-held
ghosts-held g a = record { name = a.blank.name; parts = a.blank.parts }
