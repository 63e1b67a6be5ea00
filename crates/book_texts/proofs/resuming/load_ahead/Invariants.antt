use Rattle.book_texts.proofs.resuming.load_ahead.Given as goal

abbrev pub ghosts-load_buffered : goal.ghosts-load_buffered
ghosts-load_buffered g a = record { place = a.reader.reader.ghost_name; bytes = g.R.ByteIn.left a.reader.reader.now }
