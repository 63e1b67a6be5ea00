use Rattle.std.proofs.Common.{◌≡◌, map, subst}
use Rattle.std.specs.Io.KnownBytes.{Appends}
use Rattle.text_lines.specs.Line.{text_of}
use Rattle.text_lines.specs.Writing.{WritesFront}
use Rattle.text_words.specs.Words.{has_refusal}
use Rattle.server_core.specs.Entries.{gateway_of}
use Rattle.run_lines.specs.ReplayText.{replay_lines}
use Rattle.airbook_text.proofs.run.tell_with_workers.Goals as goal

pub returns-clause-played : goal.returns-clause-played
returns-clause-played g c =
    let wrote = c.in-Ok-write_lines_by_threads.ensures in
    let refused = c.in-Ok-write_lines_by_threads.refused in
    let entries = c.in-Ok.played.entries.items in
    let books = c.in-Ok.played.books.items in
    let given = c.as_slice-entries in
    let beside = c.as_slice-books in
    let before = g.W.ByteOut.taken c.args.writer.now in
    let after = g.W.ByteOut.taken c.write_lines_by_threads.new.writer in
    record {
      entries = entries;
      totals = c.in-Ok.played.totals.items;
      books = books;
      played = c.in-Ok.ensures.played;
      written =
          subst (λ es. Appends before after (text_of (replay_lines es (map gateway_of books)))) given.ensures.value
          (subst (λ bs. Appends before after (text_of (replay_lines given.result.now (map gateway_of bs))))
          beside.ensures.value wrote.ok);
      told =
          subst (λ es. refused ≡ has_refusal (replay_lines es (map gateway_of books))) given.ensures.value
          (subst (λ bs. refused ≡ has_refusal (replay_lines given.result.now (map gateway_of bs))) beside.ensures.value
          wrote.told);
    }

pub returns-in-Err-write_lines_by_threads-clause-part : goal.returns-in-Err-write_lines_by_threads-clause-part
returns-in-Err-write_lines_by_threads-clause-part g c failed =
    let entries = c.in-Ok.played.entries.items in
    let books = c.in-Ok.played.books.items in
    let given = c.as_slice-entries in
    let beside = c.as_slice-books in
    let before = g.W.ByteOut.taken c.args.writer.now in
    let after = g.W.ByteOut.taken c.write_lines_by_threads.new.writer in
    record {
      entries = entries;
      totals = c.in-Ok.played.totals.items;
      books = books;
      played = c.in-Ok.ensures.played;
      written =
          subst (λ es. WritesFront before after (text_of (replay_lines es (map gateway_of books)))) given.ensures.value
          (subst (λ bs. WritesFront before after (text_of (replay_lines given.result.now (map gateway_of bs))))
          beside.ensures.value c.in-Err-write_lines_by_threads.ensures.err);
    }
