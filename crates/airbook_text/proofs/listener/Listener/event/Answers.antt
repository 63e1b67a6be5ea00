use Rattle.std.proofs.Common.{◌≡◌, ◌^◌, ◌||◌, List, subst, sym, ◌∙◌, ap, Global}
use Rattle.std.specs.Io.KnownBytes.{Appends}
use Rattle.text_lines.specs.Line.{text_of}
use Rattle.text_lines.specs.Writing.{WritesFront}
use Rattle.text_words.specs.Words.{has_refusal}
use Rattle.server_core.specs.declared.entry.Entry.{Entry}
use Rattle.run_lines.specs.ReplayText.{entry_lines}
use Rattle.air_ledger.specs.Tills.{Holding}
use Rattle.run_lines.specs.UplinkCounts.{counts_of, counts_sum, AreCountsUpTo}
use Rattle.run_server.specs.WorkersRun.{run_state, IsDone}
use Rattle.run_server.specs.declared.receipts.Receipts.{Receipts}
use Rattle.airbook_text.specs.ListenTurns.{account_of}
use Rattle.airbook_text.proofs.ListenLemmas.{answered_by}
use Rattle.airbook_text.proofs.listener.Listener.event.Goals as goal

pub returns-in-Err-clause-front : goal.returns-in-Err-clause-front
returns-in-Err-clause-front g c =
    let entries : List (Entry Global) = c.take_lines-entries.result.items in
    let old = c.args.self.shift in
    let new = c.in-Ok.shift in (
      account_of new.till new.receipts,
      record { entries = entries; lines = entry_lines entries },
      answered_by old.station.value c.args.turn c.args.event.now (account_of old.till old.receipts)
          (account_of new.till new.receipts) old.entries.items new.entries.items entries c.args.self.written
          c.in-Ok.ensures.done c.take_lines-entries.ensures.taken,
      subst (λ l. WritesFront (g.W.ByteOut.taken c.args.writer.now) (g.W.ByteOut.taken c.write_entries.new.writer)
          (text_of (entry_lines l))) c.as_slice.ensures.value c.in-Err.ensures.err,
    )

pub returns-in-Ok-write_entries-clause-ok : goal.returns-in-Ok-write_entries-clause-ok
returns-in-Ok-write_entries-clause-ok g c =
    let entries : List (Entry Global) = c.take_lines-entries.result.items in
    let wrote = c.in-Ok-write_entries.ensures in
    let counted : c.of.result ≡ counts_of entries =
    c.of.ensures.counts ∙ ap (λ l. counts_of {A = Global} l) c.as_slice-in-Ok-write_entries.ensures.value in
    let old = c.args.self.shift in
    let new = c.in-Ok.shift in
    let last = c.take_lines-entries.new.self in (
      record { entries = entries; lines = entry_lines entries },
      answered_by old.station.value c.args.turn c.args.event.now (account_of old.till old.receipts)
          (account_of last.till last.receipts) old.entries.items new.entries.items entries c.args.self.written
          (subst (λ (h : Holding). IsDone old.station.value c.args.turn c.args.event.now
          (run_state old.till old.receipts old.entries.items)
          (run_state h last.receipts new.entries.items)) (sym c.take_lines-entries.ensures.till)
          (subst (λ (r : Receipts). IsDone old.station.value c.args.turn c.args.event.now
          (run_state old.till old.receipts old.entries.items)
          (run_state new.till r new.entries.items)) (sym c.take_lines-entries.ensures.receipts)
          c.in-Ok.ensures.done))
          c.take_lines-entries.ensures.taken,
      record {
        counts = c.add.ensures ∙ ap (counts_sum c.args.self.counts) counted;
        small = subst (AreCountsUpTo (2 ^ 64)) counted c.of.ensures.small;
        refused = ap (λ t. c.args.self.refused || t)
            (wrote.told ∙ ap (λ l. has_refusal (entry_lines l)) c.as_slice.ensures.value);
        written = subst (λ l. Appends (g.W.ByteOut.taken c.args.writer.now) (g.W.ByteOut.taken c.write_entries.new.writer)
            (text_of (entry_lines l))) c.as_slice.ensures.value wrote.ok;
      },
    )
