use Rattle.std.proofs.Common.{◌≡◌, ℕ, List, ◌+◌, ◌∷◌, ◌++◌, length, sym, ap, ◌∙◌, arith, refl, append-nil, subst}
use Rattle.resv_list.proofs.Walk.{rest_from-rises, rest_from-None, rest_from-Some}
use Rattle.resv_list.specs.Sorted.{rest_from}
use Rattle.resv_list.specs.Reservations.{start_of}
use Rattle.text_lines.specs.Calls.{next_count}
use Rattle.text_lines.specs.Line.{text_of}
use Rattle.text_lines.specs.Writing.{WritesAllBut, WritesFront, WritesAllBut-refl}
use Rattle.journal_sql.specs.Rows.{sent_row}
use Rattle.journal_sql.specs.Sql.{next_number, numbered, number_behind}
use Rattle.journal_sql.proofs.RowLemmas.{line_text, each_numbered, part_put, part_front}
use Rattle.journal_sql.proofs.writing.put_book.Goals as goal

pub loop-member-init : goal.loop-member-init
loop-member-init g c =
    let l = g.R.Roster.list c.args.roster.now in
    let all = rest_from-rises start_of 0 0 l (omega arith) (g.met.R.Roster.by_start c.args.roster.now) in
    record {
      written = rw all (WritesAllBut-refl (g.W.ByteOut.taken c.args.writer.now)
          (c.args.output.now ++ text_of (numbered (sent_row c.args.id) c.args.number l)));
      quiet = refl;
      counted = ap (number_behind c.args.number) all;
    }

pub returns-in-Err-clause-rows : goal.returns-in-Err-clause-rows
returns-in-Err-clause-rows g c =
    let l = g.R.Roster.list c.args.roster.now in
    let row = sent_row c.args.id in
    let next = rest_from-Some start_of 0 c.loop-member.from c.in-Some.member l (g.met.R.Roster.by_start c.args.roster.now)
    (sym c.first_from.ensures ∙ c.in-Some.is) in
    let put = c.in-Err.ensures in
    let P : List ℕ → Type 0 = λ l. WritesFront (g.W.ByteOut.taken c.loop-member.writer) (g.W.ByteOut.taken c.put_line.new.writer)
    (c.loop-member.output ++ l) in (
      part_front (λ n xs. text_of (numbered row n xs)) (λ n x. line_text (row n x)) (λ n _. next_number n) (each_numbered row)
          (g.W.ByteOut.taken c.args.writer.now) (g.W.ByteOut.taken c.loop-member.writer) (g.W.ByteOut.taken c.put_line.new.writer)
          (c.args.output.now ++ text_of (numbered row c.args.number l))
          c.loop-member.output c.loop-member.next c.in-Some.member _ _ next.0 c.loop-member.invariant.written
          (subst P c.write_sent.ensures put.0),
      put.1 ∙ ap next_count c.loop-member.invariant.quiet,
    )

pub loop-member-smaller : goal.loop-member-smaller
loop-member-smaller g c =
    let l = g.R.Roster.list c.args.roster.now in
    let next = rest_from-Some start_of 0 c.loop-member.from c.in-Some.member l (g.met.R.Roster.by_start c.args.roster.now)
    (sym c.first_from.ensures ∙ c.in-Some.is) in
    let shorter : length (rest_from start_of c.loop-member.from l)
    ≡ length (c.in-Some.member ∷ rest_from start_of (c.in-Some.member.start + 1) l) = ap length next.0 in
    omega (arith, shorter)

pub loop-member-preserved : goal.loop-member-preserved
loop-member-preserved g c =
    let l = g.R.Roster.list c.args.roster.now in
    let row = sent_row c.args.id in
    let rest = rest_from start_of (c.in-Some.member.start + 1) l in
    let next = rest_from-Some start_of 0 c.loop-member.from c.in-Some.member l (g.met.R.Roster.by_start c.args.roster.now)
    (sym c.first_from.ensures ∙ c.in-Some.is) in
    let put = c.in-Ok.ensures in
    let P : List ℕ → Type 0 = λ l. WritesAllBut (g.W.ByteOut.taken c.loop-member.writer) (g.W.ByteOut.taken c.put_line.new.writer)
    (c.loop-member.output ++ l) c.put_line.new.output in
    let Q : ℕ → Type 0 = λ n. WritesAllBut (g.W.ByteOut.taken c.args.writer.now) (g.W.ByteOut.taken c.put_line.new.writer)
    (c.args.output.now ++ text_of (numbered row c.args.number l)) (c.put_line.new.output ++ text_of (numbered row n rest)) in
    record {
      written = subst Q (sym c.number_after-next.ensures)
          (part_put (λ n xs. text_of (numbered row n xs)) (λ n x. line_text (row n x)) (λ n _. next_number n) (each_numbered row)
          (g.W.ByteOut.taken c.args.writer.now) (g.W.ByteOut.taken c.loop-member.writer) (g.W.ByteOut.taken c.put_line.new.writer)
          (c.args.output.now ++ text_of (numbered row c.args.number l))
          c.loop-member.output c.put_line.new.output c.loop-member.next c.in-Some.member rest _ next.0
          c.loop-member.invariant.written (subst P c.write_sent.ensures put.0));
      quiet = put.1 ∙ c.loop-member.invariant.quiet;
      counted = ap (λ n. number_behind n rest) c.number_after-next.ensures ∙ sym (ap (number_behind c.loop-member.next) next.0)
          ∙ c.loop-member.invariant.counted;
    }

pub returns-clause-rows : goal.returns-clause-rows
returns-clause-rows g c =
    let l = g.R.Roster.list c.args.roster.now in
    let none = rest_from-None start_of c.loop-member.from l (sym c.first_from.ensures ∙ c.in_default.is) in
    (rw (none, append-nil) at c.loop-member.invariant.written, c.loop-member.invariant.quiet)

pub returns-clause-next : goal.returns-clause-next
returns-clause-next g c =
    let l = g.R.Roster.list c.args.roster.now in
    let none = rest_from-None start_of c.loop-member.from l (sym c.first_from.ensures ∙ c.in_default.is) in
    sym (ap (number_behind c.loop-member.next) none) ∙ c.loop-member.invariant.counted
