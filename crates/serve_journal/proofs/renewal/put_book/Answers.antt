use Rattle.std.proofs.Common.{◌≡◌, ◌+◌, ◌∷◌, ◌++◌, length, map, sym, ap, ◌∙◌, arith, refl, append-nil, subst}
use Rattle.resv_list.proofs.Walk.{rest_from-rises, rest_from-None, rest_from-Some}
use Rattle.resv_list.specs.Sorted.{rest_from}
use Rattle.resv_list.specs.Reservations.{start_of}
use Rattle.text_lines.specs.Calls.{next_count}
use Rattle.text_lines.specs.Writing.{WritesAllBut, WritesFront, WritesAllBut-refl}
use Rattle.serve_journal.specs.declared.entry.Entry.{Entry}
use Rattle.serve_journal.specs.Renewal.{entries_text, sent_entry}
use Rattle.serve_journal.proofs.PuttingLemmas.{line_text, member_put, member_front}
use Rattle.serve_journal.proofs.renewal.put_book.Goals as goal

pub loop-member-init : goal.loop-member-init
loop-member-init g c =
    let l = g.R.Roster.list c.args.roster.now in
    record {
      written = rw (rest_from-rises start_of 0 0 l (omega arith) (g.met.R.Roster.by_start c.args.roster.now))
          (WritesAllBut-refl (g.W.ByteOut.taken c.args.writer.now)
          (c.args.output.now ++ entries_text (map (sent_entry c.args.id) l)));
      quiet = refl;
    }

pub returns-in-Err : goal.returns-in-Err
returns-in-Err g c =
    let l = g.R.Roster.list c.args.roster.now in
    let next = rest_from-Some start_of 0 c.loop-member.from c.in-Some.member l (g.met.R.Roster.by_start c.args.roster.now)
    (sym c.first_from.ensures ∙ c.in-Some.is) in
    let put = c.in-Err.ensures in
    let P : Entry → Type 0 = λ e. WritesFront (g.W.ByteOut.taken c.loop-member.writer) (g.W.ByteOut.taken c.put_entry.new.writer)
    (c.loop-member.output ++ line_text e) in (
      member_front c.args.id _ _ _ _ c.loop-member.output c.in-Some.member _ _ next.0 c.loop-member.invariant.written
          (subst P c.sent.ensures put.0),
      put.1 ∙ ap next_count c.loop-member.invariant.quiet,
    )

pub loop-member-smaller : goal.loop-member-smaller
loop-member-smaller g c =
    let l = g.R.Roster.list c.args.roster.now in
    let next = rest_from-Some start_of 0 c.loop-member.from c.in-Some.member l (g.met.R.Roster.by_start c.args.roster.now)
    (sym c.first_from.ensures ∙ c.in-Some.is) in
    let shorter : length (rest_from start_of c.loop-member.from l)
    ≡ length (c.in-Some.member ∷ rest_from start_of (c.in-Some.member.start + 1) l) = ap length next.0 in
    omega (arith, shorter)

pub loop-member-preserved : goal.loop-member-preserved
loop-member-preserved g c =
    let l = g.R.Roster.list c.args.roster.now in
    let next = rest_from-Some start_of 0 c.loop-member.from c.in-Some.member l (g.met.R.Roster.by_start c.args.roster.now)
    (sym c.first_from.ensures ∙ c.in-Some.is) in
    let put = c.in-Ok.ensures in
    let P : Entry → Type 0 = λ e. WritesAllBut (g.W.ByteOut.taken c.loop-member.writer) (g.W.ByteOut.taken c.put_entry.new.writer)
    (c.loop-member.output ++ line_text e) c.put_entry.new.output in
    record {
      written =
          member_put c.args.id _ _ _ _ c.loop-member.output c.put_entry.new.output c.in-Some.member _ _ next.0
          c.loop-member.invariant.written (subst P c.sent.ensures put.0);
      quiet = put.1 ∙ c.loop-member.invariant.quiet;
    }

pub returns : goal.returns
returns g c =
    let l = g.R.Roster.list c.args.roster.now in
    let none = rest_from-None start_of c.loop-member.from l (sym c.first_from.ensures ∙ c.in_default.is) in
    (rw (none, append-nil) at c.loop-member.invariant.written, c.loop-member.invariant.quiet)
