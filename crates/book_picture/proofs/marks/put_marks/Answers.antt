use Rattle.std.proofs.Common.{◌≡◌, ◌+◌, ℕ, List, ◌∷◌, ◌++◌, length, sym, ap, ◌∙◌, arith, rules, refl, append-nil, map}
use Rattle.resv_list.specs.declared.reservation.Reservation.{Reservation}
use Rattle.resv_list.specs.Reservations.{start_of, IsByStart}
use Rattle.resv_list.specs.Sorted.{rest_from}
use Rattle.resv_list.proofs.SortedLaws.{RisesFrom-filter}
use Rattle.resv_list.proofs.Walk.{rest_from-rises, rest_from-None, is_next}
use Rattle.text_lines.specs.Line.{text_of}
use Rattle.text_lines.specs.Writing.{WritesAllBut-refl}
use Rattle.gateway_book.specs.Duty.{is_within_hour}
use Rattle.book_picture.specs.Hour.{members_of_hour}
use Rattle.book_picture.specs.Lines.{mark_line}
use Rattle.book_picture.proofs.HourLemmas.{found_begins}
use Rattle.book_picture.proofs.Parts.{line_put, line_front}
use Rattle.book_picture.proofs.marks.put_marks.Goals as goal

-- the members of the hour are by start
by_start : (l : List Reservation) (t : ℕ) → IsByStart l → IsByStart (members_of_hour l t)
by_start l t r = RisesFrom-filter start_of (λ r. is_within_hour r.start t) 0 l r

pub loop-member-init : goal.loop-member-init
loop-member-init g c =
    let l = g.R.Roster.list c.args.roster.now in
    let m = members_of_hour l c.args.from in
    record {
      written = rw (rest_from-rises start_of 0 0 m (omega arith)
          (by_start l c.args.from (g.met.R.Roster.by_start c.args.roster.now)))
          (WritesAllBut-refl (g.W.ByteOut.taken c.args.writer.now) (c.args.output.now ++ text_of (map (mark_line c.args.from) m)));
      quiet = refl;
    }

pub write_mark-requires : goal.write_mark-requires
write_mark-requires g c =
    found_begins c.args.from c.loop-member.at c.in-Some.member (g.R.Roster.list c.args.roster.now)
    (g.met.R.Roster.by_start c.args.roster.now) (sym c.first_of_hour.ensures ∙ c.in-Some.is)

pub returns-in-Err-clause-err : goal.returns-in-Err-clause-err
returns-in-Err-clause-err g c =
    let l = g.R.Roster.list c.args.roster.now in
    let m = members_of_hour l c.args.from in
    let next = is_next start_of m c.loop-member.at c.in-Some.member
    (by_start l c.args.from (g.met.R.Roster.by_start c.args.roster.now)) (sym c.first_of_hour.ensures ∙ c.in-Some.is) in
    line_front _ _ (mark_line c.args.from) _ c.loop-member.output _ _ c.in-Some.member c.as_slice.result.now
    (c.as_slice.ensures.bytes ∙ c.write_mark.ensures) next.rest c.loop-member.invariant.written
    (g.W.ByteOut.taken c.put.new.writer) c.in-Err.ensures.err

pub loop-member-smaller : goal.loop-member-smaller
loop-member-smaller g c =
    let l = g.R.Roster.list c.args.roster.now in
    let m = members_of_hour l c.args.from in
    let next = is_next start_of m c.loop-member.at c.in-Some.member
    (by_start l c.args.from (g.met.R.Roster.by_start c.args.roster.now)) (sym c.first_of_hour.ensures ∙ c.in-Some.is) in
    let shorter : length (rest_from start_of c.loop-member.at m)
    ≡ length (c.in-Some.member ∷ rest_from start_of (c.in-Some.member.start + 1) m) = ap length next.rest in
    omega (arith, shorter)

pub loop-member-preserved : goal.loop-member-preserved
loop-member-preserved g c =
    let l = g.R.Roster.list c.args.roster.now in
    let m = members_of_hour l c.args.from in
    let next = is_next start_of m c.loop-member.at c.in-Some.member
    (by_start l c.args.from (g.met.R.Roster.by_start c.args.roster.now)) (sym c.first_of_hour.ensures ∙ c.in-Some.is) in
    record {
      written = line_put _ _ (mark_line c.args.from) _ c.loop-member.output _ _ c.in-Some.member c.as_slice.result.now
          (c.as_slice.ensures.bytes ∙ c.write_mark.ensures) next.rest c.loop-member.invariant.written
          (g.W.ByteOut.taken c.put.new.writer) c.put.new.self c.in-Ok.ensures.ok;
      quiet = search rules;
    }

pub returns-clause-ok : goal.returns-clause-ok
returns-clause-ok g c =
    let l = g.R.Roster.list c.args.roster.now in
    let none = rest_from-None start_of c.loop-member.at (members_of_hour l c.args.from)
    (sym c.first_of_hour.ensures ∙ c.in_default.is) in
    rw (none, append-nil) at c.loop-member.invariant.written
