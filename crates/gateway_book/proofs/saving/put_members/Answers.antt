use Rattle.std.proofs.Common.{◌≡◌, ◌+◌, ◌∷◌, ◌++◌, length, sym, ap, ◌∙◌, arith, rules, refl, append-nil}
use Rattle.resv_list.proofs.Walk.{rest_from-rises, rest_from-None, rest_from-Some}
use Rattle.resv_list.specs.Sorted.{rest_from}
use Rattle.resv_list.specs.Reservations.{start_of}
use Rattle.text_lines.specs.Writing.{WritesAllBut-refl}
use Rattle.gateway_book.specs.Saved.{members_text}
use Rattle.gateway_book.proofs.SavedText.{member_put, member_front}
use Rattle.gateway_book.proofs.saving.put_members.Goals as goal

pub loop-member-init : goal.loop-member-init
loop-member-init g c =
    let l = g.R.Roster.list c.args.roster.now in
    record {
      written = rw (rest_from-rises start_of 0 0 l (omega arith) (g.met.R.Roster.by_start c.args.roster.now))
          (WritesAllBut-refl (g.W.ByteOut.taken c.args.writer.now) (c.args.output.now ++ members_text l));
      quiet = refl;
    }

pub returns-in-Err-clause-err : goal.returns-in-Err-clause-err
returns-in-Err-clause-err g c =
    let l = g.R.Roster.list c.args.roster.now in
    let next = rest_from-Some start_of 0 c.loop-member.from c.in-Some.member l (g.met.R.Roster.by_start c.args.roster.now)
    (sym c.first_from.ensures ∙ c.in-Some.is) in
    member_front _ _ (g.W.ByteOut.taken c.put.new.writer) (c.args.output.now ++ members_text l) c.loop-member.output _
    c.in-Some.member c.as_slice.result.now (c.as_slice.ensures.bytes ∙ c.write_member.ensures) _ next.0
    c.loop-member.invariant.written c.in-Err.ensures.err

pub loop-member-smaller : goal.loop-member-smaller
loop-member-smaller g c =
    let l = g.R.Roster.list c.args.roster.now in
    let next = rest_from-Some start_of 0 c.loop-member.from c.in-Some.member l (g.met.R.Roster.by_start c.args.roster.now)
    (sym c.first_from.ensures ∙ c.in-Some.is) in
    let shorter : length (rest_from start_of c.loop-member.from l)
    ≡ length (c.in-Some.member ∷ rest_from start_of (c.in-Some.member.start + 1) l) = ap length next.0 in
    omega (arith, shorter)

pub loop-member-preserved : goal.loop-member-preserved
loop-member-preserved g c =
    let l = g.R.Roster.list c.args.roster.now in
    let next = rest_from-Some start_of 0 c.loop-member.from c.in-Some.member l (g.met.R.Roster.by_start c.args.roster.now)
    (sym c.first_from.ensures ∙ c.in-Some.is) in
    record {
      written = member_put _ _ (g.W.ByteOut.taken c.put.new.writer) (c.args.output.now ++ members_text l) c.loop-member.output _
          c.in-Some.member c.as_slice.result.now (c.as_slice.ensures.bytes ∙ c.write_member.ensures) _ c.put.new.self next.0
          c.loop-member.invariant.written c.in-Ok.ensures.ok;
      quiet = search rules;
    }

pub returns-clause-ok : goal.returns-clause-ok
returns-clause-ok g c =
    let l = g.R.Roster.list c.args.roster.now in
    let none = rest_from-None start_of c.loop-member.from l (sym c.first_from.ensures ∙ c.in_default.is) in
    rw (none, append-nil) at c.loop-member.invariant.written
