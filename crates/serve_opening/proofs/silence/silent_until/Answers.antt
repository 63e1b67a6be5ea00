use Rattle.std.proofs.Common.{◌≡◌, ◌+◌, max, drop, ap, sym, ◌∙◌, arith}
use Rattle.resv_list.specs.Reservations.{end_of}
use Rattle.serve_opening.specs.Silence.{late_by, silent_until}
use Rattle.serve_opening.proofs.Silences.{silent_next}
use Rattle.serve_opening.proofs.silence.silent_until.Goals as goal

pub loop-member-preserved : goal.loop-member-preserved
loop-member-preserved c =
    let l = c.args.members.now in
    let place = c.loop-member.member-index in
    let member = c.member-item.result in
    let then : c.end.result + c.from.result + 2000000 ≡ end_of member + c.args.gap + late_by =
    omega (arith, c.end.ensures, c.from.ensures) in
    let later : c.max-until.result ≡ max c.loop-member.until (end_of member + c.args.gap + late_by) =
    c.max-until.ensures ∙ ap (max c.loop-member.until) then in
    ap (λ u. max u (silent_until c.args.gap (drop (place + 1) l))) later
    ∙ silent_next c.args.gap l place member c.loop-member.until c.loop-member-test.true (sym c.member-item.is)
    ∙ c.loop-member.invariant
