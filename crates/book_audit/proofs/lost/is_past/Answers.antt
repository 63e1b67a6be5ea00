use Rattle.std.proofs.Common.{ℕ, ◌≡◌, ◌<◌, ◌+◌, length, ap, subst, arith}
use Rattle.std.proofs.lemmas.List.Elements.{AllWithin-more, at_read}
use Rattle.book_audit.specs.Audit.{Shelved}
use Rattle.book_audit.proofs.lost.is_past.Goals as goal

-- not a book of this gateway with a floor past this moment
abbrev IsNotPast : ℕ → ℕ → Shelved → Type 0
IsNotPast gateway last s = s.0 ≡ gateway → last < s.1.floor → ⊥

pub loop-id-preserved-then-id-gateway : goal.loop-id-preserved-then-id-gateway
loop-id-preserved-then-id-gateway g c =
    let P = IsNotPast c.args.gateway (c.args.reservation.now.start + 3600000000) in
    let within : c.loop-id.id-index < length c.args.shelf.now = omega arith in
    AllWithin-more P c.args.shelf.now 0 c.loop-id.id-index c.loop-id.invariant
    (at_read c.args.shelf.now P c.loop-id.id-index c.loop-id-item.result within c.loop-id-item.is
    (λ own past. c.if-id-gateway.true own))

pub loop-id-preserved : goal.loop-id-preserved
loop-id-preserved g c =
    let P = IsNotPast c.args.gateway (c.args.reservation.now.start + 3600000000) in
    let within : c.loop-id.id-index < length c.args.shelf.now = omega arith in
    let floor = ap (λ t. t.floor) c.totals.ensures.totals in
    AllWithin-more P c.args.shelf.now 0 c.loop-id.id-index c.loop-id.invariant
    (at_read c.args.shelf.now P c.loop-id.id-index c.loop-id-item.result within c.loop-id-item.is
    (λ own past. omega (arith, floor, past)))

pub returns : goal.returns
returns g c = (
  λ t. absurd (cc (t)),
  λ (s, there, own, past).
      let none = c.loop-id.invariant there.0 s (omega arith) (omega (arith, there.1)) in
      absurd (subst (IsNotPast c.args.gateway (c.args.reservation.now.start + 3600000000)) there.2 none own past),
)
