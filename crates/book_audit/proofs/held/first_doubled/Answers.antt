use Rattle.std.proofs.Common.{◌≡◌, rules, tests}
use Rattle.std.proofs.lemmas.Iterator.{first_from_find, YieldsList-from_slice, YieldsList-from_zip}
use Rattle.std.proofs.lemmas.Iterator.Adapters.{YieldsList-from_skip}
use Rattle.book_audit.proofs.HeldLemmas.{do_differ, all_differ, first_alike}
use Rattle.book_audit.proofs.held.first_doubled.Goals as goal

pub returns-in_err-gateway-clause-none : goal.returns-in_err-gateway-clause-none
returns-in_err-gateway-clause-none c _ =
    let found = first_from_find c.find.new.self _ c.find.result (λ p. p.0.1.number ≡ p.1.1.number) (λ p. do_differ p.0 p.1)
    c.find.ensures.ran
    (YieldsList-from_zip (YieldsList-from_slice c.args.held.now (cc))
    (YieldsList-from_skip 1 (YieldsList-from_slice c.args.held.now (cc)) (cc)))
    (λ x q k. search (rules, tests)) (λ x q k. search (rules, tests)) in
    all_differ c.args.held.now c.requires (rw c.in_err-gateway.was at found)

pub returns-clause-twice : goal.returns-clause-twice
returns-clause-twice c =
    let found = first_from_find c.find.new.self _ c.find.result (λ p. p.0.1.number ≡ p.1.1.number) (λ p. do_differ p.0 p.1)
    c.find.ensures.ran
    (YieldsList-from_zip (YieldsList-from_slice c.args.held.now (cc))
    (YieldsList-from_skip 1 (YieldsList-from_slice c.args.held.now (cc)) (cc)))
    (λ x q k. search (rules, tests)) (λ x q k. search (rules, tests)) in
    first_alike c.args.held.now c.requires c.in_ok-gateway.field-0-0.now c.in_ok-gateway.field-0-1.now
    (rw c.in_ok-gateway.was at found)
