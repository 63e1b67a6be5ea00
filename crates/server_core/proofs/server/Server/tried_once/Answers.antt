use Rattle.server_core.proofs.Words.{arith, seen}
use Rattle.server_core.proofs.BookCalls.{book_within}
use Rattle.server_core.proofs.TrySteps.{has_book, not_wrong, next_turn, out_turn, booked_turn}
use Rattle.server_core.proofs.server.Server.tried_once.Goals as goal

pub unreachable-requires : goal.unreachable-requires
unreachable-requires g c = has_book c.args.ticket (seen c.args.self.now) (seen c.did.new.self) c.gateway.result
    (rw c.number-number.ensures.number at c.in-Ok.ensures)
    c.requires c.gateway.ensures.gateway (rw c.deref.ensures.value at c.in_default-place_of.ensures)

pub index_mut-requires : goal.index_mut-requires
index_mut-requires g c =
    let within = book_within c.gateway.result c.did.new.self.books.items c.in-Some.place
    (rw c.deref.ensures.value at c.in-Some.ensures) in
    omega (arith, c.did.new.self.books.ok.0)

pub unreachable-requires-in-Wrong : goal.unreachable-requires-in-Wrong
unreachable-requires-in-Wrong g c =
    not_wrong _ (seen c.args.self.now) (seen c.did.new.self) _ _ _ _ (rw c.number-number.ensures.number at c.in-Ok.ensures)
    (rw c.deref.ensures.value at c.in-Some.ensures) c.index_mut.ensures.value c.gateway.ensures.gateway _ c.in-Wrong.ensures

pub returns-in-Booked : goal.returns-in-Booked
returns-in-Booked g c =
    booked_turn _ (seen c.args.self.now) (seen c.did.new.self) _ _ _ _ (rw c.number-number.ensures.number at c.in-Ok.ensures)
    (rw c.deref.ensures.value at c.in-Some.ensures) c.index_mut.ensures.value c.requires _ _ c.in-Booked.ensures

pub returns-in-Next : goal.returns-in-Next
returns-in-Next g c =
    next_turn _ (seen c.args.self.now) (seen c.did.new.self) _ _ _ _ (rw c.number-number.ensures.number at c.in-Ok.ensures)
    (rw c.deref.ensures.value at c.in-Some.ensures) c.index_mut.ensures.value _ _ c.in-Next.ensures

pub returns-in-Out : goal.returns-in-Out
returns-in-Out g c =
    out_turn _ (seen c.args.self.now) (seen c.did.new.self) _ _ _ _ (rw c.number-number.ensures.number at c.in-Ok.ensures)
    (rw c.deref.ensures.value at c.in-Some.ensures) c.index_mut.ensures.value _ _ c.in-Out.ensures
