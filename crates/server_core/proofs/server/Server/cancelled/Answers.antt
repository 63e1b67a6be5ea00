use Rattle.server_core.proofs.Words.{arith, refl, seen}
use Rattle.server_core.proofs.BookCalls.{book_within, nothing_sent, not_here, was_cancelled}
use Rattle.server_core.proofs.server.Server.cancelled.Goals as goal

pub returns-in_default : goal.returns-in_default
returns-in_default g c = nothing_sent c.args.number (seen c.args.self.now) _ c.requires c.in_default.ensures refl

pub returns-in_default-place_of : goal.returns-in_default-place_of
returns-in_default-place_of g c = not_here c.args.number (seen c.args.self.now) _ c.requires _ c.in-Some.ensures
    (rw c.deref.ensures.value at c.in_default-place_of.ensures) refl

pub index_mut-requires : goal.index_mut-requires
index_mut-requires g c =
    let within = book_within c.in-Some.sent.gateway c.args.self.now.books.items c.in-Some-place_of.at
    (rw c.deref.ensures.value at c.in-Some-place_of.ensures) in
    omega (arith, c.args.self.now.books.ok.0)

pub returns : goal.returns
returns g c =
    let call = c.cancel.ensures in
    was_cancelled c.args.number (seen c.args.self.now) _ c.requires _ c.in-Some.ensures _ _ _ _
    (rw c.deref.ensures.value at c.in-Some-place_of.ensures) c.index_mut.ensures.value
    (record { answer = call.answer; cancelled = call.cancelled; step = call.step; refused = call.refused }) refl
