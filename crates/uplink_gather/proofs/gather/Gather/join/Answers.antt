use Rattle.std.proofs.Common.{ℕ, ◌≡◌, ◌+◌, length, ap, arith}
use Rattle.uplink_gather.specs.declared.answers.Heard.TheVariants.{Joined}
use Rattle.uplink_gather.proofs.CallLemmas.{whole_joining, joining_refused, joining_count, joining_looks}
use Rattle.uplink_gather.proofs.gather.Gather.join.Goals as goal

pub invariant_of-self : goal.invariant_of-self
invariant_of-self g c =
    rw c.index_of.ensures
    (whole_joining _ _ _ _ c.self.invariant _ c.self.view_is c.args.n c.requires c.index_mut-gathering.result.now
    (rw c.index_of.ensures at c.index_mut-gathering.ensures.value) c.make_room.new.copies)

pub returns-then-is_err-clause-refused : goal.returns-then-is_err-clause-refused
returns-then-is_err-clause-refused g c =
    rw c.index_of.ensures
    (joining_refused _ _ _ _ c.self.invariant _ c.self.view_is c.args.n c.requires c.index_mut-gathering.result.now
    (rw c.index_of.ensures at c.index_mut-gathering.ensures.value) c.make_room.new.copies c.make_room.ensures.same)

pub invariant_of-self-2 : goal.invariant_of-self-2
invariant_of-self-2 g c =
    rw c.index_of.ensures
    (whole_joining _ _ _ _ c.self.invariant _ c.self.view_is c.args.n c.requires c.index_mut-gathering.result.now
    (rw c.index_of.ensures at c.index_mut-gathering.ensures.value) c.push_reserved.new.self)

pub returns-clause-told : goal.returns-clause-told
returns-clause-told g c =
    let count : c.len.result ≡ length c.index_mut-gathering.result.now.copies.items + 1 =
    omega (
      arith,
      c.len.ensures,
      c.push_reserved.ensures.len,
      c.make_room.ensures.len,
      c.index_mut-gathering.result.now.copies.ok.0,
    ) in
    ap (λ (m : ℕ). Joined c.args.n m) (joining_count _ _ _ _ c.self.invariant _ c.self.view_is c.args.n c.requires
    c.index_mut-gathering.result.now (rw c.index_of.ensures at c.index_mut-gathering.ensures.value) c.len.result count)

pub returns-clause-joined : goal.returns-clause-joined
returns-clause-joined g c =
    rw c.index_of.ensures
    (joining_looks _ _ _ _ c.self.invariant _ c.self.view_is c.args.n c.requires c.index_mut-gathering.result.now
    (rw c.index_of.ensures at c.index_mut-gathering.ensures.value) c.push_reserved.new.self c.args.copy
    (rw c.make_room.ensures.same at c.push_reserved.ensures.items))
