use Rattle.std.proofs.Common.{◌≡◌, ◌+◌, ◌≤◌, sym, ap, ◌∙◌, subst, arith, rules, length}
use Rattle.gateway_book.specs.declared.loading.LoadFault.TheVariants.{Unlawful}
use Rattle.gateway_book.specs.declared.saved_line.Entry.TheVariants.{Member, End}
use Rattle.gateway_book.specs.Answer.{most_cap}
use Rattle.gateway_book.specs.Book.{Book}
use Rattle.gateway_book.specs.Loading.{may_follow, joined}
use Rattle.gateway_book.specs.Saved.{Saved, saved_of, opened_again}
use Rattle.gateway_book.specs.Step.{reservation_of}
use Rattle.gateway_book.proofs.LoadLaws.{loads_book, takes_bytes, before_at, line_at, after_at, may_where_joined, entry_not_read}
use Rattle.gateway_book.proofs.LoadLaws.{end_leads, end_fault, member_leads, not_joined}
use Rattle.gateway_book.proofs.book.GatewayBook.load_counted.Goals as goal

pub loop-entry-preserved : goal.loop-entry-preserved
loop-entry-preserved g c =
    let first = g.I.ByteIn.left c.args.reader.now in
    let before = g.I.ByteIn.left c.loop-entry.reader in
    let after = g.I.ByteIn.left c.read_entry.new.reader in
    let s = saved_of c.loop-entry.book in
    let number = c.next_line_number-number.result in
    let new = c.join.new.self in
    let with_it = joined s (reservation_of c.in-Member.ask) in
    let same : saved_of new ≡ with_it = ap (λ (b : Book). saved_of b) c.in-Ok-join.ensures.joined in
    let may = may_where_joined (may_follow s c.in-Member.ask) _ _ (Unlawful number) c.in-Ok-join.ensures.answer in
    let leads = member_leads first before after c.loop-entry.taken c.bytes_of-taken.result number s
    (before_at first before c.loop-entry.taken _ number s c.loop-entry.invariant.leads c.next_line_number-number.ensures.number)
    c.in-Member.ask
    (line_at before after _ c.bytes_of-taken.result number s _ (Member c.in-Member.ask) (c.in-Ok.ensures.says s)
    c.bytes_of-taken.ensures c.in-Member.is)
    may in
    record {
      again = c.in-Ok-join.ensures.joined ∙ ap (λ (t : Saved). opened_again t) (sym same);
      leads = after_at first after (c.loop-entry.taken + c.bytes_of-taken.result) (number + 1) (length new.list + 3) with_it
          (saved_of new) leads
          (omega (arith, c.next_line_number-number.ensures.number, c.in-Ok-join.ensures.longer)) same;
      few = omega (
        arith,
        c.loop-entry.invariant.few,
        c.bytes_of-taken.ensures,
        c.in-Ok.ensures.short,
        c.in-Ok-join.ensures.longer,
      );
      quiet = search rules;
    }

pub returns-in-Err-clause-answer : goal.returns-in-Err-clause-answer
returns-in-Err-clause-answer g c =
    let first = g.I.ByteIn.left c.args.reader.now in
    let before = g.I.ByteIn.left c.loop-entry.reader in
    let after = g.I.ByteIn.left c.read_entry.new.reader in
    let s = saved_of c.loop-entry.book in
    let number = c.next_line_number-number.result in
    entry_not_read first before after c.loop-entry.taken 0 number s
    (before_at first before c.loop-entry.taken _ number s c.loop-entry.invariant.leads c.next_line_number-number.ensures.number)
    after c.in-Err.fault (c.in-Err.ensures.fault s)

pub returns-in-End-clause-answer : goal.returns-in-End-clause-answer
returns-in-End-clause-answer g c =
    let first = g.I.ByteIn.left c.args.reader.now in
    let before = g.I.ByteIn.left c.loop-entry.reader in
    let after = g.I.ByteIn.left c.read_entry.new.reader in
    let s = saved_of c.loop-entry.book in
    let number = c.next_line_number-number.result in
    loads_book first after (c.loop-entry.taken + c.bytes_of-taken.result) c.loop-entry.book
    (end_leads first before after c.loop-entry.taken c.bytes_of-taken.result number s
    (before_at first before c.loop-entry.taken _ number s c.loop-entry.invariant.leads c.next_line_number-number.ensures.number)
    c.in-End.count
    (line_at before after _ c.bytes_of-taken.result number s _ (End c.in-End.count) (c.in-Ok.ensures.says s)
    c.bytes_of-taken.ensures c.in-End.is)
    (sym c.has_members.ensures ∙ c.if-has_members.true))

pub returns-in-End-clause-counted : goal.returns-in-End-clause-counted
returns-in-End-clause-counted g c =
    let first = g.I.ByteIn.left c.args.reader.now in
    let before = g.I.ByteIn.left c.loop-entry.reader in
    let after = g.I.ByteIn.left c.read_entry.new.reader in
    let s = saved_of c.loop-entry.book in
    let number = c.next_line_number-number.result in
    takes_bytes first after (c.loop-entry.taken + c.bytes_of-taken.result) _ _
    (end_leads first before after c.loop-entry.taken c.bytes_of-taken.result number s
    (before_at first before c.loop-entry.taken _ number s c.loop-entry.invariant.leads c.next_line_number-number.ensures.number)
    c.in-End.count
    (line_at before after _ c.bytes_of-taken.result number s _ (End c.in-End.count) (c.in-Ok.ensures.says s)
    c.bytes_of-taken.ensures c.in-End.is)
    (sym c.has_members.ensures ∙ c.if-has_members.true))

pub returns-in-End-2-clause-answer : goal.returns-in-End-2-clause-answer
returns-in-End-2-clause-answer g c =
    let first = g.I.ByteIn.left c.args.reader.now in
    let before = g.I.ByteIn.left c.loop-entry.reader in
    let after = g.I.ByteIn.left c.read_entry.new.reader in
    let s = saved_of c.loop-entry.book in
    let number = c.next_line_number-number.result in
    end_fault first before after c.loop-entry.taken c.bytes_of-taken.result number s
    (before_at first before c.loop-entry.taken _ number s c.loop-entry.invariant.leads c.next_line_number-number.ensures.number)
    c.in-End.count
    (line_at before after _ c.bytes_of-taken.result number s _ (End c.in-End.count) (c.in-Ok.ensures.says s)
    c.bytes_of-taken.ensures c.in-End.is)
    (sym c.has_members.ensures ∙ c.if-has_members.false)

pub returns-in-Err-join-clause-answer : goal.returns-in-Err-join-clause-answer
returns-in-Err-join-clause-answer g c =
    let first = g.I.ByteIn.left c.args.reader.now in
    let before = g.I.ByteIn.left c.loop-entry.reader in
    let after = g.I.ByteIn.left c.read_entry.new.reader in
    let s = saved_of c.loop-entry.book in
    let number = c.next_line_number-number.result in
    let P : Book → Type 0 = λ b. b.rules.cap ≤ most_cap in
    not_joined first before after c.loop-entry.taken c.bytes_of-taken.result number s
    (before_at first before c.loop-entry.taken _ number s c.loop-entry.invariant.leads c.next_line_number-number.ensures.number)
    c.in-Member.ask
    (line_at before after _ c.bytes_of-taken.result number s _ (Member c.in-Member.ask) (c.in-Ok.ensures.says s)
    c.bytes_of-taken.ensures c.in-Member.is)
    c.in-Err-join.fault (subst P c.book.view_is c.book.invariant.capped) c.in-Err-join.ensures.answer
