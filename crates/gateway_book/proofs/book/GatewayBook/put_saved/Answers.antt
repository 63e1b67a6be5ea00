use Rattle.std.proofs.Common.{◌≡◌, List, ℕ, [], ◌∷◌, ◌++◌, length, codes, decimal, sym, ap, ◌∙◌, subst}
use Rattle.std.proofs.lemmas.Result.{on_ok_weaker, on_err_weaker}
use Rattle.text_lines.specs.Writing.{WritesAllBut, WritesFront, WritesFront-more}
use Rattle.gateway_book.specs.Book.{Book}
use Rattle.gateway_book.specs.Saved.{members_text, saved_of}
use Rattle.gateway_book.proofs.SavedText.{opening_text, end_text, saved_whole, put_more, put_front}
use Rattle.gateway_book.proofs.book.GatewayBook.put_saved.Goals as goal
use Rattle.gateway_book.proofs.book.GatewayBook.put_saved.Given.{Over}

pub returns-in-Err-clause-err : goal.returns-in-Err-clause-err
returns-in-Err-clause-err g c =
    let now = c.args.self.now in
    let old = c.args.output.now in
    let before = g.W.ByteOut.taken c.args.writer.now in
    let after = g.W.ByteOut.taken c.put.new.writer in
    let opening = opening_text 2 (saved_of now) in
    let P : List ℕ → Type 0 = λ l. WritesFront before after (old ++ l) in
    subst (λ (l : List ℕ). WritesFront before after l) (sym (saved_whole old now))
    (WritesFront-more before after ((old ++ opening) ++ members_text now.list) (end_text now.list)
    (WritesFront-more before after (old ++ opening) (members_text now.list)
    (subst P (c.as_slice.ensures.bytes ∙ c.write_opening.ensures) c.in-Err.ensures.err)))

pub returns-in-Err-put_members-clause-err : goal.returns-in-Err-put_members-clause-err
returns-in-Err-put_members-clause-err g c =
    let now = c.args.self.now in
    let old = c.args.output.now in
    let before = g.W.ByteOut.taken c.args.writer.now in
    let mid = g.W.ByteOut.taken c.put.new.writer in
    let after = g.W.ByteOut.taken c.put_members.new.writer in
    let opening = opening_text 2 (saved_of now) in
    let P : List ℕ → Type 0 = λ l. WritesAllBut before mid (old ++ l) c.put.new.self in
    let Q : Book → Type 0 = λ b. WritesFront mid after (c.put.new.self ++ members_text b.list) in
    subst (λ (l : List ℕ). WritesFront before after l) (sym (saved_whole old now))
    (WritesFront-more before after ((old ++ opening) ++ members_text now.list) (end_text now.list)
    (put_front before mid after (old ++ opening) c.put.new.self (members_text now.list)
    (subst P (c.as_slice.ensures.bytes ∙ c.write_opening.ensures) c.in-Ok.ensures.ok)
    (subst Q c.self.view_is c.in-Err-put_members.ensures.err)))

module _ (g : Over) (c : goal.After-put-2 g) where
  -- before the last line
  put_before : WritesAllBut (g.W.ByteOut.taken c.args.writer.now) (g.W.ByteOut.taken c.put_members.new.writer)
      ((c.args.output.now ++ opening_text 2 (saved_of c.args.self.now)) ++ members_text c.args.self.now.list)
      c.put_members.new.output
  put_before =
      let now = c.args.self.now in
      let before = g.W.ByteOut.taken c.args.writer.now in
      let mid = g.W.ByteOut.taken c.put.new.writer in
      let after = g.W.ByteOut.taken c.put_members.new.writer in
      let P : List ℕ → Type 0 = λ l. WritesAllBut before mid (c.args.output.now ++ l) c.put.new.self in
      let Q : Book → Type 0 = λ b.
      WritesAllBut mid after (c.put.new.self ++ members_text b.list) c.put_members.new.output in
      put_more before mid after (c.args.output.now ++ opening_text 2 (saved_of now)) c.put.new.self (members_text now.list)
      c.put_members.new.output (subst P (c.as_slice.ensures.bytes ∙ c.write_opening.ensures) c.in-Ok.ensures.ok)
      (subst Q c.self.view_is c.in-Ok-put_members.ensures.ok)

  last_line : c.as_slice-2.result.now ≡ end_text c.args.self.now.list
  last_line =
      let P : Book → Type 0 = λ b. c.len.result ≡ length b.list in
      let count : c.len.result ≡ length c.args.self.now.list = subst P c.self.view_is c.len.ensures in
      c.as_slice-2.ensures.bytes ∙ c.write_end.ensures
      ∙ ap (λ (n : ℕ). codes "end" ++ (32 ∷ (decimal n ++ 10 ∷ []))) count

pub returns-clause-ok : goal.returns-clause-ok
returns-clause-ok g c =
    let now = c.args.self.now in
    let old = c.args.output.now in
    let before = g.W.ByteOut.taken c.args.writer.now in
    let mid = g.W.ByteOut.taken c.put_members.new.writer in
    let after = g.W.ByteOut.taken c.put-2.new.writer in
    let P : List ℕ → Type 0 = λ l. WritesAllBut before after l c.put-2.new.self in
    let Q : List ℕ → Type 0 = λ l. WritesAllBut mid after (c.put_members.new.output ++ l) c.put-2.new.self in
    on_ok_weaker c.put-2.result (λ wrote. subst P (sym (saved_whole old now))
    (put_more before mid after ((old ++ opening_text 2 (saved_of now)) ++ members_text now.list) c.put_members.new.output
    (end_text now.list) c.put-2.new.self (put_before g c) (subst Q (last_line g c) wrote))) c.put-2.ensures.ok

pub returns-clause-err : goal.returns-clause-err
returns-clause-err g c =
    let now = c.args.self.now in
    let old = c.args.output.now in
    let before = g.W.ByteOut.taken c.args.writer.now in
    let mid = g.W.ByteOut.taken c.put_members.new.writer in
    let after = g.W.ByteOut.taken c.put-2.new.writer in
    let P : List ℕ → Type 0 = λ l. WritesFront before after l in
    let Q : List ℕ → Type 0 = λ l. WritesFront mid after (c.put_members.new.output ++ l) in
    on_err_weaker c.put-2.result (λ wrote. subst P (sym (saved_whole old now))
    (put_front before mid after ((old ++ opening_text 2 (saved_of now)) ++ members_text now.list) c.put_members.new.output
    (end_text now.list) (put_before g c) (subst Q (last_line g c) wrote))) c.put-2.ensures.err
