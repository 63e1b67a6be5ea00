use Rattle.std.proofs.Common.{rules, List, ℕ, [], ◌≡◌, ◌++◌, ap, sym, ◌∙◌, append_assoc, append-nil}
use Rattle.std.proofs.lemmas.List.{nil_from_length}
use Rattle.std.specs.Slice.Iter.{chunks_rest}
use Rattle.hex.specs.Hex.{encode_with, encode_lower}
use Rattle.run_lines.proofs.PutLemmas.{put-none, put-both, put-front, front-of_both, digits-append, on_err_anyway}
use Rattle.run_lines.proofs.entry_line.put_digits.Goals as goal

-- what is put, the first of what is left, and then the others
next_digits : (done few rest all whole : List ℕ) → all ≡ few ++ rest → done ++ encode_lower all ≡ whole
    → (done ++ encode_lower few) ++ encode_lower rest ≡ whole
next_digits done few rest all whole parts e =
    append_assoc done (encode_lower few) (encode_lower rest)
    ∙ ap (λ l. done ++ l) (sym (digits-append few rest) ∙ ap encode_lower (sym parts)) ∙ e

pub loop-few-init : goal.loop-few-init
loop-few-init g c = record {
  next = search rules;
  ends = tt;
  size = search rules;
  done = [];
  whole = search rules;
  written = put-none (g.W.ByteOut.taken c.args.writer.now) c.args.output.now;
  calls = search rules;
}

pub returns-in_err-put_few : goal.returns-in_err-put_few
returns-in_err-put_few g c =
    let was = c.loop-few.invariant in
    let digits = encode_lower c.in-Some.few.now in
    let rest = chunks_rest c.next.new.self in
    let whole = next_digits was.done c.in-Some.few.now rest _ _ c.in-Some.ensures.steps.1.0 was.whole in
    record {
      ok = search rules;
      err = rw (← whole)
          (on_err_anyway _ (front-of_both _ _ c.args.output.now (was.done ++ digits) (encode_lower rest)
          (put-front _ _ _ c.args.output.now was.done c.loop-few.output digits was.written c.in_err-put_few.ensures.err)));
      failed = search rules;
    }

pub loop-few-preserved : goal.loop-few-preserved
loop-few-preserved g c =
    let was = c.loop-few.invariant in
    let few = c.in-Some.few.now in
    let steps = c.in-Some.ensures.steps in
    record {
      next = search rules;
      ends = tt;
      size = steps.0 ∙ was.size;
      done = was.done ++ encode_lower few;
      whole = next_digits was.done few (chunks_rest c.next.new.self) _ _ steps.1.0 was.whole;
      written = put-both _ _ _ c.args.output.now was.done c.loop-few.output (encode_lower few) c.put_few.new.output was.written
          c.in_ok-put_few.ensures.ok;
      calls = search rules;
    }

pub returns : goal.returns
unfolding encode_with
returns g c =
    let none = nil_from_length _ c.in-None.ensures.steps.1.0 in
    let was = c.loop-few.invariant in
    record {
      ok = rw (← (rw (none, append-nil) at was.whole)) was.written;
      err = tt;
      failed = was.calls;
    }
