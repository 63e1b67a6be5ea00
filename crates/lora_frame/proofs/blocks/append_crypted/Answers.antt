use Rattle.std.proofs.Common.{rules, ◌+◌, ℕ, length, ap, ◌∙◌, arith}
use Rattle.std.specs.Iterator.Adapters.{enumerate_source}
use Rattle.std.specs.Slice.Iter.{chunks_rest}
use Rattle.std.proofs.lemmas.List.{length-append}
use Rattle.aes_cmac.specs.Aes.{ciphertext}
use Rattle.lora_frame.specs.Blocks.{stream_seed}
use Rattle.lora_frame.proofs.Streams.{after_none, after_more, after_all}
use Rattle.lora_frame.proofs.blocks.append_crypted.Goals as goal

pub loop-i-init : goal.loop-i-init
loop-i-init g c =
    let a = c.args in
    record {
      size = search rules;
      done = rw (
        c.into_iter-i-iterator.ensures.into_iter_gives,
        c.enumerate-i-items.ensures.source,
        c.enumerate-i-items.ensures.count,
        c.chunks.ensures.rest,
      )
          (after_none a.frame.now.items a.payload.now a.key.now a.direction a.addr a.counter);
      len = search rules;
      room = search rules;
    }

pub append_xored-requires-clause-room : goal.append_xored-requires-clause-room
append_xored-requires-clause-room g c =
    let was = c.loop-i.invariant in
    let piece = c.in-Some.ensures.steps.0 in
    let later = chunks_rest (enumerate_source c.next.new.self) in
    omega (arith, was.len, was.room, ap length piece.1.0, length-append c.in-Some.piece.now later)

pub loop-i-preserved : goal.loop-i-preserved
loop-i-preserved g c =
    let a = c.args in
    let was = c.loop-i.invariant in
    let steps = c.in-Some.ensures.steps in
    let piece = steps.0 in
    let later = chunks_rest (enumerate_source c.next.new.self) in
    let parts = ap length piece.1.0 ∙ length-append c.in-Some.piece.now later in
    record {
      size = piece.0 ∙ was.size;
      done = after_more a.frame.now.items a.payload.now a.key.now a.direction a.addr a.counter _ _ _ _ _ c.in-Some.piece.now later
          c.stream_block-block.result was.done piece.1.0 (rw was.size at piece.1.1) piece.1.2 steps.2
          (c.stream_block-block.ensures
          ∙ ap (λ (i : ℕ). ciphertext a.key.now (stream_seed a.direction a.addr a.counter (i + 1))) steps.1)
          (omega arith) c.append_xored.ensures.items;
      len = omega (arith, was.len, c.append_xored.ensures.len, parts);
      room = omega (arith, was.room, c.append_xored.ensures.room);
    }

pub returns-clause-items : goal.returns-clause-items
returns-clause-items g c =
    let a = c.args in
    after_all a.frame.now.items a.payload.now a.key.now a.direction a.addr a.counter _ _ _ c.loop-i.invariant.done
    c.in-None.ensures.steps.0.1.0

pub returns-clause-len : goal.returns-clause-len
returns-clause-len g c = omega (arith, c.loop-i.invariant.len, c.in-None.ensures.steps.0.1.0)

pub returns-clause-room : goal.returns-clause-room
returns-clause-room g c = c.loop-i.invariant.room
