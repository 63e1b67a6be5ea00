use Rattle.std.proofs.Common.{◌≡◌, ◌+◌, ◌≤◌, length, vec_len, vec_capacity}
use Rattle.std.specs.Iterator.Adapters.{enumerate_source, enumerate_count}
use Rattle.std.specs.Slice.Iter.{chunks_rest, chunks_size}
use Rattle.lora_frame.proofs.Streams.{IsAfterBlocks}
use Rattle.lora_frame.proofs.blocks.append_crypted.Given as goal

abbrev pub invariant-loop-i : goal.invariant-loop-i
invariant-loop-i g l = record {
  size : chunks_size (enumerate_source l.i-iterator) ≡ 16;
  done : IsAfterBlocks l.fn.frame.items l.payload l.key l.direction l.addr l.counter (enumerate_count l.i-iterator)
      l.frame.items (chunks_rest (enumerate_source l.i-iterator));
  len : vec_len l.frame + length (chunks_rest (enumerate_source l.i-iterator)) ≡ vec_len l.fn.frame + length l.payload;
  room : vec_capacity l.fn.frame ≤ vec_capacity l.frame;
}
