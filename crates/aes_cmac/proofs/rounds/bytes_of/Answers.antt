use Rattle.std.proofs.Common.{refl}
use Rattle.aes_cmac.specs.Words.{word_bytes}
use Rattle.aes_cmac.proofs.rounds.bytes_of.Goals as goal

pub returns : goal.returns
unfolding word_bytes
returns c = rw (c.to_be_bytes.ensures, c.to_be_bytes-2.ensures, c.to_be_bytes-3.ensures, c.to_be_bytes-4.ensures) refl
