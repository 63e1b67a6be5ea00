use Rattle.std.proofs.Common.{arith}
use Rattle.aes_cmac.proofs.WordFacts.{state_bytes-from}
use Rattle.aes_cmac.proofs.rounds.columns_of.Goals as goal

pub returns : goal.returns
returns c =
    state_bytes-from _ _ _ _ _ (omega arith) c.word_from.ensures c.word_from-2.ensures c.word_from-3.ensures c.word_from-4.ensures
