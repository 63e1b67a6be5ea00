use Rattle.std.proofs.Common.{arith}
use Rattle.aes_cmac.proofs.ScheduleFacts.{four_words-key}
use Rattle.aes_cmac.proofs.MacFacts.{expanded_key}
use Rattle.aes_cmac.proofs.keys.Key.new.Goals as goal

pub invariant_of-result : goal.invariant_of-result
invariant_of-result c =
    expanded_key _ c.args.bytes _ _ _ (omega arith) (omega arith) c.expanded-words.ensures.words c.expanded-words.ensures.fits
    (c.encrypt_block.ensures c.args.bytes c.expanded-words.ensures.words) c.subkey_after-first.ensures
    c.subkey_after-second.ensures

pub returns : goal.returns
returns c = four_words-key c.expanded-words.result c.args.bytes c.expanded-words.ensures.words (omega arith) (omega arith)
