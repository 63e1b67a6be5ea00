use Rattle.std.proofs.Common.{◌-◌, refl, arith, rules}
use Rattle.std.proofs.lemmas.Nat.{xor_of_32}
use Rattle.aes_cmac.proofs.ScheduleFacts.{key_words-all, key_words-none, key_words-more, four_fit, set_fits}
use Rattle.aes_cmac.proofs.schedule.expanded.Goals as goal

pub words-init : goal.words-init
words-init c = (
  refl,
  key_words-none _ _ _ _ _ (omega arith) c.word_from.ensures c.word_from-2.ensures c.word_from-3.ensures c.word_from-4.ensures,
  four_fit _ _ _ _ 40 (omega arith) (omega arith) (omega arith) (omega arith),
)

pub words-preserved : goal.words-preserved
words-preserved c = (
  search rules,
  key_words-more _ _ _ _ c.added_to.result c.words.invariant.0 (omega arith)
      (omega arith) c.words.invariant.1 refl c.added_to.ensures,
  set_fits _ _ _ (xor_of_32 _ _ (c.words.invariant.2 (c.words.i - 4)) (omega arith)) c.words.invariant.2,
)

pub returns-clause-words : goal.returns-clause-words
returns-clause-words c = key_words-all _ _ c.words.i (omega arith) c.words.invariant.0 c.words.invariant.1

pub returns-clause-fits : goal.returns-clause-fits
returns-clause-fits c = c.words.invariant.2
