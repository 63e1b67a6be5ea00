use Rattle.aes_cmac.proofs.RoundFacts.{last_round-columns}
use Rattle.aes_cmac.proofs.rounds.last_round.Goals as goal

pub returns : goal.returns
returns c =
    last_round-columns _ _ _ _ _ _ _ _ _ _ _ _ c.substituted.ensures c.substituted-2.ensures c.substituted-3.ensures
    c.substituted-4.ensures
