use Rattle.aes_cmac.proofs.RoundFacts.{middle_round-columns}
use Rattle.aes_cmac.proofs.rounds.middle_round.Goals as goal

pub returns : goal.returns
returns c =
    middle_round-columns _ _ _ _ _ _ _ _ _ _ _ _ c.mixed.ensures c.mixed-2.ensures c.mixed-3.ensures c.mixed-4.ensures
