use Rattle.std.proofs.Common.{◌≡◌, ◌-◌, ◌∙◌, arith}
use Rattle.aes_cmac.proofs.ScheduleFacts.{state_after-none, state_after-more, ciphertext-last}
use Rattle.aes_cmac.proofs.cipher.encrypt_block.Goals as goal

pub rounds-init : goal.rounds-init
rounds-init c = λ key is. state_after-none _ key _ _ _ is (omega arith) c.columns_of.ensures c.first_xor-v.ensures

pub rounds-preserved : goal.rounds-preserved
rounds-preserved c = λ key is.
    state_after-more _ key _ _ _ c.rounds.round is (omega arith) (omega arith) (omega arith)
    (c.rounds.invariant key is) c.middle_round-next.ensures

pub returns : goal.returns
returns c = λ key is.
    let last : c.rounds.round - 1 ≡ 9 = omega arith in
    c.bytes_of.ensures ∙ ciphertext-last _ key _ _ _ _ is (omega arith) last (c.rounds.invariant key is) c.last_round.ensures
