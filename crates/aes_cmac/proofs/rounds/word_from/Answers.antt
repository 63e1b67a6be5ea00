use Rattle.std.proofs.Common.{◌+◌, get_or, arith}
use Rattle.aes_cmac.proofs.WordFacts.{word_bytes-from}
use Rattle.aes_cmac.proofs.rounds.word_from.Goals as goal

pub returns : goal.returns
returns c =
    let b = c.args.bytes.now in
    let i = c.args.at in
    word_bytes-from (get_or b i 0) (get_or b (i + 1) 0) (get_or b (i + 2) 0) (get_or b (i + 3) 0) _
    (omega (arith, c.type_inv.bytes i))
    (omega (arith, c.type_inv.bytes (i + 1))) (omega (arith, c.type_inv.bytes (i + 2)))
    (omega (arith, c.type_inv.bytes (i + 3))) c.from_be_bytes.ensures
