use Rattle.std.proofs.Common.{arith}
use Rattle.aes_cmac.proofs.RoundFacts.{substituted-tables}
use Rattle.aes_cmac.proofs.rounds.substituted.Goals as goal

pub returns : goal.returns
returns c = substituted-tables c.args.a c.args.b c.args.c c.args.d _ c.args.key (omega arith) c.from_be_bytes.ensures
