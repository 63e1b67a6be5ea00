use Rattle.std.proofs.Common.{arith}
use Rattle.aes_cmac.proofs.RoundFacts.{mixed-tables}
use Rattle.aes_cmac.proofs.rounds.mixed.Goals as goal

pub returns : goal.returns
returns c = mixed-tables c.args.a c.args.b c.args.c c.args.d c.args.key (omega arith)
