use Rattle.serve_journal.proofs.LivesLaws.{every_life_keeps_duty}
use Rattle.serve_journal.proofs.lives.law_every_life_keeps_duty.Goals as goal

pub returns : goal.returns
returns c = every_life_keeps_duty
