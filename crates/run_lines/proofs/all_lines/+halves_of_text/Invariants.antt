-- Each half has fewer threads than the whole.
use Rattle.std.proofs.Common.{◌+◌, ◌*◌}
use Rattle.run_lines.proofs.all_lines.+halves_of_text.Given as goal

abbrev pub decreases-texts_between : goal.decreases-texts_between
decreases-texts_between g l = 2 * l.threads

abbrev pub decreases-first_texts : goal.decreases-first_texts
decreases-first_texts g l = 2 * l.some + 1

abbrev pub decreases-second_texts : goal.decreases-second_texts
decreases-second_texts g l = 2 * l.others + 1
