use Rattle.std.proofs.Common.{sym, ◌+◌}
use Rattle.radio_bands.specs.Band.{hour}
use Rattle.book_picture.proofs.HourLemmas.{spent_late}
use Rattle.book_picture.proofs.hour.spent_of.Goals as goal

pub returns-then-from-gt-LAST_END-clause-spent : goal.returns-then-from-gt-LAST_END-clause-spent
returns-then-from-gt-LAST_END-clause-spent g c =
    sym (spent_late c.args.band c.args.from (c.args.from + hour) c.args.book.now.list c.if-from-gt-LAST_END.true)
