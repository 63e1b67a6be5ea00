use Rattle.std.proofs.Common.{List, ℕ, Some, ◌≡◌, rules, subst}
use Rattle.text_lines.specs.Ahead.{unread}
use Rattle.text_lines.specs.Rest.{IsRest}
use Rattle.book_texts.proofs.resuming.load_ahead.Goals as goal

-- the reader that was lent is given back as it is left
pub returns-clause-rest : goal.returns-clause-rest
returns-clause-rest g c =
    subst (λ reader. (bytes : List ℕ) → g.R.ByteIn.left c.args.reader.now ≡ Some bytes
    → IsRest bytes (unread c.load_buffered-lent.result.1.1 (g.R.ByteIn.left reader)) c.load_buffered-lent.result.1.1.taken)
    (search rules) c.load_buffered-lent.ensures.rest
