use Rattle.std.proofs.Common.{sym, ap, ◌∙◌}
use Rattle.book_texts.specs.declared.command.Said.TheVariants.{Order}
use Rattle.book_texts.proofs.TryingLemmas.{turn_tried, turn_sought}
use Rattle.book_texts.proofs.planning.try_line.Goals as goal

pub returns-in-Order-Book : goal.returns-in-Order-Book
returns-in-Order-Book g c =
    turn_tried c.args.number c.args.line.now c.write_if.new.text c.in-Order-Book.ask c.try_ask.result
    (sym c.read_line.ensures ∙ c.in-Order-Book.is ∙ ap Order c.in-Order-Book.field-0-is)
    c.write_if.ensures c.args.copy.now c.try_ask.new.copy c.try_ask.ensures

pub returns-in-Order-Earliest : goal.returns-in-Order-Earliest
returns-in-Order-Earliest g c =
    turn_sought c.args.number c.args.line.now c.write_if-in-Order-Earliest.new.text c.in-Order-Earliest.ask
    c.in-Order-Earliest.last c.try_earliest.result
    (sym c.read_line.ensures ∙ c.in-Order-Earliest.is ∙ ap Order c.in-Order-Earliest.field-0-is)
    c.write_if-in-Order-Earliest.ensures c.args.copy.now c.try_earliest.ensures
