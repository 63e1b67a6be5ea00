use Rattle.std.proofs.Common.{◌≡◌, true, false, sym, ◌∙◌, append_assoc}
use Rattle.gateway_book.specs.Duty.{is_within_hour}
use Rattle.book_picture.proofs.opening.add_floor.Goals as goal

pub returns-then-not-is_within_hour-clause-text : goal.returns-then-not-is_within_hour-clause-text
returns-then-not-is_within_hour-clause-text c =
    let out : is_within_hour c.args.floor c.args.from ≡ false =
    sym c.is_within_hour.ensures ∙ c.if-not-is_within_hour.true in
    rw (out, c.text-then-not-is_within_hour.ensures.text, c.number.ensures.text, c.text.ensures.text)
    (simp append_assoc)

pub returns-clause-text : goal.returns-clause-text
returns-clause-text c =
    let held : is_within_hour c.args.floor c.args.from ≡ true =
    sym c.is_within_hour.ensures ∙ c.if-not-is_within_hour.false in
    rw (
      held,
      c.text-4.ensures.text,
      c.number-3.ensures.text,
      c.text-3.ensures.text,
      c.number-2.ensures.text,
      c.across.ensures,
      c.text-2.ensures.text,
    )
    (simp append_assoc)
