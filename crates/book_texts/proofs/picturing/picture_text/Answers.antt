use Rattle.book_texts.proofs.PictureLemmas.{Draws-nothing, Draws-loaded, Draws-part}
use Rattle.book_texts.proofs.picturing.picture_text.Goals as goal

pub returns-in-Err-clause-front : goal.returns-in-Err-clause-front
returns-in-Err-clause-front g c = Draws-nothing c.args.from _ _

pub returns-in-Ok-write_picture-clause-ok : goal.returns-in-Ok-write_picture-clause-ok
returns-in-Ok-write_picture-clause-ok g c =
    Draws-loaded c.args.from c.in-Ok.book (rw c.in-Ok.is at c.load_ahead-loaded.ensures.opened) _ _ _ _
    (rw c.in-Ok.is at c.load_ahead-loaded.ensures.loads) c.in-Ok-write_picture.ensures.ok

pub returns-clause-front : goal.returns-clause-front
returns-clause-front g c =
    Draws-part c.args.from c.in-Ok.book (rw c.in-Ok.is at c.load_ahead-loaded.ensures.opened) _ _ _ _
    (rw c.in-Ok.is at c.load_ahead-loaded.ensures.loads) c.in-Err-write_picture.ensures.err
