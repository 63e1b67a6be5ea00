use Rattle.book_picture.proofs.ShowsHour.{shows_hour}
use Rattle.book_picture.proofs.laws.law_picture_shows_hour.Goals as goal

pub returns : goal.returns
returns c = shows_hour
