-- The report of a book is that of what stands in it.
use Rattle.std.proofs.Common.{◌≡◌, ◌≤◌, ◌+◌, Bool, refl}
use Rattle.resv_list.specs.Reservations.{net}
use Rattle.gateway_book.specs.Kept.{kept, retired_of}
use Rattle.gateway_book.specs.Step.{State}
use Rattle.gateway_book.specs.Book.{Book, totals_of}
use Rattle.gateway_book.specs.Remembers.{StandsFor}
use Rattle.gateway_book.specs.Saved.{saved_of}
use Rattle.gateway_book.specs.Answer.{Rules}
use Rattle.gateway_book.specs.Disjoint.{most_gap}
use Rattle.gateway_book.proofs.KeptLaws.{kept-nil}
use Rattle.gateway_book.proofs.OrderlyLaws.{orderly_nil}
use Rattle.gateway_book.proofs.RememberedLaws.{remembers_own}
use Rattle.gateway_book.proofs.StandingLaws.{stands_retired}
use Rattle.book_texts.specs.Report.{report_of}
use Rattle.book_texts.specs.Output.{Standing, opened, report_at, saved_at}
use Rattle.book_texts.specs.Opening.{empty_book, empty_standing}
use Rattle.book_texts.specs.Progress.{StandsIn, StandsToEnd}

pub report_stands : (book : Book) (s : State) → book.booked ≡ book.cancelled + book.retired + net book.list → StandsFor book s
    → report_of (totals_of book) book.list ≡ report_at s
report_stands book s balanced h =
    let list : book.list ≡ kept s.list s.floor = h.remembers.list in
    let retired : book.retired ≡ net (retired_of s.list s.floor) = stands_retired book s h balanced in
    rw (list, retired, h.remembers.booked, h.remembers.cancelled, h.remembers.floor) refl

-- what is saved of a book is what is kept where it stands
pub saved_stands : (book : Book) (at : Standing) → StandsIn book at → saved_of book ≡ saved_at at
saved_stands book at h = rw (h.id, h.rules, h.stands.remembers.floor, h.stands.remembers.list) refl

-- an empty book stands for the state in which nothing is reserved
pub stands_opened : (rules : Rules) (save : Bool) → rules.gap ≤ most_gap
    → StandsToEnd (empty_book rules) save (empty_standing save rules)
unfolding net
stands_opened rules save h =
    record {
      stands = record {
        id = refl;
        rules = refl;
        stands = record {
          orderly = orderly_nil rules.gap h;
          balanced = refl;
          remembers = remembers_own _ opened refl (kept-nil 0);
        };
      };
      saves = refl;
    }
