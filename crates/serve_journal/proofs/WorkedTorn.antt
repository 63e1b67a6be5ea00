-- Journals whose last batch is torn, by computation; and what the law says of every journal.
use Rattle.std.proofs.Common.{ℕ, ◌≡◌, List, [], ◌∷◌, ◌++◌, Ok, Err, refl, inl, inr, codes}
use Rattle.std.specs.Prelude.{◌⊎◌}
use Rattle.std.specs.List.{All}
use Rattle.serve_journal.specs.declared.entry.Entry.{Entry}
use Rattle.serve_journal.specs.declared.fault.JournalFault.TheVariants.{Journal}
use Rattle.serve_journal.specs.Journal.{nothing}
use Rattle.serve_journal.specs.LineLaws.{IsEntry}
use Rattle.serve_journal.specs.Reading.{journal_of}
use Rattle.serve_journal.specs.Torn.{batch_text, journal_text, IsTornOf, TornIsDropped}

-- no line of the first batch but that of the version
pub alone : journal_of (codes "airbook journal 1\n.\n") ≡ Ok nothing
alone = refl

-- one that is whole is read: here it is at fault, since there is no gateway 1
pub whole : journal_of (codes "airbook journal 1\n.\nclock 1 5 5\n.\n") ≡ Err (Journal 3)
whole = refl

-- with its first byte 0
pub zeroed : journal_of (codes "airbook journal 1\n.\n" ++ 0 ∷ codes "lock 1 5 5\n.\n") ≡ Ok nothing
zeroed = refl

-- cut before its last line ends
pub cut : journal_of (codes "airbook journal 1\n.\nclock 1 5 5\n.") ≡ Ok nothing
cut = refl

-- one that others follow was not torn
pub followed : journal_of (codes "airbook journal 1\n.\nclock 1 5\n.\n.\n") ≡ Err (Journal 3)
followed = refl

-- what a disk may have of two bytes
pub all_there : IsTornOf (97 ∷ 98 ∷ []) (97 ∷ 98 ∷ [])
all_there = (inr refl, (inr refl, tt))

pub first_is_zero : IsTornOf (97 ∷ 98 ∷ []) (0 ∷ 98 ∷ [])
first_is_zero = (inl refl, (inr refl, tt))

pub one_is_there : IsTornOf (97 ∷ 98 ∷ []) (97 ∷ [])
one_is_there = (inr refl, tt)

-- the law, of every journal and every batch
module _ (law : TornIsDropped) (first : List Entry) (more : List (List Entry)) (batch : List Entry) (front : List ℕ)
    (are : All (All IsEntry) (first ∷ more)) (own : All IsEntry batch) (torn : IsTornOf (batch_text batch) front) where
  pub each_dropped_or_whole :
      (journal_of (journal_text (first ∷ more) ++ front) ≡ journal_of (journal_text (first ∷ more)))
      ⊎ (journal_of (journal_text (first ∷ more) ++ front) ≡ journal_of (journal_text (first ∷ more ++ batch ∷ [])))
  each_dropped_or_whole = law first more batch front are own torn
