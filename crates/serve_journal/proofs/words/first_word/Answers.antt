use Rattle.std.proofs.Common.{◌≡◌, ℕ, ◌<◌, false, get_or, eqb, length, rules}
use Rattle.std.proofs.lemmas.List.{take_rest}
use Rattle.gateway_book.proofs.SavedWords.{words_between-first, words_between-none}
use Rattle.serve_journal.proofs.words.first_word.Goals as goal

pub returns-in-Some : goal.returns-in-Some
returns-in-Some c =
    let line = c.args.line.now in
    let inside : c.in-Some.place < length line = search rules in
    let before : (k : ℕ) → k < c.in-Some.place → eqb (get_or line k 0) 32 ≡ false = search rules in
    let at : get_or line c.in-Some.place 0 ≡ 32 = search rules in
    rw take_rest (words_between-first line c.in-Some.place inside before at)

pub returns-in-None : goal.returns-in-None
returns-in-None c =
    let line = c.args.line.now in
    let none : (k : ℕ) → k < length line → eqb (get_or line k 0) 32 ≡ false = search rules in
    words_between-none line none
