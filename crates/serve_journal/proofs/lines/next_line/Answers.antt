use Rattle.std.proofs.Common.{◌≡◌, ℕ, ◌<◌, false, get_or, eqb, length, rules}
use Rattle.std.proofs.lemmas.List.{take_rest}
use Rattle.serve_journal.proofs.Parts.{cut_at, uncut, lines_of-cut, lines_of-none}
use Rattle.serve_journal.proofs.lines.next_line.Goals as goal

pub returns-in-Some : goal.returns-in-Some
returns-in-Some c =
    let bytes = c.args.bytes.now in
    let inside : c.in-Some.place < length bytes = search rules in
    let before : (k : ℕ) → k < c.in-Some.place → eqb (get_or bytes k 0) 10 ≡ false = search rules in
    let at : get_or bytes c.in-Some.place 0 ≡ 10 = search rules in
    let cut = cut_at bytes c.in-Some.place inside before at in
    rw take_rest (record { line = (cut.parts, cut.unbroken); lines = lines_of-cut bytes c.in-Some.place cut })

pub returns-in-None : goal.returns-in-None
returns-in-None c =
    let bytes = c.args.bytes.now in
    let none : (k : ℕ) → k < length bytes → eqb (get_or bytes k 0) 10 ≡ false = search rules in
    record { line = uncut bytes none; lines = lines_of-none bytes (uncut bytes none) }
