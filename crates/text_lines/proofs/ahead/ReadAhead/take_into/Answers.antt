use Rattle.std.proofs.Common.{◌≡◌, ◌≤◌, ℕ, List, ◌++◌, length, take, drop, sym, ap, ◌∙◌, arith}
use Rattle.std.proofs.lemmas.List.{length-take-le, take-append-drop, drop-drop}
use Rattle.std.proofs.Math.Seq.{take-append_seam}
use Rattle.text_lines.specs.Ahead.{Ahead}
use Rattle.text_lines.proofs.ahead.ReadAhead.take_into.Goals as goal

-- the bytes at the front were copied over those that stood there, and the others stay
copied_front : (pending copied into : List ℕ) (count : ℕ) → copied ≡ take count pending → count ≤ length pending
    → pending ≡ take count (copied ++ drop count into) ++ drop count pending
copied_front pending copied into count e h =
    let n : length copied ≡ count = ap length e ∙ length-take-le count pending h in
    sym (ap (λ k. take k (copied ++ drop count into) ++ drop count pending) (sym n)
    ∙ ap (λ l. l ++ drop count pending) (take-append_seam copied (drop count into))
    ∙ ap (λ l. l ++ drop count pending) e ∙ take-append-drop count pending)

pub returns-clause-taken : goal.returns-clause-taken
returns-clause-taken c =
    let pending : List ℕ = c.args.self.now.pending in
    let is : drop c.self.inside.start (take c.self.inside.end c.self.inside.buffer) ≡ pending =
    ap (λ (a : Ahead). a.pending) c.self.view_is in
    let few : c.min-count.result ≤ length pending = omega (arith, c.min-count.ensures, ap length c.as_slice-waiting.ensures) in
    copied_front pending c.copy_from_slice.new.self c.args.into.now c.min-count.result
    (c.copy_from_slice.ensures.after ∙ ap (take c.min-count.result) c.as_slice-waiting.ensures) few
    ∙ ap (λ l. take c.min-count.result (c.copy_from_slice.new.self ++ drop c.min-count.result c.args.into.now) ++ l)
    (ap (drop c.min-count.result) (sym is) ∙ drop-drop c.min-count.result c.self.inside.start _)
