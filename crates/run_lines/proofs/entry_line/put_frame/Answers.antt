use Rattle.std.proofs.Common.{ℕ, List, [], ◌∷◌, ◌++◌, codes, decimal}
use Rattle.run_lines.specs.EntryLine.{hex_digits}
use Rattle.run_lines.proofs.PutLemmas.{puts-then, puts-stopped, frame-parts}
use Rattle.run_lines.proofs.entry_line.put_frame.Goals as goal

head : ℕ → List ℕ
head number = codes "frame " ++ (decimal number ++ (32 ∷ []))

pub returns-in_err-put_frame_number : goal.returns-in_err-put_frame_number
unfolding head
returns-in_err-put_frame_number g c =
    rw (frame-parts (decimal c.args.number) (hex_digits c.args.bytes.now))
    (puts-stopped _ _ _ _ _ c.args.output.now (head c.args.number) _ (hex_digits c.args.bytes.now ++ (10 ∷ [])) _
    c.in_err-put_frame_number.ensures c.from_residual.ensures.0)

pub returns-in_err-put_hex : goal.returns-in_err-put_hex
unfolding head
returns-in_err-put_hex g c =
    let hex = hex_digits c.args.bytes.now in
    let mid = c.put_frame_number.new in
    rw (frame-parts (decimal c.args.number) hex)
    (puts-then _ _ _ _ _ _ _ c.args.output.now (head c.args.number) _ (hex ++ (10 ∷ [])) _ c.in_ok-put_frame_number.ensures
    (puts-stopped _ _ _ _ _ mid.output hex _ (10 ∷ []) _ c.in_err-put_hex.ensures c.from_residual-in_err-put_hex.ensures.0))

pub returns : goal.returns
unfolding head
returns g c =
    let hex = hex_digits c.args.bytes.now in
    let put = c.put.ensures in
    rw (frame-parts (decimal c.args.number) hex)
    (puts-then _ _ _ _ _ _ _ c.args.output.now (head c.args.number) _ (hex ++ (10 ∷ [])) _ c.in_ok-put_frame_number.ensures
    (puts-then _ _ _ _ _ _ _ c.put_frame_number.new.output hex _ (10 ∷ []) _ c.in_ok-put_hex.ensures
    (record { ok = put.ok; err = put.err; failed = put.failed })))
