use Rattle.std.proofs.Common.{◌≡◌, ◌+◌, ◌*◌, ◌++◌, List, [], ℕ, take}
use Rattle.aes_cmac.specs.Progress.{HasTaken}
use Rattle.aes_cmac.proofs.Pieces.{HasChained}
use Rattle.aes_cmac.proofs.state.Cmac.update.Given as goal

abbrev pub invariant-blocks-2 : goal.invariant-blocks-2
invariant-blocks-2 l =
    (l.self.tail ≡ [])
    × ((key m : List ℕ) → HasTaken l.fn.self key m → HasChained l.self key (m ++ take (l.room + 16 * l.i) l.bytes))
