use Rattle.std.proofs.Common.{◌≡◌, ℕ, ◌+◌, ◌-◌, ◌*◌, ◌/◌, length, take, drop, ap, ◌∙◌, arith}
use Rattle.std.proofs.lemmas.List.{length-take-le, take_rest}
use Rattle.aes_cmac.proofs.Pieces.{HasTaken_short, HasChained_first, HasChained_block, HasTaken_rest}
use Rattle.aes_cmac.specs.Progress.{Progress}
use Rattle.aes_cmac.proofs.state.Cmac.update.Goals as goal

pub returns-then-bytes-room : goal.returns-then-bytes-room
returns-then-bytes-room c = λ key m held.
    rw c.hold.ensures (HasTaken_short c.args.self.now key m c.args.bytes.now held (omega arith))

pub blocks-2-init : goal.blocks-2-init
blocks-2-init c = (
  ap (λ (s : Progress). s.tail) c.add_held.ensures,
  λ key m held.
      let none : c.room-room.result + 0 ≡ c.room-room.result = omega arith in
      rw (c.add_held.ensures, c.hold-2.ensures, none)
      (HasChained_first c.args.self.now key m (take c.room-room.result c.args.bytes.now) held
      (omega (arith, length-take-le c.room-room.result c.args.bytes.now (omega arith)))),
)

pub blocks-2-preserved : goal.blocks-2-preserved
blocks-2-preserved c = (
  ap (λ (s : Progress). s.tail) c.add.ensures ∙ c.blocks-2.invariant.0,
  λ key m held.
      let next : c.room-room.result + 16 * (c.blocks-2.i + 1) ≡ c.room-room.result + 16 * c.blocks-2.i + 16 = omega arith in
      rw (c.add.ensures, next)
      (HasChained_block c.blocks-2.self key m c.args.bytes.now _ (c.room-room.result + 16 * c.blocks-2.i)
      (c.blocks-2.invariant.1 key m held) (omega arith) c.block_from.ensures),
)

pub returns : goal.returns
returns c = λ key m held.
    let b = c.args.bytes.now in
    let at : ℕ = c.room-room.result + 16 * ((length b - c.room-room.result - 1) / 16) in
    let same : at ≡ c.room-room.result + 16 * c.blocks-2.i = omega arith in
    rw c.hold-3.ensures
    (HasTaken_rest c.blocks-2.self key m b _ (c.room-room.result + 16 * c.blocks-2.i) (c.blocks-2.invariant.1 key m held)
    (omega arith) (omega arith)
    (take_rest b at ∙ ap (λ (k : ℕ). drop k b) same))
