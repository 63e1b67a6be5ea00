-- What a worker's thread is passed may be sent to it: a worker of its own, and what all share.
use Rattle.std.specs.Prelude.{[], ◌∷◌}
use mir.Syntax.{Sym, Lifetime}
use base.Fml.{Lft}
use denote.RattleType.{RattleType}
use denote.Ref.{MutRef, ShrRef}
use denote.Param.Send.{IsSend, IsSync, mut_send, shr_send}
use denote.Param.SendFields.{as_row_send, declared_send}
use denote.Struct.Field.{row_field}
use denote.Struct.Tuple.{TupleAt, type_at}

module _ (ν : Sym) (ℓ ℓ₁ ℓ₂ ℓ₃ ℓ₄ : Lifetime) (κ κ₁ κ₂ κ₃ κ₄ : Lft) (M R T N G : RattleType) where
  pub passed_send : IsSend M → IsSync R → IsSync T → IsSync N → IsSync G
      → IsSend (TupleAt ν (MutRef ℓ κ M ∷ ShrRef ℓ₁ κ₁ R ∷ ShrRef ℓ₂ κ₂ T ∷ ShrRef ℓ₃ κ₃ N ∷ ShrRef ℓ₄ κ₄ G ∷ []))
  passed_send m r t n g =
      declared_send (type_at ν (MutRef ℓ κ M ∷ ShrRef ℓ₁ κ₁ R ∷ ShrRef ℓ₂ κ₂ T ∷ ShrRef ℓ₃ κ₃ N ∷ ShrRef ℓ₄ κ₄ G ∷ [])) (
        as_row_send (row_field (MutRef ℓ κ M)) (mut_send ℓ κ M m),
        (
          as_row_send (row_field (ShrRef ℓ₁ κ₁ R)) (shr_send ℓ₁ κ₁ R r),
          (
            as_row_send (row_field (ShrRef ℓ₂ κ₂ T)) (shr_send ℓ₂ κ₂ T t),
            (
              as_row_send (row_field (ShrRef ℓ₃ κ₃ N)) (shr_send ℓ₃ κ₃ N n),
              (as_row_send (row_field (ShrRef ℓ₄ κ₄ G)) (shr_send ℓ₄ κ₄ G g), tt),
            ),
          ),
        ),
      )
