use Rattle.std.specs.Prelude.{ℕ, ◌≡◌, Bool, List, Option}
use Rattle.serve_turns.specs.declared.answerer.Answerer.{Answerer}
use Rattle.serve_turns.specs.declared.command.ToQueue.{ToQueue}
use Rattle.serve_turns.specs.declared.sending.Written.{Written}
use Rattle.serve_turns.specs.Control.{is_met as is_met_by, meeting, meeting_effects, need_for}
use Rattle.serve_turns.specs.Effects.{Effect, Adds}
use Rattle.serve_turns.specs.Life.{Life, IsAlive, IsReady}

-- what the journal has to do before a payload is queued was tried, and was done or not, whatever the server's life was
pub record HasMet {S A R : Type 0} {C : _} (now : ℕ) (q : ToQueue A) (is_met : Bool) (before after : Option (List Effect))
    (old new : Answerer S A R C) : Type 0 where
  pub how : Written
  pub ready : IsReady new
  pub met : (l : Life) → IsAlive l old → is_met ≡ is_met_by how (need_for q l)
  pub lives : (l : Life) → IsAlive l old → IsAlive (meeting now how (need_for q l) l) new
  pub effects : (l : Life) → IsAlive l old → Adds before after (meeting_effects how (need_for q l))
