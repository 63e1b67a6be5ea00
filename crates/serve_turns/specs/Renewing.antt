use Rattle.std.specs.Prelude.{ℕ, Bool, true, false, if◌then◌else◌, List, [], ◌∷◌, length, Option, Some, None}
use Rattle.serve_journal.specs.Renewal.{renewal_text}
use Rattle.serve_renewal.specs.State.{state_of}
use Rattle.serve_turns.specs.Effects.{Effect, Replaces}
use Rattle.serve_turns.specs.Kept.{Kept, kept_after, is_renewed}
use Rattle.serve_turns.specs.Life.{Life}
use Rattle.serve_turns.specs.Sending.{known_then}

-- A journal is written anew.

-- the whole journal of what is known when the server's clock shows a moment
abbrev pub journal_at : ℕ → Kept → Life → List ℕ
journal_at now k l = renewal_text (state_of (known_then k now l))

-- it is put in place, or that failed
abbrev pub renewing_if_kept : ℕ → Bool → Option Kept → Life → Life
renewing_if_kept now done None l = l
renewing_if_kept now done (Some k) l = record l { kept = Some (kept_after now done (length (journal_at now k l)) k) }

abbrev pub renewing : ℕ → Bool → Life → Life
renewing now done l = renewing_if_kept now done l.kept l

abbrev pub renewing_effects_if_kept : ℕ → Bool → Option Kept → Life → List Effect
renewing_effects_if_kept now done None l = []
renewing_effects_if_kept now done (Some k) l = Replaces (journal_at now k l) done ∷ []

abbrev pub renewing_effects : ℕ → Bool → Life → List Effect
renewing_effects now done l = renewing_effects_if_kept now done l.kept l

-- one is in its place, and no write of it has failed since
abbrev pub is_unfailed : Option ℕ → Bool
is_unfailed None = true
is_unfailed (Some at) = false

abbrev pub is_in_place : Option Kept → Bool
is_in_place None = false
is_in_place (Some k) = is_unfailed k.failed_at

-- whether that is to be done
abbrev pub is_to_be_renewed : ℕ → Option Kept → Bool
is_to_be_renewed now None = false
is_to_be_renewed now (Some k) = is_renewed now k

abbrev pub after_renewal : ℕ → Bool → Life → Life
after_renewal now done l = if is_to_be_renewed now l.kept then renewing now done l else l

abbrev pub renewal_effects : ℕ → Bool → Life → List Effect
renewal_effects now done l = if is_to_be_renewed now l.kept then renewing_effects now done l else []
