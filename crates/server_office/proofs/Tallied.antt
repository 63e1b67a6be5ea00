-- The tally of settled answers, under the desk's steps.
use Rattle.std.specs.Prelude.{◌≡◌, Result, Ok, Err, OnOk, OnErr}
use Rattle.std.proofs.Common.{ap, ◌∙◌}
use Rattle.server_desk.specs.Desk.{total_of, DeskView}

-- a call that may be refused leaves the total as it is, if its step does
pub same-total : {X F : Type 0} (r : Result X F) (old next new : DeskView) → total_of next ≡ total_of old → OnOk r (new ≡ next)
    → OnErr r (new ≡ old) → total_of new ≡ total_of old
same-total (Ok x) old next new same stepped refused = ap total_of stepped ∙ same
same-total (Err f) old next new same stepped refused = ap total_of refused
