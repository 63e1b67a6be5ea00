-- What happened, one thing after another.
use Rattle.std.proofs.Common.{◌++◌, ◌∙◌, List, [], Some, None, Option, ap, append_assoc, append-nil, sym}
use Rattle.serve_turns.specs.Effects.{Effect, Adds}

-- first these, then those
pub adds_then : (before middle after : Option (List Effect)) (first more : List Effect) → Adds before middle first
    → Adds middle after more → Adds before after (first ++ more)
adds_then None middle after first more a b = tt
adds_then (Some before) None after first more a b = absurd a
adds_then (Some before) (Some middle) None first more a b = absurd b
adds_then (Some before) (Some middle) (Some after) first more a b =
    b ∙ ap (λ l. l ++ more) a ∙ append_assoc before first more

-- nothing happened
pub adds_none : (h : Option (List Effect)) → Adds h h []
adds_none None = tt
adds_none (Some before) = sym (append-nil before)
