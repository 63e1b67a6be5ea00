-- The parts of a turn, one after another.
use Rattle.std.proofs.Common.{◌≡◌, ◌++◌, ◌∙◌, List, [], Option, ap, append_assoc, append-nil, refl, subst, sym}
use Rattle.serve_turns.specs.declared.answerer.Answerer.{Answerer}
use Rattle.serve_turns.specs.Effects.{Effect, Adds, AddsFront}
use Rattle.serve_turns.specs.Life.{Life, IsAlive, Makes}
use Rattle.serve_turns.specs.Turn.{Did, Broke}
use Rattle.serve_turns.proofs.Effects.{adds_then, adds_none}

-- all of it is a front of itself
pub whole_front : (before after : Option (List Effect)) (whole : List Effect) → Adds before after whole → AddsFront before after whole
whole_front before after whole adds =
    record { front = whole; rest = []; is = sym (append-nil whole); adds = adds }

pub front_then : (before middle after : Option (List Effect)) (first more : List Effect) → Adds before middle first
    → AddsFront middle after more → AddsFront before after (first ++ more)
front_then before middle after first more adds f =
    record {
      front = first ++ f.front;
      rest = f.rest;
      is = ap (λ l. first ++ l) f.is ∙ sym (append_assoc first f.front f.rest);
      adds = adds_then before middle after first f.front adds f.adds;
    }

pub front_first : (before after : Option (List Effect)) (first more : List Effect) → AddsFront before after first
    → AddsFront before after (first ++ more)
front_first before after first more f =
    record {
      front = f.front;
      rest = f.rest ++ more;
      is = ap (λ l. l ++ more) f.is ∙ append_assoc f.front f.rest more;
      adds = f.adds;
    }

pub nothing_front : (h : Option (List Effect)) (whole : List Effect) → AddsFront h h whole
nothing_front h whole = record { front = []; rest = whole; is = refl; adds = adds_none h }

module _ {X Y : Type 0} (h0 h1 h2 : Option (List Effect)) (on : X → Life → Life) (does : X → Life → List Effect)
    (on_then : Y → Life → Life) (does_then : Y → Life → List Effect) where
  abbrev pub both : X × Y → Life → Life
  both how l = on_then how.1 (on how.0 l)

  abbrev pub does_both : X × Y → Life → List Effect
  does_both how l = does how.0 l ++ does_then how.1 (on how.0 l)

  pub did_then : {S A R : Type 0} {C : _} (a b c : Answerer S A R C) → Did h0 h1 on does a b → Did h1 h2 on_then does_then b c
      → Did h0 h2 both does_both a c
  did_then a b c first next =
      record {
        how = (first.how, next.how);
        ready = next.ready;
        lives = λ l alive. next.lives (on first.how l) (first.lives l alive);
        effects = λ l alive.
            adds_then h0 h1 h2 (does first.how l) (does_then next.how (on first.how l)) (first.effects l alive)
            (next.effects (on first.how l) (first.lives l alive));
      }

  pub did_broke : {S A R : Type 0} {C : _} (a b : Answerer S A R C) → Did h0 h1 on does a b → Broke h1 h2 does_then b → Broke h0 h2 does_both a
  did_broke a b first next =
      record {
        how = (first.how, next.how);
        effects = λ l alive.
            front_then h0 h1 h2 (does first.how l) (does_then next.how (on first.how l)) (first.effects l alive)
            (next.effects (on first.how l) (first.lives l alive));
      }

  -- it broke before the second part, whatever would have come of that
  pub broke_first : {S A R : Type 0} {C : _} (a : Answerer S A R C) → Y → Broke h0 h1 does a → Broke h0 h1 does_both a
  broke_first a y first =
      record {
        how = (first.how, y);
        effects = λ l alive.
            front_first h0 h1 (does first.how l) (does_then y (on first.how l)) (first.effects l alive);
      }

-- the same by what else the world around answered
pub did_as : {S A R X Y : Type 0} {C : _} (h0 h1 : Option (List Effect)) (on : X → Life → Life) (does : X → Life → List Effect)
    (on_as : Y → Life → Life) (does_as : Y → Life → List Effect) (a b : Answerer S A R C) (to : X → Y)
    → ((x : X) (l : Life) → on x l ≡ on_as (to x) l) → ((x : X) (l : Life) → does x l ≡ does_as (to x) l)
    → Did h0 h1 on does a b → Did h0 h1 on_as does_as a b
did_as h0 h1 on does on_as does_as a b to lives effects d =
    record {
      how = to d.how;
      ready = d.ready;
      lives = λ l alive. subst (λ x. IsAlive x b) (lives d.how l) (d.lives l alive);
      effects = λ l alive. subst (λ es. Adds h0 h1 es) (effects d.how l) (d.effects l alive);
    }

pub broke_as : {S A R X Y : Type 0} {C : _} (h0 h1 : Option (List Effect)) (does : X → Life → List Effect)
    (does_as : Y → Life → List Effect) (a : Answerer S A R C) (to : X → Y) → ((x : X) (l : Life) → does x l ≡ does_as (to x) l)
    → Broke h0 h1 does a → Broke h0 h1 does_as a
broke_as h0 h1 does does_as a to effects b =
    record {
      how = to b.how;
      effects = λ l alive. subst (λ es. AddsFront h0 h1 es) (effects b.how l) (b.effects l alive);
    }

-- what asks the world around for nothing
pub did_quietly : {S A R X : Type 0} {C : _} (h : Option (List Effect)) (on : Life → Life) (x : X) (a b : Answerer S A R C)
    → Makes on a b → Did h h (λ (how : X) l. on l) (λ how l. []) a b
did_quietly h on x a b made =
    record { how = x; ready = made.ready; lives = made.goes; effects = λ l alive. adds_none h }
