use Rattle.std.specs.Prelude.{◌≡◌, List, [], ◌++◌}
use Rattle.std.proofs.Common.{sym, ap, ◌∙◌, append-nil}
use Rattle.gateway_book.specs.declared.ask.Ask.{Ask}
use Rattle.gateway_book.specs.Answer.{Rules}
use Rattle.gateway_book.specs.Step.{State}
use Rattle.airtime_planner.specs.WhatIf.{Answer, AreAnswers, AddsAnswers}

-- Asks that are answered one after another.

-- the answers so far, and that any right answers to the asks that are left, put behind them, are right answers to all
pub record SoFar (rules : Rules) (first now : State) (asks left : List Ask) (before after : List Answer) : Type 0 where
  pub answers : List Answer
  pub added : after ≡ before ++ answers
  pub onward : (rest : List Answer) → AreAnswers rules now left rest → AreAnswers rules first asks (answers ++ rest)

pub all_answered : (rules : Rules) (first now : State) (asks : List Ask) (before after : List Answer)
    → SoFar rules first now asks [] before after → AddsAnswers rules first asks before after
all_answered rules first now asks before after so =
    record {
      answers = so.answers ++ [];
      added = so.added ∙ ap (λ (q : List Answer). before ++ q) (sym (append-nil so.answers));
      right = so.onward [] tt;
    }
