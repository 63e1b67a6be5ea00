-- From the parts of a run to what its text promises.
use Rattle.std.proofs.Common.{◌≡◌, ℕ, Bool, List, Option, None, Some, Result, Ok, Err, IfSome, IfOk, OnOk, refl, ap, ◌∙◌, subst}
use Rattle.std.specs.Io.KnownBytes.{Appends, Consumes}
use Rattle.std.specs.Str.Lines.{lines}
use Rattle.text_lines.specs.Line.{text_of}
use Rattle.text_lines.specs.Writing.{WritesFront}
use Rattle.server_core.specs.Settings.{SettingLists}
use Rattle.text_words.specs.Words.{has_refusal}
use Rattle.settings_text.specs.SettingsOfBytes.{settings_in}
use Rattle.run_lines.specs.RunInput.{settings_part, event_part}
use Rattle.run_lines.specs.RunEvents.{events_of}
use Rattle.airbook_text.specs.RunOutput.{lines_for, run_lines, Runs, RunsInPart}

-- what is known of an input that was read, and of the lines that answer it
pub record IsAnsweredBy (A : Type 0) (left left_after : Option (List ℕ)) (input : List ℕ) (settings : SettingLists)
    (answer : List (List ℕ)) : Type 0 where
  pub whole : IfSome left (λ all. input ≡ all)
  pub consumed : Consumes left left_after input
  pub given : settings_in (settings_part input) ≡ Ok settings
  pub lines : answer ≡ run_lines A settings input

-- what was made of the two parts of an input
pub answered-by : (A : Type 0) (left left_after : Option (List ℕ)) (input first second : List ℕ) (settings : SettingLists)
    (answer : List (List ℕ))
    → IfSome left (λ all. input ≡ all) → Consumes left left_after input → first ≡ settings_part input → second ≡ event_part input
    → settings_in first ≡ Ok settings → answer ≡ lines_for {A = A} settings (events_of settings.devices (lines second))
    → IsAnsweredBy A left left_after input settings answer
answered-by A left left_after input first second settings answer w c f e s a =
    record {
      whole = w;
      consumed = c;
      given = subst (λ p. settings_in p ≡ Ok settings) f s;
      lines = a ∙ ap (λ p. lines_for {A = A} settings (events_of settings.devices (lines p))) e;
    }

pub runs : (A : Type 0) (left left_after before after : Option (List ℕ)) (input : List ℕ) (settings : SettingLists)
    (answer : List (List ℕ)) (refused : Bool)
    → IsAnsweredBy A left left_after input settings answer → Appends before after (text_of answer) → refused ≡ has_refusal answer
    → Runs A left left_after before after refused
runs A None left_after before after input settings answer refused k w t = tt
runs A (Some bytes) left_after before after input settings answer refused k w t =
    let same = k.lines ∙ ap (run_lines A settings) k.whole in
    record {
      settings = settings;
      given = subst (λ b. settings_in (settings_part b) ≡ Ok settings) k.whole k.given;
      consumed = subst (Consumes (Some bytes) left_after) k.whole k.consumed;
      written = subst (λ l. Appends before after (text_of l)) same w;
      told = subst (λ l. refused ≡ has_refusal l) same t;
    }

pub runs-in_part : (A : Type 0) (left left_after before after : Option (List ℕ)) (input : List ℕ) (settings : SettingLists)
    (answer : List (List ℕ))
    → IsAnsweredBy A left left_after input settings answer → WritesFront before after (text_of answer)
    → RunsInPart A left left_after before after
runs-in_part A None left_after before after input settings answer k w = tt
runs-in_part A (Some bytes) left_after before after input settings answer k w =
    let same = k.lines ∙ ap (run_lines A settings) k.whole in
    record {
      settings = settings;
      given = subst (λ b. settings_in (settings_part b) ≡ Ok settings) k.whole k.given;
      consumed = subst (Consumes (Some bytes) left_after) k.whole k.consumed;
      written = subst (λ l. WritesFront before after (text_of l)) same w;
    }

-- the same of the text call that wrote the lines for the two parts, where it answers Ok
pub runs-told : {E : Type 0} (A : Type 0) (left left_after before after : Option (List ℕ)) (input first second : List ℕ)
    (settings : SettingLists) (r : Result Bool E)
    → IfSome left (λ all. input ≡ all) → Consumes left left_after input → first ≡ settings_part input → second ≡ event_part input
    → settings_in first ≡ Ok settings
    → OnOk r (Appends before after (text_of (lines_for {A = A} settings (events_of settings.devices (lines second)))))
    → IfOk r (λ refused. refused ≡ has_refusal (lines_for {A = A} settings (events_of settings.devices (lines second))))
    → IfOk r (λ refused. Runs A left left_after before after refused)
runs-told A left left_after before after input first second settings (Ok refused) w c f e s wrote told =
    runs A left left_after before after input settings _ refused
    (answered-by A left left_after input first second settings _ w c f e s refl) wrote told
runs-told A left left_after before after input first second settings (Err fault) w c f e s wrote told = tt
