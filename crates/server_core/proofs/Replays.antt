-- Events, one after another, from a server that has heard nothing.
use Rattle.server_core.proofs.Words
use Words.{ap, append-nil, append_assoc, sym, ◌∙◌, List, [], Option, Some, get_or, length, map, refl, ℕ, ◌++◌, ◌+◌, ◌<◌, ◌∷◌, ◌≡◌}
use Words.{Book, Gateway, World, opening, SettingLists, entries, gateway_of, kept_gateway, reached, noting, schedule, usual_limits}
use Words.{AreBooksOf, Does, IsAt, IsOpened, IsBetweenCalls, Seen, with_lines, Step, Event, event_steps, entry_at, length-append}
use Words.{subst, schedule_from, entries_from, run_from, same_Some, arith}
use Rattle.server_core.proofs.{Calls.noting_none, Calls.noting_twice, Calls.reached_append}
use Rattle.server_core.specs.Entries.{event_lines, gateways_after}
use Rattle.std.proofs.{Common.take, lemmas.List.length-take-le, lemmas.List.take_more}

-- one event more

schedule_more : {A : Type 0} (w : World) (es : List (Event A)) (e : Event A)
    → schedule_from w (es ++ e ∷ []) ≡ schedule_from w es ++ event_steps (reached w (schedule_from w es)) e
unfolding schedule_from run_from
schedule_more w [] e = append-nil (event_steps w e)
schedule_more w (x ∷ xs) e = rw (schedule_more (reached w (event_steps w x)) xs e, append_assoc, reached_append) refl

entries_more : {A : Type 0} (place : ℕ) (w : World) (es : List (Event A)) (e : Event A)
    → entries_from place w (es ++ e ∷ [])
    ≡ entries_from place w es ++ map (entry_at (place + length es)) (event_lines (reached w (schedule_from w es)) e)
unfolding entries_from schedule_from run_from
entries_more place w [] e =
    let here : place + 0 ≡ place = omega arith in
    rw (append-nil, here) refl
entries_more place w (x ∷ xs) e =
    let further : place + 1 + length xs ≡ place + length (x ∷ xs) = omega arith in
    rw (entries_more (place + 1) (reached w (event_steps w x)) xs e, append_assoc, reached_append, further) refl

-- these events were answered, from where these steps were kept
pub record IsReplaying {A : Type 0} (settings : SettingLists) (kept : Option (List Step)) (es : List (Event A))
    (s : Seen A) : Type 0 where
  pub at : IsAt (reached (opening settings usual_limits) (schedule settings es)) s
  pub ready : IsBetweenCalls s
  pub steps : s.steps ≡ noting (schedule settings es) kept
  pub outcomes : s.outcomes ≡ entries settings es

pub replaying_first : {A : Type 0} (settings : SettingLists) (kept : Option (List Step)) (s : Seen A)
    → IsOpened (opening settings usual_limits) kept s → IsReplaying settings s.steps [] s
unfolding run_from schedule_from entries_from
replaying_first settings kept s o =
    record { at = o.at; ready = o.ready; steps = sym (noting_none s.steps); outcomes = o.outcomes }

module _ {A : Type 0} (settings : SettingLists) (kept : Option (List Step)) (e : Event A) (s new : Seen A)
    (ready : IsBetweenCalls new) where
  pub replaying_on : (es : List (Event A)) → Does (length es) e s new → IsReplaying settings kept es s
      → IsReplaying settings kept (es ++ e ∷ []) new
  replaying_on es does r =
      let w = opening settings usual_limits in
      let g = does (reached w (schedule settings es)) r.at in
      let first : 0 + length es ≡ length es = omega arith in
      record {
        at = rw (schedule_more w es e, reached_append) g.at;
        ready = ready;
        steps = rw (g.steps, r.steps, schedule_more w es e) (noting_twice (schedule settings es) _ kept);
        outcomes = rw (g.outcomes, r.outcomes, entries_more 0 w es e, first) refl;
      }

  -- the next of a list
  pub replaying_next : (all : List (Event A)) (i : ℕ) → i < length all → e ≡ get_or all i e → Does i e s new
      → IsReplaying settings kept (take i all) s → IsReplaying settings kept (take (i + 1) all) new
  replaying_next all i within event does r =
      let taken : length (take i all) ≡ i = length-take-le i all (omega (arith, within)) in
      let more : take (i + 1) all ≡ take i all ++ e ∷ [] =
      take_more all i e within ∙ ap (λ x. take i all ++ x ∷ []) (sym event) in
      let placed : Does (length (take i all)) e s new = rw taken does in
      rw more (replaying_on (take i all) placed r)

-- after the last event

-- the books have what is kept of the gateways
books_kept : (books : List Book) (gs : List Gateway) → AreBooksOf books gs → map gateway_of books ≡ map kept_gateway gs
books_kept [] [] z = refl
books_kept (b ∷ bs) (g ∷ gs) z =
    let r = z.0.remembers in
    cc (z.0.id, z.0.rules, r.floor, r.list, r.booked, r.cancelled, books_kept bs gs z.1)
books_kept books gs z = absurd z

-- it made the steps of these events, and told their lines; these steps were kept before
pub record IsReplayed {A : Type 0} (settings : SettingLists) (es : List (Event A)) (kept : Option (List Step))
    (s : Seen A) : Type 0 where
  pub steps : s.steps ≡ noting (schedule settings es) kept
  pub outcomes : s.outcomes ≡ entries settings es
  pub books : map gateway_of s.books ≡ map kept_gateway (gateways_after settings es)

pub replayed : {A : Type 0} (settings : SettingLists) (kept : Option (List Step)) (es all : List (Event A)) (s : Seen A)
    → es ≡ all → IsReplaying settings kept es s → IsReplayed settings all kept s
replayed {A} settings kept es all s same r =
    subst (λ (l : List (Event A)). IsReplayed settings l kept s) same (record {
      steps = r.steps;
      outcomes = r.outcomes;
      books = books_kept s.books (reached (opening settings usual_limits) (schedule settings es)).gateways r.at.books;
    })

pub none_left : {X : Type 0} (yielded rest all : List X) → length rest ≡ 0 → yielded ++ rest ≡ all → yielded ≡ all
none_left yielded [] all none e = sym (append-nil yielded) ∙ e
none_left yielded (x ∷ xs) all none e = absurd (omega (arith, none))

pub one_more : {X : Type 0} (xs : List X) (x : X) (n : ℕ) → n ≡ length xs → n + 1 ≡ length (xs ++ x ∷ [])
one_more xs x n e = omega (arith, e, length-append xs (x ∷ []))

-- the steps, where they were kept from the first one on
pub steps_kept : (made : Option (List Step)) (first last ss : List Step) → made ≡ noting ss (Some first) → first ≡ []
    → made ≡ Some last → last ≡ ss
steps_kept made first last ss noted none are = same_Some _ _ (sym are ∙ noted) ∙ ap (λ l. l ++ ss) none
