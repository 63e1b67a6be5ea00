-- The candidates of a ticket are tried on the books of their gateways.
use Rattle.server_core.proofs.Words
use Words.{ap, arith, subst, sym, ◌∙◌, IsSomeAnd, option_map, List, None, Option, Some, [], drop, get_or}
use Words.{if◌then◌else◌, map, refl, slice_get, slice_set, ℕ, ◌+◌, ◌∷◌, ◌≡◌, Book, IsAsked, refusal_of, Refusal, Candidate}
use Words.{ask_for, candidates, IsBooked, IsReceipt, IsWrong, refusal_by, answered_as, Standing, candidate_of, Outcome, Receipt}
use Words.{Answer, Open, map_set, same_Some, Gateway, World, gateway_with, is_accepted, is_none, noting, up_to_first, AreBooksOf}
use Words.{AreHere, Seen, ids_of, with_step, Try, terms, AreTries, EndsTries, MovesOn, HasTicketOut, IsSame, tries_from}
use Words.{step_lines, run_from, step, get_or_from_slice_get, slice_get_within, slice_get_cases, drop_more, drop_all}
use Rattle.server_core.proofs.BookSteps.{book_calls_are_steps, some_and, found_for, answer_is, try_is}
use Rattle.server_core.proofs.BookCalls.{IsFound, place_of, book_found, gateway_found, books_stepped, has_place}
use Rattle.answer_ticket.specs.Tried.{IsNext as IsRefused, IsOut as IsRefusedLast, TriedIs}
use Rattle.answer_ticket.specs.declared.tried.Tried.{Tried}
use Rattle.server_core.specs.BookCalls.{IsBookAt, IsTryStep, LeavesStub, LeavesTicket, IsTry}
use Rattle.answer_ticket.specs.declared.tried.Tried.TheVariants as tried

module _ {X : Type 0} (xs : List X) (k : ℕ) where
  -- what is left from a place on
  drop_at : (x : X) → slice_get xs k ≡ Some x → drop k xs ≡ x ∷ drop (k + 1) xs
  drop_at x e = rw (get_or_from_slice_get xs k x x e) at (drop_more xs k x (slice_get_within xs k x e))

  drop_past : slice_get xs k ≡ None → drop k xs ≡ []
  drop_past e = grind (arith, slice_get_cases xs k, drop_all k xs)

-- the first that is accepted ends the tries
tries_are : (w : World) (t : Standing) (c : Candidate) → candidate_of t ≡ Some c → (i : ℕ) (g : Gateway)
    → gateway_with c.gateway w.gateways ≡ Some (i, g) → (o : Option Refusal)
    → refusal_of (terms g) g.state.list (ask_for t.job c) ≡ o
    → tries_from w t ≡ Try t.job.number
    ∷ map (λ (x : Candidate). Try t.job.number)
    (if is_none o then [] else up_to_first (is_accepted w t.job) (drop (t.at + 1) (candidates t.job)))
tries_are w t c at i g found o e =
    rw (drop_at (candidates t.job) t.at c at, found, e) refl

module _ {A : Type 0} (t : Standing) (old mid : Seen A) (gateway i : ℕ) (book after : Book)
    (noted : mid ≡ with_step (Try t.job.number) old) (f : Some i ≡ place_of gateway mid.books)
    (was : book ≡ get_or mid.books i book) where
  abbrev n : ℕ
  n = t.job.number

  b : IsFound gateway i mid.books book
  b = book_found gateway mid.books i book f was

  abbrev new : Seen A
  new = record mid { books = slice_set mid.books i after }

  same_by : after.id ≡ book.id → IsSame old new
  same_by e =
      record {
        desk = cc;
        ids = map_set (λ (y : Book). y.id) mid.books i book after b.there e ∙ rw noted refl;
        outcomes = cc;
      }

  steps_noted : mid.steps ≡ noting (Try n ∷ []) old.steps
  steps_noted = rw noted refl

  module _ (w : World) (out : HasTicketOut w t old) where
    mid_books : AreBooksOf mid.books w.gateways
    mid_books = rw noted out.books

    found : IsBookAt gateway i w.gateways book
    found = gateway_found gateway mid.books w.gateways mid_books i book f b

    -- the try is the world's
    call : (tried : Tried A) → TriedIs t book after tried → IsTry w t gateway i book after tried
    call tried is = (book_calls_are_steps A).try_on w t gateway i book after tried out.stands found is

    new_books : (answer : Answer) (refusal : Option Refusal) → IsTryStep w n gateway i answer after refusal
        → AreBooksOf new.books (step w (Try n)).0.gateways
    new_books answer refusal s = books_stepped w (Try n) gateway i _ after _ mid.books mid_books s

    module _ (c : Candidate) (at : candidate_of t ≡ Some c) (asked : book.id ≡ c.gateway) where
      tries : (o : Option Refusal) → refusal_by book t.job c ≡ o → tries_from w t ≡ Try n ∷ map (λ (x : Candidate). Try n)
          (if is_none o then [] else up_to_first (is_accepted w t.job) (drop (t.at + 1) (candidates t.job)))
      tries o e =
          tries_are w t c at i found.gateway (found_for w t out.stands gateway i book found c at asked) o
          (answer_is w t out.stands gateway i book found c at asked o e)

      booked_ends : (receipt : Receipt A) → refusal_by book t.job c ≡ None → IsReceipt t.job c receipt
          → LeavesStub w n gateway i (record { number = n; result = answered_as c }) after None
          → EndsTries w t old new (record { stub = record { number = n; result = answered_as c }; receipt = Some receipt })
      unfolding run_from step_lines
      booked_ends receipt e r left =
          let one : tries_from w t ≡ Try n ∷ [] = tries None e in
          let a : IsAsked (ask_for t.job c) receipt.reservation = r.reservation in
          record {
            books = rw one (new_books left.answer None left.made);
            steps = rw one steps_noted;
            told = rw one left.stands.told;
            lines = rw (one, left.made.after, out.stands, at, r.gateway, r.window, a.start, a.freq_hz, a.rate, a.len, r.frame)
                refl;
          }

  -- what a try gives, by the candidate at which the ticket stands
  pub not_wrong : option_map (λ (c : Candidate). c.gateway) (candidate_of t) ≡ Some gateway → (ticket : Standing)
      → IsSomeAnd (candidate_of t) (λ c. IsWrong t c book after ticket) → ⊥
  not_wrong own ticket h =
      let x = some_and (λ c. IsWrong t c book after ticket) (candidate_of t) h in
      x.2.other (b.own ∙ same_Some _ _ (sym own ∙ ap (option_map (λ (c : Candidate). c.gateway)) x.1))

  -- another follows
  pub next_turn : (ticket : Standing) (refusal : Refusal) → TriedIs {A = A} t book after (tried.Next ticket refusal)
      → MovesOn t old new ticket
  next_turn ticket refusal h =
      let x = some_and (λ c. IsRefused t c book after ticket refusal) (candidate_of t) h in
      let e = x.2 in
      record {
        same = same_by (cc (e.book));
        moved = e.moved;
        follows = e.follows;
        goes_on = λ w out.
            let is = try_is w t out.stands gateway i book (found w out) x.0 x.1 e.asked (Some refusal) e.refused in
            let left = subst (λ s. LeavesTicket w n gateway i s after (Some refusal)) e.moved
            (call w out (tried.Next ticket refusal) h) in
            record {
              books = new_books w out (Open (t.at + 1) t.job) (Some refusal) left.made;
              steps = steps_noted;
              stands = left.stands;
              rest = rw is (tries w out x.0 x.1 e.asked (Some refusal) e.refused);
              lines = rw left.made.after refl;
            };
      }

  -- it was the last
  pub out_turn : (stub : Outcome) (refusal : Refusal) → TriedIs {A = A} t book after (tried.Out stub refusal)
      → AreTries t old new (record { stub = stub; receipt = None })
  unfolding run_from step_lines
  out_turn stub refusal h =
      let x = some_and (λ c. IsRefusedLast t c book after stub refusal) (candidate_of t) h in
      let e = x.2 in
      record {
        same = same_by (cc (e.book));
        number = cc (e.ended);
        here = rw e.ended refl;
        ends = λ w out.
            let left = call w out (tried.Out stub refusal) h in
            let none : drop (t.at + 1) (candidates t.job) ≡ [] = drop_past (candidates t.job) (t.at + 1) e.last in
            let one : tries_from w t ≡ Try n ∷ [] = rw (tries w out x.0 x.1 e.asked (Some refusal) e.refused, none) refl in
            record {
              books = rw one (new_books w out left.answer (Some refusal) left.made);
              steps = rw one steps_noted;
              told = rw one (rw left.number at left.stands.told);
              lines = rw (one, left.made.after, e.ended) refl;
            };
      }

  pub booked_turn : AreHere (ids_of old.books) t.job → (stub : Outcome) (receipt : Receipt A)
      → TriedIs t book after (tried.Booked stub receipt) → AreTries t old new (record { stub = stub; receipt = Some receipt })
  booked_turn here stub receipt h =
      let x = some_and (λ c. IsBooked t c book after stub receipt) (candidate_of t) h in
      let e = x.2 in
      record {
        same = same_by (cc (e.book));
        number = cc (e.ended);
        here = rw e.ended (here t.at x.0 x.1);
        ends = λ w out. rw e.ended (booked_ends w out x.0 x.1 e.asked receipt e.accepted e.named
            (subst (λ s. LeavesStub w n gateway i s after None) e.ended (call w out (tried.Booked stub receipt) h)));
      }

-- a gateway that is among these has a book
pub has_book : {A : Type 0} (t : Standing) (old mid : Seen A) (gateway : ℕ) → mid ≡ with_step (Try t.job.number) old
    → AreHere (ids_of old.books) t.job → option_map (λ (c : Candidate). c.gateway) (candidate_of t) ≡ Some gateway
    → None ≡ place_of gateway mid.books → ⊥
has_book {A} t old mid gateway noted here own f = by (candidate_of t) refl own
  where
    by : (o : Option Candidate) → candidate_of t ≡ o → option_map (λ (c : Candidate). c.gateway) o ≡ Some gateway → ⊥
    by None at e = cc (e)
    by (Some c) at e = has_place gateway mid.books (rw (noted, ← same_Some _ _ e) (here t.at c at)) f
