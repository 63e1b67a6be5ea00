-- A gateway's book, by the gateway's id: time passes for it, or what was sent for an answer is cancelled.
use Rattle.server_core.proofs.Words
use Words.{arith, ap, sym, ◌∙◌, AllZip, option_map, Bool, Err, List, None, Ok, Option, Result, Some, [], false, get_or, length}
use Words.{map, refl, slice_get, slice_set, suc, true, zero, ℕ, ◌<◌, ◌==◌, ◌∷◌, ◌≡◌, Book, ticked, CancelFault, NotHere, numbered}
use Words.{Answer, is_given, known_of, numbered-map, map_set, same_Some, kept_by, Gateway, World, gateway_with, known}
use Words.{found_there, Sent, gateway_of, lines_for, AreBooksOf, IsAt, IsBookOf, IsCancelled, IsIdle, IsBetweenCalls, Seen}
use Words.{cancelled_line, ids_of, is_among, with_lines, with_step, Cancel, Tick, sent_for, Line, step, Reply, Step}
use Words.{option_and_then, is_placed, place_within}
use Rattle.server_core.proofs.BookSteps.{book_calls_are_steps, same_book}
use Rattle.std.proofs.lemmas.Bool.{eqb-true}
use Rattle.server_core.proofs.{DeskSteps.desk_calls_are_steps, Calls.IsDone, Calls.done}
use Rattle.server_core.specs.BookCalls.{IsBookAt, IsStepAt, IsCancel, sent_at}
use Rattle.server_core.specs.Steps as replies
use Rattle.server_core.specs.declared.entry.Line.TheVariants as says

module _ {X Y : Type 0} (R : X → Y → Type 0) where
  zip_at : (xs : List X) (ys : List Y) (i : ℕ) (x : X) (y : Y) → AllZip R xs ys → slice_get xs i ≡ Some x
      → slice_get ys i ≡ Some y → R x y
  zip_at [] ys i x y z e f = absurd (cc (e))
  zip_at (a ∷ u) [] i x y z e f = absurd z
  zip_at (a ∷ u) (b ∷ v) zero x y z e f = rw (same_Some _ _ e, same_Some _ _ f) at z.0
  zip_at (a ∷ u) (b ∷ v) (suc i) x y z e f = zip_at u v i x y z.1 e f

  -- one member of each is written anew, or the one that stands there again
  pub zip_set : (xs : List X) (ys : List Y) (i : ℕ) (x : X) (y : Y) → AllZip R xs ys → R x y
      → AllZip R (slice_set xs i x) (slice_set ys i y)
  zip_set [] [] i x y z r = z
  zip_set (a ∷ u) (b ∷ v) zero x y z r = (r, z.1)
  zip_set (a ∷ u) (b ∷ v) (suc i) x y z r = (z.0, zip_set u v i x y z.1 r)
  zip_set xs ys i x y z r = absurd z

-- the place of a member, and the member there
found_at : {X : Type 0} (o : Option (ℕ × X)) (i : ℕ) → Some i ≡ option_map (λ p. p.0) o → (x : X) × (o ≡ Some (i, x))
found_at None i e = absurd (cc (e))
found_at (Some p) i e = (p.1, ap (λ (j : ℕ). Some (j, p.1)) (sym (same_Some _ _ e)))

-- the book that was found
pub record IsFound (id at : ℕ) (books : List Book) (book : Book) : Type 0 where
  pub there : slice_get books at ≡ Some book
  pub own : book.id ≡ id

-- its place
abbrev pub place_of : ℕ → List Book → Option ℕ
place_of id books = option_map (λ p. p.0) (gateway_with id (map gateway_of books))

module _ (id : ℕ) (books : List Book) where
  abbrev test : Gateway → Bool
  test g = g.id == id

  pub book_within : (at : ℕ) → Some at ≡ place_of id books → at < length books
  book_within at f = place_within gateway_of test books at f

  pub book_found : (at : ℕ) (book : Book) → Some at ≡ place_of id books → book ≡ get_or books at book → IsFound id at books book
  book_found at book f was =
      let p = is_placed gateway_of test books at book f was in
      record { there = p.there; own = eqb-true book.id id p.passes }

same_place : (id : ℕ) (books : List Book) (gateways : List Gateway) → AreBooksOf books gateways
    → option_map (λ p. p.0) (gateway_with id gateways) ≡ place_of id books
same_place id [] [] z = refl
same_place id (b ∷ v) (g ∷ gs) z = grind (arith, z.0.id, same_place id v gs z.1)
same_place id books gs z = absurd z

module _ (id : ℕ) (books : List Book) (gateways : List Gateway) (are : AreBooksOf books gateways) where
  pub gateway_found : (at : ℕ) (book : Book) → Some at ≡ place_of id books → IsFound id at books book
      → IsBookAt id at gateways book
  gateway_found at book f b =
      let g = found_at (gateway_with id gateways) at (f ∙ sym (same_place id books gateways are)) in
      let there = found_there (λ (x : Gateway). x.id == id) gateways (at, g.0) g.1 in
      record { gateway = g.0; found = g.1; keeps = zip_at IsBookOf books gateways at book g.0 are b.there there.0 }

  pub no_gateway : None ≡ place_of id books → gateway_with id gateways ≡ None
  no_gateway f = grind (arith, same_place id books gateways are)

-- a gateway that is among these has a book
pub has_place : (id : ℕ) (books : List Book) → is_among (ids_of books) id ≡ true → None ≡ place_of id books → ⊥
has_place id [] a f = cc (a)
has_place id (b ∷ v) a f = grind (arith, has_place id v)

-- the books are those of the world where one was asked, and is its gateway's after the step
pub books_stepped : (w : World) (step_made : Step) (id i : ℕ) (answers : List Answer) (book : Book) (reply : Reply)
    (books : List Book) → AreBooksOf books w.gateways → IsStepAt w step_made id i answers book reply
    → AreBooksOf (slice_set books i book) (step w step_made).0.gateways
books_stepped w step_made id i answers book reply books are s =
    rw s.after (zip_set IsBookOf books w.gateways i book s.gateway are s.keeps)

module _ {A : Type 0} (place : ℕ) (old mid new : Seen A) (gateway now : ℕ) (noted : mid ≡ with_step (Tick gateway now) old)
    (ready : IsBetweenCalls old) where
  -- at no gateway
  pub not_ticked : None ≡ place_of gateway mid.books → new ≡ with_lines place (says.NotTicked ∷ []) mid
      → IsDone place (Tick gateway now) old new
  not_ticked f told =
      let none : (w : World) → IsAt w mid → step w (Tick gateway now) ≡ (w, replies.Ticked None) =
      λ w at. (book_calls_are_steps A).tick_nowhere w gateway now (no_gateway gateway mid.books w.gateways at.books f) in
      done place (Tick gateway now) says.NotTicked old mid mid new noted
      (record {
        steps = refl;
        outcomes = refl;
        ready = λ r. r;
        at = λ w at. rw (none w at) at;
        lines = λ w at. rw (none w at) refl;
      })
      told ready

  pub ticked_done : (i : ℕ) (book after : Book) (floor : ℕ) → Some i ≡ place_of gateway mid.books
      → book ≡ get_or mid.books i book → after ≡ ticked book now → floor ≡ after.floor
      → new ≡ with_lines place (says.Floor gateway floor ∷ []) (record mid { books = slice_set mid.books i after })
      → IsDone place (Tick gateway now) old new
  ticked_done i book after floor f was risen is told =
      let b = book_found gateway mid.books i book f was in
      let made_so : (w : World) → IsAt w mid
      → IsStepAt w (Tick gateway now) gateway i w.answers after (replies.Ticked (Some after.floor)) =
      λ w at. (book_calls_are_steps A).tick w gateway i now book after
      (gateway_found gateway mid.books w.gateways at.books i book f b) risen in
      done place (Tick gateway now) (says.Floor gateway floor) old mid
      (record mid { books = slice_set mid.books i after }) new noted
      (record {
        steps = refl;
        outcomes = refl;
        ready = λ r. assumption (map_set (λ (x : Book). x.id) mid.books i book after b.there (cc (risen)) ∙ r.books, r);
        at = λ w at. record {
          desk = at.desk ∙ sym (desk_calls_are_steps.tick w gateway now);
          books = books_stepped w (Tick gateway now) gateway i w.answers after _ mid.books at.books (made_so w at);
        };
        lines = λ w at. rw ((made_so w at).after, is) refl;
      })
      told ready

sent_by_known : (o : Option Answer) → ((a : Answer) → o ≡ Some a → is_given (known_of a) ≡ false)
    → option_and_then sent_for o ≡ kept_by (option_map known_of o)
sent_by_known o f = grind arith

-- where no ticket is out, the desk knows what was sent for an answer
sent_known : (w : World) (n : ℕ) → IsIdle (known w) → sent_at w n ≡ kept_by (numbered n (known w))
sent_known w n idle = sent_by_known (numbered n w.answers)
    (λ a e. idle n (known_of a) (numbered-map known_of n w.answers ∙ ap (option_map known_of) e))
    ∙ ap kept_by (sym (numbered-map known_of n w.answers))

module _ {A : Type 0} (n : ℕ) (old new : Seen A) (ready : IsBetweenCalls old) where
  -- what the desk knows is what the world's answer keeps
  sent_is : (w : World) → IsAt w old → sent_at w n ≡ kept_by (numbered n old.desk.known)
  sent_is w at = rw at.desk (sent_known w n (rw at.desk at ready.idle))

  -- nothing was sent, or its gateway isn't here
  not_cancelled : new ≡ old → ((w : World) → IsAt w old → step w (Cancel n) ≡ (w, replies.Cancelled (Err NotHere)))
      → IsCancelled n old new (Err NotHere)
  not_cancelled same f =
      record {
        desk = cc;
        steps = cc;
        outcomes = cc;
        books = cc;
        kept = λ w at. rw (f w at, same) at.books;
        reply = λ w at. rw (f w at) refl;
      }

  pub nothing_sent : None ≡ kept_by (numbered n old.desk.known) → new ≡ old → IsCancelled n old new (Err NotHere)
  nothing_sent e same = not_cancelled same (λ w at. (book_calls_are_steps A).cancel_nothing w n (sent_is w at ∙ sym e))

  module _ (sent : Sent) (e : Some sent ≡ kept_by (numbered n old.desk.known)) where
    pub not_here : None ≡ place_of sent.gateway old.books → new ≡ old → IsCancelled n old new (Err NotHere)
    not_here f same = not_cancelled same (λ w at. (book_calls_are_steps A).cancel_nowhere w n sent (sent_is w at ∙ sym e)
        (no_gateway sent.gateway old.books w.gateways at.books f))

    module _ (i : ℕ) (book after : Book) (result : Result ℕ CancelFault) (f : Some i ≡ place_of sent.gateway old.books)
        (was : book ≡ get_or old.books i book) (call : IsCancel n sent.start book after result) where
      b : IsFound sent.gateway i old.books book
      b = book_found sent.gateway old.books i book f was

      stepped : (w : World) → IsAt w old → IsStepAt w (Cancel n) sent.gateway i w.answers after (replies.Cancelled result)
      stepped w at = (book_calls_are_steps A).cancel w n i sent book after result (sent_is w at ∙ sym e)
          (gateway_found sent.gateway old.books w.gateways at.books i book f b) call

      pub was_cancelled : new ≡ record old { books = slice_set old.books i after } → IsCancelled n old new result
      was_cancelled is =
          record {
            desk = cc;
            steps = cc;
            outcomes = cc;
            books = rw is (map_set (λ (x : Book). x.id) old.books i book after b.there
                (same_book n sent.start book after result call).0);
            kept = λ w at. rw is (books_stepped w (Cancel n) sent.gateway i w.answers after _ old.books at.books (stepped w at));
            reply = λ w at. rw (stepped w at).after refl;
          }

pub cancel_done : {A : Type 0} (place n : ℕ) (old mid next new : Seen A) (result : Result ℕ CancelFault) (line : Line A)
    → mid ≡ with_step (Cancel n) old → IsCancelled n mid next result
    → line ≡ cancelled_line n result → IsBetweenCalls old → new ≡ with_lines place (line ∷ []) next
    → IsDone place (Cancel n) old new
cancel_done {A} place n old mid next new result line noted c said ready told =
    done place (Cancel n) line old mid next new noted
    (record {
      steps = c.steps;
      outcomes = c.outcomes;
      ready = λ r. rw c.desk (record { books = c.books ∙ r.books; heard = r.heard; idle = r.idle });
      at = λ w at. record { desk = c.desk ∙ at.desk ∙ sym (desk_calls_are_steps.cancel w n); books = c.kept w at };
      lines = λ w at. rw (c.reply w at, said)
          (elim result as (λ r. lines_for {A = A} w (Cancel n) (replies.Cancelled r) ≡ cancelled_line n r ∷ [])
          [ Ok airtime ↦ refl | Err fault ↦ refl ]);
    })
    told ready
