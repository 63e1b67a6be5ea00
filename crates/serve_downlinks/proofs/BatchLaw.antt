-- What a batch says of each downlink.
use Rattle.std.proofs.Common.{◌≡◌, ◌++◌, ◌<◌, ◌==◌, ◌∙◌, Bool, true, false, List, [], ◌∷◌, ℕ, ap, append_assoc, cond, get_or, refl, sym}
use Rattle.std.proofs.Common.{Contains, Some, find, length, zero, suc, arith}
use Rattle.std.specs.List.{flat_map}
use Rattle.std.specs.Option.{option_map}
use Rattle.std.proofs.lemmas.Bool.{eqb-true, eq-eqb}
use Rattle.std.proofs.lemmas.Option.{none-some, same_Some}
use Rattle.std.proofs.lemmas.List.Folds.{list_any_at}
use Rattle.std.proofs.lemmas.Grind.{flat_map-append}
use Rattle.gateway_clock.specs.Clock.{line}
use Rattle.gateway_book.specs.Book.{Book}
use Rattle.server_desk.specs.Register.{Device, device_with, counters_of}
use Rattle.forwarder_sessions.specs.Sessions.{Known}
use Rattle.serve_journal.specs.declared.entry.Entry.TheVariants as says
use Rattle.serve_downlinks.specs.Downlinks.{ToSend}
use Rattle.serve_downlinks.specs.Batch.{Knows, floor_of, sends, clock_if_sends, addr_in, session_at, device_entries}
use Rattle.serve_downlinks.specs.Batch.{addressed, taken_entries, sent_of, send_entries}
use Rattle.serve_downlinks.specs.BatchLaw.{BatchesTellWhatIsSent}

-- a list around one of its elements
record Around {X : Type 0} (xs : List X) (x : X) : Type 0 where
  front : List X
  rest : List X
  is : xs ≡ front ++ (x ∷ rest)

-- one more element stands before it
later : {X : Type 0} (x y : X) (xs : List X) → Around xs x → Around (y ∷ xs) x
later x y xs a = record { front = y ∷ a.front; rest = a.rest; is = ap (λ l. y ∷ l) a.is }

around_at : {X : Type 0} (xs : List X) (i : ℕ) (x : X) → i < length xs → get_or xs i x ≡ x → Around xs x
around_at [] i x within is = absurd (omega arith)
around_at (y ∷ ys) zero x within is = record { front = []; rest = ys; is = ap (λ z. z ∷ ys) is }
around_at (y ∷ ys) (suc i) x within is = later x y ys (around_at ys i x (omega arith) is)

around : {X : Type 0} (xs : List X) (x : X) → Contains xs x → Around xs x
around xs x h = around_at xs h.0 x h.1 h.2

-- what is found passes the test, and is among the list
record Finds {X : Type 0} (test : X → Bool) (xs : List X) (x : X) : Type 0 where
  passes : test x ≡ true
  within : Around xs x

found_first : {X : Type 0} (test : X → Bool) (y : X) (ys : List X) (x : X) (b : Bool) → test y ≡ b
    → cond b (Some y) (find test ys) ≡ Some x → (find test ys ≡ Some x → Finds test ys x) → Finds test (y ∷ ys) x
found_first test y ys x true is found more =
    let same = same_Some y x found in
    record { passes = ap test (sym same) ∙ is; within = record { front = []; rest = ys; is = ap (λ z. z ∷ ys) same } }
found_first test y ys x false is found more =
    let f = more found in record { passes = f.passes; within = later x y ys f.within }

found : {X : Type 0} (test : X → Bool) (xs : List X) (x : X) → find test xs ≡ Some x → Finds test xs x
found test [] x is = absurd (none-some x is)
found test (y ∷ ys) x is = found_first test y ys x (test y) refl is (found test ys x)

-- the parts of a list that each element gives, around those of one
flat_around : {X Y : Type 0} (f : X → List Y) (xs : List X) (x : X) (a : Around xs x)
    → flat_map f xs ≡ flat_map f a.front ++ (f x ++ flat_map f a.rest)
flat_around f xs x a = ap (flat_map f) a.is ∙ flat_map-append f a.front (x ∷ a.rest)

-- two such lists behind one another, of which the first has one element there and the second some
arranged : {X : Type 0} (a b c e t : List X) (p q r : X)
    → (a ++ (p ∷ b)) ++ (c ++ (((q ∷ t) ++ (r ∷ [])) ++ e)) ≡ a ++ (p ∷ ((b ++ c) ++ (q ∷ (t ++ (r ∷ e)))))
arranged a b c e t p q r =
    append_assoc a (p ∷ b) (c ++ (((q ∷ t) ++ (r ∷ [])) ++ e))
    ∙ ap (λ l. a ++ (p ∷ l)) (sym (append_assoc b c (((q ∷ t) ++ (r ∷ [])) ++ e)))
    ∙ ap (λ l. a ++ (p ∷ ((b ++ c) ++ (q ∷ l)))) (append_assoc t (r ∷ []) e)

-- its gateway sends a downlink
sends_it : (ds : List ToSend) (d : ToSend) → Contains ds d → sends d.candidate.gateway ds ≡ true
sends_it ds d h =
    list_any_at (λ e. e.candidate.gateway == d.candidate.gateway) ds h.0 d h.1
    (ap (λ e. e.candidate.gateway == d.candidate.gateway) h.2 ∙ eq-eqb d.candidate.gateway d.candidate.gateway refl)

-- so its clock is told
clock_told : (now : ℕ) (books : List Book) (ds : List ToSend) (d : ToSend) (f : Known) → Contains ds d
    → f.forwarder.gateway ≡ d.candidate.gateway
    → clock_if_sends now books ds f
    ≡ says.Clock d.candidate.gateway (line f.clock now) (floor_of d.candidate.gateway books) ∷ []
clock_told now books ds d f h same =
    ap (λ g. cond (sends g ds) (says.Clock g (line f.clock now) (floor_of g books) ∷ []) []) same
    ∙ ap (λ b. cond b (says.Clock d.candidate.gateway (line f.clock now) (floor_of d.candidate.gateway books) ∷ []) [])
    (sends_it ds d h)

-- and the device's counters
device_told : (k : Knows) (d : ToSend) (addr : ℕ) (held : ℕ × Device) (session : List ℕ) → addr_in d.frame ≡ Some addr
    → device_with addr k.devices ≡ Some held → session_at addr k.sessions ≡ Some session
    → send_entries k.devices k.sessions d
    ≡ (says.Device addr session held.1.up held.1.down ∷ taken_entries addr d.frame) ++ (sent_of d.candidate ∷ [])
device_told k d addr held session at has keyed =
    ap (λ o. addressed k.devices k.sessions d.frame o ++ (sent_of d.candidate ∷ [])) at
    ∙ ap (λ o. (device_entries addr (option_map (λ h. counters_of h.1) o) (session_at addr k.sessions) ++ taken_entries addr d.frame)
    ++ (sent_of d.candidate ∷ [])) has
    ∙ ap (λ o. (device_entries addr (Some (counters_of held.1)) o ++ taken_entries addr d.frame) ++ (sent_of d.candidate ∷ [])) keyed

pub batches_tell_what_is_sent : BatchesTellWhatIsSent
batches_tell_what_is_sent k ds d f addr held session h known at has keyed =
    let seen = found (λ g. g.forwarder.gateway == d.candidate.gateway) k.forwarders f known in
    let w = around ds d h in
    let clocks = flat_around (clock_if_sends k.now k.books ds) k.forwarders f seen.within
    ∙ ap (λ l. flat_map (clock_if_sends k.now k.books ds) seen.within.front
    ++ (l ++ flat_map (clock_if_sends k.now k.books ds) seen.within.rest))
    (clock_told k.now k.books ds d f h (eqb-true _ _ seen.passes)) in
    let sendings = flat_around (send_entries k.devices k.sessions) ds d w
    ∙ ap (λ l. flat_map (send_entries k.devices k.sessions) w.front ++ (l ++ flat_map (send_entries k.devices k.sessions) w.rest))
    (device_told k d addr held session at has keyed) in
    record {
      before = flat_map (clock_if_sends k.now k.books ds) seen.within.front;
      between = flat_map (clock_if_sends k.now k.books ds) seen.within.rest ++ flat_map (send_entries k.devices k.sessions) w.front;
      behind = flat_map (send_entries k.devices k.sessions) w.rest;
      is = ap (λ l. l ++ flat_map (send_entries k.devices k.sessions) ds) clocks
          ∙ ap (λ l. (flat_map (clock_if_sends k.now k.books ds) seen.within.front
          ++ (says.Clock d.candidate.gateway (line f.clock k.now) (floor_of d.candidate.gateway k.books)
          ∷ flat_map (clock_if_sends k.now k.books ds) seen.within.rest)) ++ l) sendings
          ∙ arranged _ _ _ _ _ _ _ _;
    }
