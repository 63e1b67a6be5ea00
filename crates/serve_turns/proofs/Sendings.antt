-- The downlinks of a pass.
use Rattle.std.proofs.Common.{◌≡◌, ◌∙◌, ◌++◌, ◌<◌, ◌+◌, ◌==◌, Bool, true, false, List, [], ◌∷◌, ℕ, Option, Some, None, ap, get_or, is_some, length, length-set, map, nat_lt, refl, slice_set, subst, sym, take, true≢false, zip}
use Rattle.std.proofs.lemmas.Bool.{ne_eqb}
use Rattle.std.proofs.lemmas.List.{map-append}
use Rattle.server_core.specs.declared.entry.Line.{Line}
use Rattle.forwarder_sessions.specs.Sessions.{Known}
use Rattle.server_core.specs.Server.{seen}
use Rattle.serve_downlinks.specs.Downlinks.{ToSend, downlinks}
use Rattle.serve_downlinks.specs.Batch.{knows, batch_entries, batch_text}
use Rattle.serve_turns.specs.declared.answerer.Answerer.{Answerer}
use Rattle.serve_turns.specs.declared.sending.Written.TheVariants.{NotAppended}
use Rattle.serve_turns.specs.Effects.{Effect, Adds, AddsFront}
use Rattle.serve_turns.specs.Kept.{Kept}
use Rattle.serve_turns.specs.Life.{Life, IsAlive, IsReady, Makes, telling}
use Rattle.serve_turns.specs.Sending.{Asked, Delivery, asked, asking, asking_effects, asking_at, asking_effects_at, asking_with, asking_effects_with, asking_kept, asking_kept_effects, after_kept_back, delivered_as, delivering, keeping_back, kept_back, sendable, sending, sending_if_kept, sending_effects, sending_effects_if_kept, sent_one, some_kept_back, unwritten}
use Rattle.serve_turns.specs.Turn.{Did, Broke}
use Rattle.serve_turns.proofs.Effects.{adds_none, adds_then}
use Rattle.serve_turns.proofs.Known.{batch_same}
use Rattle.serve_turns.proofs.Lists.{zip_set}
use Rattle.serve_turns.proofs.Parts.{nothing_front, whole_front}

-- what the world around answers where it is not asked
abbrev pub unasked : Delivery
unasked = record { written = NotAppended; went = [] }

none_life : (now : ℕ) (d : Delivery) (ds : List ToSend) (o : Option Kept) (l : Life) → l ≡ asking_with now d ds [] o l
none_life now d ds None l = refl
none_life now d ds (Some k) l = refl

none_effects : (now : ℕ) (d : Delivery) (ds : List ToSend) (o : Option Kept) (l : Life) → [] ≡ asking_effects_with now d ds [] o l
none_effects now d ds None l = refl
none_effects now d ds (Some k) l = refl

-- there are some, and a journal is kept
some_life : (now : ℕ) (d : Delivery) (ds : List ToSend) (asks : List Asked) (k : Kept) (l : Life) → (asks ≡ [] → ⊥)
    → asking_at now d ds asks k k.failed_at l ≡ asking now d ds asks k l
some_life now d ds [] k l some = absurd (some refl)
some_life now d ds (a ∷ asks) k l some = refl

some_effects : (now : ℕ) (d : Delivery) (ds : List ToSend) (asks : List Asked) (k : Kept) (l : Life) → (asks ≡ [] → ⊥)
    → asking_effects_at now d ds asks k k.failed_at l ≡ asking_effects now d ds asks k l
some_effects now d ds [] k l some = absurd (some refl)
some_effects now d ds (a ∷ asks) k l some = refl

-- whether there are any

pub none_asked : (asks : List Asked) → true ≡ (length asks == 0) → asks ≡ []
none_asked [] e = refl
none_asked (a ∷ asks) e = absurd (true≢false (e ∙ ne_eqb (length (a ∷ asks)) 0 (λ h. cc (h))))

pub some_asked : (asks : List Asked) → false ≡ (length asks == 0) → asks ≡ [] → ⊥
some_asked [] e none = cc (e)
some_asked (a ∷ asks) e none = cc (none)

-- whether a write has failed

pub never : (o : Option ℕ) → is_some o ≡ false → o ≡ None
never None e = refl
never (Some at) e = absurd (cc (e))

pub once : (o : Option ℕ) → is_some o ≡ true → (at : ℕ) × (o ≡ Some at)
once None e = absurd (cc (e))
once (Some at) e = (at, refl)

-- whether a journal is kept

pub no_keeping : {X : Type 0} (o : Option X) → is_some o ≡ false → o ≡ None
no_keeping None e = refl
no_keeping (Some k) e = absurd (cc (e))

pub kept_some : {X : Type 0} (o : Option X) → is_some o ≡ true → (k : X) × (o ≡ Some k)
kept_some None e = absurd (cc (e))
kept_some (Some k) e = (k, refl)

-- one more was sent
pub sends_next : (h0 h1 h2 : Option (List Effect)) (asks : List Asked) (went : List Bool) (i : ℕ) (a : Asked) (r : Bool)
    → i < length asks → length went ≡ length asks → a ≡ get_or asks i a
    → Adds h0 h1 (map sent_one (zip (take i asks) (take i went))) → Adds h1 h2 (sent_one (a, r) ∷ [])
    → (length (slice_set went i r) ≡ length asks)
    × Adds h0 h2 (map sent_one (zip (take (i + 1) asks) (take (i + 1) (slice_set went i r))))
sends_next h0 h1 h2 asks went i a r within same is so_far next = (
  length-set went i r ∙ same,
  subst (λ es. Adds h0 h2 es)
      (sym (map-append sent_one (zip (take i asks) (take i went)) ((a, r) ∷ []))
      ∙ ap (map sent_one)
      (ap (λ x. zip (take i asks) (take i went) ++ (x, r) ∷ []) is ∙ sym (zip_set asks went i a r within same)))
      (adds_then h0 h1 h2 (map sent_one (zip (take i asks) (take i went))) (sent_one (a, r) ∷ []) so_far next),
)

module _ {S A R : Type 0} {C : _} (now : ℕ) (ds : List ToSend) (asks : List Asked) (old : Answerer S A R C) where
  -- there are none
  pub asks_none : (h : Option (List Effect)) → IsReady old → asks ≡ []
      → Did h h (asking_kept now ds asks) (asking_kept_effects now ds asks) old old
  asks_none h ready none =
      subst (λ x. Did h h (asking_kept now ds x) (asking_kept_effects now ds x) old old) (sym none)
      (record {
        how = unasked;
        ready = ready;
        lives = λ l alive. subst (λ x. IsAlive x old) (none_life now unasked ds l.kept l) alive;
        effects = λ l alive. subst (λ es. Adds h h es) (none_effects now unasked ds l.kept l) (adds_none h);
      })

  -- no journal is kept
  pub asks_unkept : (h : Option (List Effect)) → IsReady old → old.keeping ≡ None
      → Did h h (asking_kept now ds asks) (asking_kept_effects now ds asks) old old
  asks_unkept h ready none =
      record {
        how = unasked;
        ready = ready;
        lives = λ l alive.
            subst (λ o. IsAlive (asking_with now unasked ds asks o l) old) (sym none ∙ alive.kept) alive;
        effects = λ l alive.
            subst (λ o. Adds h h (asking_effects_with now unasked ds asks o l)) (sym none ∙ alive.kept) (adds_none h);
      }

  -- a write has failed
  pub asks_failed : (h : Option (List Effect)) (k : Kept) (at : ℕ) (new : Answerer S A R C) → (asks ≡ [] → ⊥)
      → old.keeping ≡ Some k → k.failed_at ≡ Some at → Makes (telling (unwritten asks)) old new
      → Did h h (asking_kept now ds asks) (asking_kept_effects now ds asks) old new
  asks_failed h k at new some keeps failed made =
      record {
        how = unasked;
        ready = made.ready;
        lives = λ l alive.
            subst (λ o. IsAlive (asking_with now unasked ds asks o l) new) (sym keeps ∙ alive.kept)
            (subst (λ x. IsAlive x new) (some_life now unasked ds asks k l some)
            (subst (λ f. IsAlive (asking_at now unasked ds asks k f l) new) (sym failed) (made.goes l alive)));
        effects = λ l alive.
            subst (λ o. Adds h h (asking_effects_with now unasked ds asks o l)) (sym keeps ∙ alive.kept)
            (subst (λ es. Adds h h es) (some_effects now unasked ds asks k l some)
            (subst (λ f. Adds h h (asking_effects_at now unasked ds asks k f l)) (sym failed) (adds_none h)));
      }

  -- what is done where none has
  module _ (h0 h1 : Option (List Effect)) (k : Kept) (d : Delivery) (batch : List ℕ) (some : asks ≡ [] → ⊥)
      (keeps : old.keeping ≡ Some k) (well : k.failed_at ≡ None)
      (is : batch ≡ batch_text (batch_entries (knows (seen old.server) old.forwarders.sessions.items k.sessions now) ds))
      (adds : Adds h0 h1 (delivering d batch asks)) where
    effects_then : (l : Life) → IsAlive l old → Adds h0 h1 (asking_kept_effects now ds asks d l)
    effects_then l alive =
        subst (λ o. Adds h0 h1 (asking_effects_with now d ds asks o l)) (sym keeps ∙ alive.kept)
        (subst (λ es. Adds h0 h1 es) (some_effects now d ds asks k l some)
        (subst (λ f. Adds h0 h1 (asking_effects_at now d ds asks k f l)) (sym well)
        (subst (λ b. Adds h0 h1 (delivering d b asks)) (is ∙ batch_same old k now l alive ds) adds)))

    pub asks_done : (new : Answerer S A R C) → Makes (delivered_as d.written now d.went (length batch) asks k) old new
        → Did h0 h1 (asking_kept now ds asks) (asking_kept_effects now ds asks) old new
    asks_done new made =
        record {
          how = d;
          ready = made.ready;
          lives = λ l alive.
              subst (λ o. IsAlive (asking_with now d ds asks o l) new) (sym keeps ∙ alive.kept)
              (subst (λ x. IsAlive x new) (some_life now d ds asks k l some)
              (subst (λ f. IsAlive (asking_at now d ds asks k f l) new) (sym well)
              (subst (λ b. IsAlive (delivered_as d.written now d.went (length b) asks k l) new)
              (is ∙ batch_same old k now l alive ds) (made.goes l alive))));
          effects = effects_then;
        }

    -- all was sent, but it could not be told for want of memory
    pub asks_untold : Broke h0 h1 (asking_kept_effects now ds asks) old
    asks_untold =
        record { how = d; effects = λ l alive. whole_front h0 h1 (asking_kept_effects now ds asks d l) (effects_then l alive) }

  -- nothing was done for want of memory
  pub asks_broke : (h : Option (List Effect)) → Broke h h (asking_kept_effects now ds asks) old
  asks_broke h = record { how = unasked; effects = λ l alive. nothing_front h (asking_kept_effects now ds asks unasked l) }

-- what is kept back of some is told, by what is known of the packet forwarders
abbrev pub told_by : List Known → List ToSend → Life → Life
told_by known ds l = keeping_back (some_kept_back known ds) (telling (kept_back known ds) l)

-- whether one is, by how many may be sent
pub fewer_kept_back : (known : List Known) (found ready : List ToSend) (few all : ℕ) → few ≡ length ready → all ≡ length found
    → ready ≡ sendable known found → nat_lt few all ≡ some_kept_back known found
fewer_kept_back known found ready few all are have may =
    ap (λ n. nat_lt n all) (are ∙ ap length may) ∙ ap (nat_lt (length (sendable known found))) have

module _ {S A R B : Type 0} {C : _} (now : ℕ) (lines : List (Line B)) (old : Answerer S A R C) where
  -- no journal is kept
  pub sends_unkept : (h : Option (List Effect)) → IsReady old → old.keeping ≡ None
      → Did h h (sending now lines) (sending_effects now lines) old old
  sends_unkept h ready none =
      record {
        how = unasked;
        ready = ready;
        lives = λ l alive.
            subst (λ o. IsAlive (sending_if_kept now unasked (downlinks lines) o l) old) (sym none ∙ alive.kept) alive;
        effects = λ l alive.
            subst (λ o. Adds h h (sending_effects_if_kept now unasked (downlinks lines) o l)) (sym none ∙ alive.kept) (adds_none h);
      }

  pub sends_broke : (h : Option (List Effect)) → Broke h h (sending_effects now lines) old
  sends_broke h = record { how = unasked; effects = λ l alive. nothing_front h (sending_effects now lines unasked l) }

  -- those that may not be sent are told, and the others are to be sent
  module _ (h0 h1 : Option (List Effect)) (k : Kept) (found ready : List ToSend) (asks : List Asked) (middle : Answerer S A R C)
      (keeps : old.keeping ≡ Some k) (all : found ≡ downlinks lines)
      (may : ready ≡ sendable old.forwarders.sessions.items found) (are : asks ≡ asked old.forwarders.sessions.items found)
      (told : Makes (told_by old.forwarders.sessions.items found) old middle) where
    abbrev here : Life → List ToSend → Life
    here l ds = after_kept_back ds l

    -- by what is known in its life
    module _ (l : Life) (alive : IsAlive l old) where
      ready_is : ready ≡ sendable l.known (downlinks lines)
      ready_is = may ∙ ap (λ x. sendable x found) alive.known ∙ ap (sendable l.known) all

      asks_are : asks ≡ asked l.known (downlinks lines)
      asks_are = are ∙ ap (λ x. asked x found) alive.known ∙ ap (asked l.known) all

      middle_alive : IsAlive (here l (downlinks lines)) middle
      middle_alive =
          subst (λ ds. IsAlive (here l ds) middle) all
          (subst (λ ks. IsAlive (told_by ks found l) middle) alive.known (told.goes l alive))

    pub sends_done : (new : Answerer S A R C) → Did h0 h1 (asking_kept now ready asks) (asking_kept_effects now ready asks) middle new
        → Did h0 h1 (sending now lines) (sending_effects now lines) old new
    sends_done new did =
        record {
          how = did.how;
          ready = did.ready;
          lives = λ l alive.
              let ds = downlinks lines in
              subst (λ o. IsAlive (sending_if_kept now did.how ds o l) new) (sym keeps ∙ alive.kept)
              (subst (λ x. IsAlive (asking_kept now x (asked l.known ds) did.how (here l ds)) new) (ready_is l alive)
              (subst (λ x. IsAlive (asking_kept now ready x did.how (here l ds)) new) (asks_are l alive)
              (did.lives (here l ds) (middle_alive l alive))));
          effects = λ l alive.
              let ds = downlinks lines in
              subst (λ o. Adds h0 h1 (sending_effects_if_kept now did.how ds o l)) (sym keeps ∙ alive.kept)
              (subst (λ x. Adds h0 h1 (asking_kept_effects now x (asked l.known ds) did.how (here l ds))) (ready_is l alive)
              (subst (λ x. Adds h0 h1 (asking_kept_effects now ready x did.how (here l ds))) (asks_are l alive)
              (did.effects (here l ds) (middle_alive l alive))));
        }

    pub sends_cut : Broke h0 h1 (asking_kept_effects now ready asks) middle → Broke h0 h1 (sending_effects now lines) old
    sends_cut broke =
        record {
          how = broke.how;
          effects = λ l alive.
              let ds = downlinks lines in
              subst (λ o. AddsFront h0 h1 (sending_effects_if_kept now broke.how ds o l)) (sym keeps ∙ alive.kept)
              (subst (λ x. AddsFront h0 h1 (asking_kept_effects now x (asked l.known ds) broke.how (here l ds))) (ready_is l alive)
              (subst (λ x. AddsFront h0 h1 (asking_kept_effects now ready x broke.how (here l ds))) (asks_are l alive)
              (broke.effects (here l ds) (middle_alive l alive))));
        }
