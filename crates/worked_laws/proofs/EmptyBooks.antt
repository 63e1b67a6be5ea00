-- The headline of every run is that of a server which is opened on empty books: the law of such servers says no less.
use Rattle.server_core.proofs.Words
use Words.{All, All-cons, All-head, All-nil, All-tail, Contains, arith, subst, sym, List, Some, [], map, map-map, refl, slice_get}
use Words.{ℕ, ◌∷◌, ◌≡◌, ◌≢◌}
use Words.{Reservation, Book, Gateway, GatewaySetting, IsGatewayInRange, SettingLists, Run}
use Words.{AreBooksFor, IsWhole, opening, gateway_of, opened_gateway, run, run_from, orderly_nil, kept-nil, from_map, net}
use Rattle.server_core.specs.Headline.{KeepsHeadline, EveryRunKeepsHeadline}
use Rattle.server_core.specs.Resumed.{EveryResumedRunKeepsHeadline, HasNoNumbers, KeepsResumed, WasHeld}
use Rattle.server_core.specs.Staying.{unused_book}

books_for : (gs : List GatewaySetting) → AreBooksFor gs (map unused_book gs)
books_for [] = tt
books_for (g ∷ gs) = (record { id = refl; rules = refl }, books_for gs)

whole_by : (g : GatewaySetting) → IsGatewayInRange g → IsWhole (unused_book g)
unfolding net
whole_by g range =
    let o = orderly_nil g.gap range.gap.1 in
    record {
      opened = omega (arith, range.cap.0);
      capped = range.cap.1;
      counted = omega arith;
      by_start = o.by_start;
      rested = o.rested;
      lawful = o.lawful;
      kept_whole = kept-nil 0;
      covered = omega arith;
      bounded = omega arith;
    }

all_whole : (gs : List GatewaySetting) → All IsGatewayInRange gs → All IsWhole (map unused_book gs)
all_whole [] all = All-nil IsWhole
all_whole (g ∷ gs) all = All-cons IsWhole (unused_book g) (map unused_book gs)
    (whole_by g (All-head IsGatewayInRange g gs all)) (all_whole gs (All-tail IsGatewayInRange g gs all))

all_unnumbered : (gs : List GatewaySetting) → All HasNoNumbers (map unused_book gs)
all_unnumbered [] = All-nil HasNoNumbers
all_unnumbered (g ∷ gs) = All-cons HasNoNumbers (unused_book g) (map unused_book gs) (All-nil (λ r. r.number ≡ 0))
    (all_unnumbered gs)

-- none of them held a reservation
none_held : (gs : List GatewaySetting) (i : ℕ) (a : Reservation) → WasHeld (map unused_book gs) i a → ⊥
none_held gs i a held =
    let b = from_map unused_book gs i held.book held.there in
    absurd (omega (arith, (subst (λ (x : Book). Contains x.list a) (sym b.2) held.member).1))

-- so each has a number
headline : (settings : SettingLists) (r : Run) → KeepsResumed settings (map unused_book settings.gateways) r
    → KeepsHeadline settings r
headline settings r keeps =
    let numbered : (i k : ℕ) (g : Gateway) (a : Reservation) → slice_get r.world.gateways i ≡ Some g
    → slice_get g.state.list k ≡ Some a → a.number ≢ 0 =
    λ i k g a e x zero. none_held settings.gateways i a (keeps.old i k g a e x zero) in
    record {
      disjoint = keeps.disjoint;
      hour = keeps.hour;
      on_air = keeps.on_air;
      once = λ i j k l g h a b e x f y. keeps.once i j k l g h a b e x f y (numbered i k g a e x);
      own = λ i k g a e x. keeps.own i k g a e x (numbered i k g a e x);
    }

pub every_run : EveryResumedRunKeepsHeadline → EveryRunKeepsHeadline
every_run law settings are limits steps =
    let gs = settings.gateways in
    let keeps = law settings are limits (map unused_book gs) (books_for gs) (all_whole gs are.gateways_in_range)
    (all_unnumbered gs) steps in
    let same : map gateway_of (map unused_book gs) ≡ map opened_gateway gs = map-map gateway_of unused_book gs in
    headline settings (run settings limits steps) (subst (λ (l : List Gateway). KeepsResumed settings (map unused_book gs)
    (run_from (record (opening settings limits) { gateways = l }) steps)) same keeps)
