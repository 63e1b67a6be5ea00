use Rattle.std.proofs.Common.{◌≡◌, ◌≢◌, ℕ, suc, ◌≤◌, List, [], ◌∷◌, length, map, find, get_or, All, AllPairs, IsSome}
use Rattle.std.proofs.Common.{Option, Some, None, refl, sym, ap, subst, ◌∙◌, arith}
use Rattle.std.proofs.lemmas.List.{length-map}
use Rattle.std.proofs.lemmas.Simd.{map-map}
use Rattle.std.proofs.lemmas.List.Elements.{All-nil, All-cons, All-head, All-tail, All-map}
use Rattle.std.proofs.lemmas.List.Kept.{AllPairs-cons}
use Rattle.server_desk.specs.Band.{band_of}
use Rattle.gateway_book.specs.Book.{Book}
use Rattle.server_desk.specs.declared.setting.GatewaySetting.{GatewaySetting}
use Rattle.server_desk.specs.declared.setting.DeviceSetting.{DeviceSetting}
use Rattle.server_desk.specs.Settings.{AreSettings, IsFrom, IsGatewayInRange, IsDeviceInRange}
use Rattle.server_core.specs.Opened.{IsWhole}
use Rattle.serve_journal.specs.Journal.{Node}
use Rattle.serve_opening.specs.Devices.{raised, raised_by, is_same, session_at}
use Rattle.serve_opening.specs.Faults.{most_down}
use Rattle.serve_opening.specs.Gateways.{setting_of}
use Rattle.serve_opening.proofs.Firsts.{All-find}

-- What a server opens with are accepted settings.

pub head_of : {X : Type 0} (R : X → X → Type 0) (x : X) (xs : List X) → AllPairs R (x ∷ xs) → All (R x) xs
head_of R x xs h k d l = h 0 (suc k) d (omega arith) (omega arith)

pub tail_of : {X : Type 0} (R : X → X → Type 0) (x : X) (xs : List X) → AllPairs R (x ∷ xs) → AllPairs R xs
tail_of R x xs h i j d l g = h (suc i) (suc j) d (omega arith) (omega arith)

-- two lists of things with the same keys
module _ {X Y : Type 0} (f : X → ℕ) (g : Y → ℕ) where
  -- what holds of the keys of one holds of those of the other
  all_by : (P : ℕ → Type 0) (xs : List X) (ys : List Y) → map f xs ≡ map g ys → All (λ x. P (f x)) xs → All (λ y. P (g y)) ys
  all_by P [] [] e a = All-nil (λ y. P (g y))
  all_by P [] (y ∷ ys) e a = absurd (cc)
  all_by P (x ∷ xs) [] e a = absurd (cc)
  all_by P (x ∷ xs) (y ∷ ys) e a =
      let same : f x ≡ g y = cc in
      All-cons (λ y. P (g y)) y ys (subst P same (All-head (λ x. P (f x)) x xs a))
      (all_by P xs ys (cc) (All-tail (λ x. P (f x)) x xs a))

  -- where the keys of one differ, so do those of the other
  distinct_by : (xs : List X) (ys : List Y) → map f xs ≡ map g ys → AllPairs (λ x y. f x ≢ f y) xs → AllPairs (λ x y. g x ≢ g y) ys
  distinct_by [] [] e a = λ i j d l h. absurd (omega arith)
  distinct_by [] (y ∷ ys) e a = absurd (cc)
  distinct_by (x ∷ xs) [] e a = absurd (cc)
  distinct_by (x ∷ xs) (y ∷ ys) e a =
      let same : f x ≡ g y = cc in
      AllPairs-cons (λ x y. g x ≢ g y) y ys
      (all_by (λ n. g y ≢ n) xs ys (cc) (subst (λ n. All (λ z. n ≢ f z) xs) same (head_of (λ x y. f x ≢ f y) x xs a)))
      (distinct_by xs ys (cc) (tail_of (λ x y. f x ≢ f y) x xs a))

  same_length : (xs : List X) (ys : List Y) → map f xs ≡ map g ys → length xs ≡ length ys
  same_length xs ys e = sym (length-map xs f) ∙ ap length e ∙ length-map ys g

addr_by : (d : DeviceSetting) (o : Option Node) → (raised_by d o).addr ≡ d.addr
addr_by d None = refl
addr_by d (Some n) = refl

rx2_by : (d : DeviceSetting) (o : Option Node) → IsSome (band_of d.rx2_freq d.rx2_rate)
    → IsSome (band_of (raised_by d o).rx2_freq (raised_by d o).rx2_rate)
rx2_by d None h = h
rx2_by d (Some n) h = h

in_range_by : (d : DeviceSetting) (o : Option Node) → ((n : Node) → o ≡ Some n → n.down ≤ most_down) → IsDeviceInRange d
    → IsDeviceInRange (raised_by d o)
in_range_by d None low h = h
in_range_by d (Some n) low h =
    let below = low n refl in
    record { delay = h.delay; offset = h.offset; down = (omega arith, omega (arith, below, h.down)) }

addrs_kept : (ns : List Node) (ds : List DeviceSetting) → map (λ d. d.addr) ds ≡ map (λ d. d.addr) (map (raised ns) ds)
addrs_kept ns [] = refl
addrs_kept ns (d ∷ ds) = cc (addr_by d (find (is_same (session_at d)) ns), addrs_kept ns ds)

ids_kept : (gs : List GatewaySetting) (bs : List Book) → map (λ b. b.id) bs ≡ map (λ g. g.id) gs
    → map (λ g. g.id) gs ≡ map (λ g. g.id) (map setting_of bs)
ids_kept gs bs e = sym e ∙ sym (map-map (λ (g : GatewaySetting). g.id) setting_of bs)

-- the gateways of books that have their numbers, and the devices with counters of a journal that has none above 2^32
pub accepted_again : (gs : List GatewaySetting) (ds : List DeviceSetting) (bs : List Book) (ns : List Node) → AreSettings gs ds
    → map (λ b. b.id) bs ≡ map (λ g. g.id) gs → All IsWhole bs → All (λ n. n.down ≤ most_down) ns
    → AreSettings (map setting_of bs) (map (raised ns) ds)
accepted_again gs ds bs ns h ids whole low =
    let key : GatewaySetting → ℕ = λ g. g.id in
    let addr : DeviceSetting → ℕ = λ d. d.addr in
    let book_id : Book → ℕ = λ b. b.id in
    let kept = ids_kept gs bs ids in
    let many : length gs ≡ length (map setting_of bs) = same_length key key gs (map setting_of bs) kept in
    let found = λ (d : DeviceSetting) (n : Node) (e : find (is_same (session_at d)) ns ≡ Some n). All-find (is_same (session_at d))
    (λ n. n.down ≤ most_down) ns low n e in
    record {
      gateway_count = subst (IsFrom 1 64) many h.gateway_count;
      device_count = subst (IsFrom 0 1024) (sym (length-map ds (raised ns))) h.device_count;
      gateways_in_range = All-map IsGatewayInRange setting_of bs
          (λ k d l.
          let w = whole k d l in
          record {
            id = all_by key book_id (IsFrom 1 65535) gs bs (sym ids) (λ k d l. (h.gateways_in_range k d l).id) k d l;
            cap = (omega (arith, w.opened), omega (arith, w.capped));
            gap = (omega arith, omega (arith, w.rested));
          });
      ids_differ = distinct_by key key gs (map setting_of bs) kept h.ids_differ;
      devices_in_range = All-map IsDeviceInRange (raised ns) ds
          (λ k d l. in_range_by (get_or ds k d) (find (is_same (session_at (get_or ds k d))) ns) (found (get_or ds k d)) (h.devices_in_range k d l));
      rx2_in_bands = All-map (λ d. IsSome (band_of d.rx2_freq d.rx2_rate)) (raised ns) ds
          (λ k d l. rx2_by (get_or ds k d) (find (is_same (session_at (get_or ds k d))) ns) (h.rx2_in_bands k d l));
      addrs_differ = distinct_by addr addr ds (map (raised ns) ds) (addrs_kept ns ds) h.addrs_differ;
    }
