use Rattle.std.proofs.Common.{◌≡◌, ◌≢◌, ℕ, Bool, true, false, List, [], ◌∷◌, cond, find, All}
use Rattle.std.proofs.Common.{Some, None, refl, sym, ap, ◌∙◌}
use Rattle.std.specs.Str.{bytes_eq}
use Rattle.std.proofs.lemmas.Slice.Eq.{bytes_eq-Decides}
use Rattle.std.proofs.lemmas.List.Elements.{All-head, All-tail}
use Rattle.server_desk.specs.declared.setting.GatewaySetting.{GatewaySetting}
use Rattle.serve_journal.specs.Journal.{Mast}
use Rattle.serve_settings.specs.declared.forwarder.Forwarder.{Forwarder}
use Rattle.serve_opening.specs.Gateways.{has_eui, without_first}
use Rattle.serve_opening.specs.OwnLaw.{each_known, EachTakesItsOwn}
use Rattle.serve_opening.proofs.Accepted.{head_of, tail_of}

-- What one packet forwarder's gateway takes out no other one looks for.

not_both : (e f eui : List ℕ) → e ≢ f → bytes_eq eui e ≡ true → (t : Bool) → bytes_eq eui f ≡ t → t ≡ false
not_both e f eui differ is false at = refl
not_both e f eui differ is true at =
    absurd (differ (sym ((bytes_eq-Decides eui e).0 is) ∙ (bytes_eq-Decides eui f).0 at))

other_by : (e f : List ℕ) (m : Mast) (ms : List Mast) (t : Bool) → e ≢ f → has_eui e m ≡ t
    → find (has_eui f) (without_first (has_eui e) ms) ≡ find (has_eui f) ms
    → find (has_eui f) (without_first (has_eui e) (m ∷ ms)) ≡ find (has_eui f) (m ∷ ms)
other_by e f m ms true differ is rest =
    let other : has_eui f m ≡ false = not_both e f m.eui differ is (has_eui f m) refl in
    rw (is, other) refl
other_by e f m ms false differ is rest = rw is (ap (λ o. cond (has_eui f m) (Some m) o) rest)

find_other : (e f : List ℕ) (ms : List Mast) → e ≢ f
    → find (has_eui f) (without_first (has_eui e) ms) ≡ find (has_eui f) ms
find_other e f [] differ = refl
find_other e f (m ∷ ms) differ = other_by e f m ms (has_eui e m) differ refl (find_other e f ms differ)

unmoved : (e : List ℕ) (gs : List GatewaySetting) (fs : List Forwarder) (ms : List Mast) → All (λ f. e ≢ f.eui) fs
    → each_known gs fs (without_first (has_eui e) ms) ≡ each_known gs fs ms
unmoved e [] fs ms a = refl
unmoved e (g ∷ gs) [] ms a = ap (λ l. (g, None) ∷ l) (unmoved e gs [] ms a)
unmoved e (g ∷ gs) (f ∷ fs) ms a =
    let here = find_other e f.eui ms (All-head (λ f. e ≢ f.eui) f fs a) in
    let rest = unmoved e gs fs ms (All-tail (λ f. e ≢ f.eui) f fs a) in
    ap (λ o. (g, o) ∷ each_known gs fs (without_first (has_eui e) ms)) here ∙ ap (λ l. (g, find (has_eui f.eui) ms) ∷ l) rest

pub each_takes_its_own : EachTakesItsOwn
each_takes_its_own [] fs ms a = refl
each_takes_its_own (g ∷ gs) [] ms a = ap (λ l. (g, None) ∷ l) (each_takes_its_own gs [] ms a)
each_takes_its_own (g ∷ gs) (f ∷ fs) ms a =
    let differ : Forwarder → Forwarder → Type 0 = λ f e. f.eui ≢ e.eui in
    ap (λ l. (g, find (has_eui f.eui) ms) ∷ l)
    (each_takes_its_own gs fs (without_first (has_eui f.eui) ms) (tail_of differ f fs a)
    ∙ unmoved f.eui gs fs ms (head_of differ f fs a))
