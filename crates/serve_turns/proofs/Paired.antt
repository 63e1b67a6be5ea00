-- Gateways with what is set at the same places.
use Rattle.std.proofs.Common.{◌≡◌, ◌++◌, ◌<◌, ◌+◌, ◌∙◌, List, [], ◌∷◌, length, take, slice_get, get_or, zip, ℕ, zero, suc, refl, ap, arith, sym}
use Rattle.std.specs.List.{All}
use Rattle.std.proofs.lemmas.List.{length-take-le, take_more}
use Rattle.forwarder_sessions.specs.declared.session.Forwarder.{Forwarder}
use Rattle.serve_settings.specs.declared.forwarder as settings
use Rattle.server_desk.specs.declared.setting.GatewaySetting.{GatewaySetting}
use Rattle.serve_turns.specs.Forwarders.{forwarder_of, forwarders_of, one_of, with_high}

one_more : (gs : List GatewaySetting) (g : GatewaySetting) (fs : List settings.Forwarder.Forwarder)
    → forwarders_of (gs ++ g ∷ []) fs ≡ forwarders_of gs fs ++ one_of g (slice_get fs (length gs))
one_more [] g [] = refl
one_more [] g (f ∷ fs) = refl
one_more (x ∷ gs) g [] = refl
one_more (x ∷ gs) g (f ∷ fs) = ap (λ l. forwarder_of x f ∷ l) (one_more gs g fs)

pub next_one : (gs : List GatewaySetting) (d : GatewaySetting) (fs : List settings.Forwarder.Forwarder) (i : ℕ)
    → i < length gs → forwarders_of (take (i + 1) gs) fs ≡ forwarders_of (take i gs) fs ++ one_of (get_or gs i d) (slice_get fs i)
next_one gs d fs i within =
    ap (λ l. forwarders_of l fs) (take_more gs i d within)
    ∙ one_more (take i gs) (get_or gs i d) fs
    ∙ ap (λ n. forwarders_of (take i gs) fs ++ one_of (get_or gs i d) (slice_get fs n)) (length-take-le i gs (omega (arith, within)))

pub paired_next : (gs : List GatewaySetting) (fs : List settings.Forwarder.Forwarder) (i : ℕ) (d : GatewaySetting)
    (here done : List Forwarder) → i < length gs → here ≡ forwarders_of (take i gs) fs
    → done ≡ here ++ one_of (get_or gs i d) (slice_get fs i) → done ≡ forwarders_of (take (i + 1) gs) fs
paired_next gs fs i d here done within so_far next =
    next ∙ ap (λ l. l ++ one_of (get_or gs i d) (slice_get fs i)) so_far ∙ sym (next_one gs d fs i within)

-- the same with a number at each place

one_high : (fs : List Forwarder) (f : Forwarder) (highs : List ℕ)
    → zip (fs ++ f ∷ []) highs ≡ zip fs highs ++ with_high f (slice_get highs (length fs))
one_high [] f [] = refl
one_high [] f (h ∷ highs) = refl
one_high (x ∷ fs) f [] = refl
one_high (x ∷ fs) f (h ∷ highs) = ap (λ l. (x, h) ∷ l) (one_high fs f highs)

pub high_next : (fs : List Forwarder) (highs : List ℕ) (i : ℕ) (d : Forwarder) (here done : List (Forwarder × ℕ)) → i < length fs
    → here ≡ zip (take i fs) highs → done ≡ here ++ with_high (get_or fs i d) (slice_get highs i)
    → done ≡ zip (take (i + 1) fs) highs
high_next fs highs i d here done within so_far next =
    next
    ∙ ap (λ l. l ++ with_high (get_or fs i d) (slice_get highs i)) so_far
    ∙ ap (λ n. zip (take i fs) highs ++ with_high (get_or fs i d) (slice_get highs n))
    (sym (length-take-le i fs (omega (arith, within))))
    ∙ sym (one_high (take i fs) (get_or fs i d) highs)
    ∙ ap (λ l. zip l highs) (sym (take_more fs i d within))

pub highs_of : (P : ℕ → Type 0) (fs : List Forwarder) (highs : List ℕ) → All P highs → All (λ (f : Forwarder × ℕ). P f.1) (zip fs highs)
highs_of P [] highs all k d within = absurd (omega (arith, within))
highs_of P (f ∷ fs) [] all k d within = absurd (omega (arith, within))
highs_of P (f ∷ fs) (h ∷ highs) all zero d within = all 0 0 (omega arith)
highs_of P (f ∷ fs) (h ∷ highs) all (suc k) d within =
    highs_of P fs highs (λ i e w. all (suc i) e (omega (arith, w))) k d (omega (arith, within))
