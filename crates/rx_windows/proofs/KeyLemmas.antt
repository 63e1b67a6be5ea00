-- Sorting by the key of SNR, RSSI and gateway ranks copies of different gateways.
use Rattle.std.proofs.Common.{◌≡◌, ℕ, nat_lt, int_lt, ◌⊎◌, inl, inr, Bool, true, false, true≢false, List, get_or, AllPairs, ℤ}
use Rattle.std.proofs.Common.{refl, sym, ◌∙◌, arith, is_lt, int_cmp, nat_cmp, nat_eq, cond, Less, Equal, Greater, IsSortedBy}
use Rattle.std.specs.Cmp.{IsStrictWeakOrder}
use Rattle.std.specs.Ordering.{ordering_then}
use Rattle.std.specs.declared.cmp.Reverse.{Reverse}
use Rattle.std.proofs.lemmas.Cmp.{nat_cmp_total, int_cmp_total, on_total, then_total, back_total}
use Rattle.std.proofs.lemmas.List.Sorted.{ranks_by, sorted_far}
use Rattle.uplink_gather.specs.declared.heard.HeardCopy.{HeardCopy}
use Rattle.rx_windows.specs.Rank.{HaveDistinctGateways, IsBefore, is_before}
use Rattle.rx_windows.proofs.RankLemmas.{IsBefore-either, is_before-passes}

-- the key
abbrev pub key_of : HeardCopy → Reverse ℤ × Reverse ℤ × ℕ
key_of c = (record { 0 = c.snr }, record { 0 = c.rssi }, c.gateway)

-- whether one key is less than the other
abbrev pub key_lt : HeardCopy → HeardCopy → Bool
key_lt c e = is_lt (ordering_then (ordering_then (int_cmp e.snr c.snr) (int_cmp e.rssi c.rssi)) (nat_cmp c.gateway e.gateway))

key_order : IsStrictWeakOrder key_lt
key_order =
    ranks_by
    (then_total (then_total (back_total (on_total (λ (c : HeardCopy). c.snr) int_cmp_total))
    (back_total (on_total (λ (c : HeardCopy). c.rssi) int_cmp_total)))
    (on_total (λ (c : HeardCopy). c.gateway) nat_cmp_total))
    (λ c. c)

-- comparing in turn is the test of ranks, by what each comparison tests
in_turn : (s t u v w x : Bool) → is_lt (ordering_then (ordering_then (cond s Less (cond t Greater Equal))
    (cond u Less (cond v Greater Equal))) (cond w Less (cond x Equal Greater)))
    ≡ cond s true (cond t false (cond u true (cond v false w)))
in_turn true t u v w x = refl
in_turn false true u v w x = refl
in_turn false false true v w x = refl
in_turn false false false true w x = refl
in_turn false false false false true x = refl
in_turn false false false false false true = refl
in_turn false false false false false false = refl

key_lt-is_before : (c e : HeardCopy) → key_lt c e ≡ is_before c e
key_lt-is_before c e =
    in_turn (int_lt e.snr c.snr) (int_lt c.snr e.snr) (int_lt e.rssi c.rssi) (int_lt c.rssi e.rssi) (nat_lt c.gateway e.gateway)
    (nat_eq c.gateway e.gateway)

before_by : (c e : HeardCopy) → key_lt e c ≡ false → IsBefore c e ⊎ IsBefore e c → IsBefore c e
before_by c e k (inl h) = h
before_by c e k (inr h) = absurd (true≢false (sym (key_lt-is_before e c ∙ (is_before-passes e c h).0) ∙ k))

-- a list that ascends by its keys, of different gateways, has each copy before all later ones
pub pairs_from_sorted : (l : List HeardCopy) → IsSortedBy key_lt l → HaveDistinctGateways l → AllPairs IsBefore l
pairs_from_sorted l up n i j d h g =
    let c = get_or l i d in
    let e = get_or l j d in
    before_by c e (sorted_far key_lt key_order l up i j d (omega arith) g) (IsBefore-either c e (n i j d h g))
