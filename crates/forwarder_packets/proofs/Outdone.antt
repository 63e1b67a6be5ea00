use Rattle.std.proofs.Common.{arith, ℕ, suc, ◌≡◌, ◌+◌, ◌<◌, true, false, cond, List, length, drop, get_or, map, ap, ◌∙◌}
use Rattle.std.proofs.Math.Seq.{drop-cons, drop-length}
use Rattle.forwarder_packets.specs.Entry.{Received}
use Rattle.forwarder_packets.specs.Entries.{Read, outdoes, is_outdone}

-- Whether a packet is outdone, by the entries from a place on.

-- with the entry at the place in front
split : {X : Type 0} (f : X → Read) (xs : List X) (k : ℕ) (d : X) (at : ℕ) (p : Received) → k < length xs
    → is_outdone k (map f (drop k xs)) at p
    ≡ cond (outdoes k (f (get_or xs k d)) at p) true (is_outdone (k + 1) (map f (drop (k + 1) xs)) at p)
split f xs k d at p inside =
    let next : suc k ≡ k + 1 = omega arith in
    ap (λ l. is_outdone k (map f l) at p) (drop-cons xs k d inside)
    ∙ ap (λ j. cond (outdoes k (f (get_or xs k d)) at p) true (is_outdone (k + 1) (map f (drop j xs)) at p)) next

-- it doesn't, so one of the others does, if any
pub outdone_next : {X : Type 0} (f : X → Read) (xs : List X) (k : ℕ) (d : X) (at : ℕ) (p : Received) → k < length xs
    → outdoes k (f (get_or xs k d)) at p ≡ false
    → is_outdone k (map f (drop k xs)) at p ≡ is_outdone (k + 1) (map f (drop (k + 1) xs)) at p
outdone_next f xs k d at p inside passed =
    split f xs k d at p inside ∙ ap (λ b. cond b true (is_outdone (k + 1) (map f (drop (k + 1) xs)) at p)) passed

pub outdone_here : {X : Type 0} (f : X → Read) (xs : List X) (k : ℕ) (d : X) (at : ℕ) (p : Received) → k < length xs
    → outdoes k (f (get_or xs k d)) at p ≡ true → is_outdone k (map f (drop k xs)) at p ≡ true
outdone_here f xs k d at p inside does =
    split f xs k d at p inside ∙ ap (λ b. cond b true (is_outdone (k + 1) (map f (drop (k + 1) xs)) at p)) does

pub outdone_no_more : {X : Type 0} (f : X → Read) (xs : List X) (k : ℕ) (at : ℕ) (p : Received) → k ≡ length xs
    → is_outdone k (map f (drop k xs)) at p ≡ false
outdone_no_more f xs k at p ended = ap (λ l. is_outdone k (map f l) at p) (ap (λ j. drop j xs) ended ∙ drop-length xs)
