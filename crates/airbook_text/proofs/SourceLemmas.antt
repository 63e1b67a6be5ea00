-- What was received, receive by receive.
use Rattle.std.proofs.Common.{◌≡◌, ℕ, ◌+◌, List, [], ◌∷◌, ◌++◌, Option, Some, None, refl, sym, ap, ◌∙◌, arith}
use Rattle.std.proofs.Common.{append_assoc}
use Rattle.std.proofs.Common.{append-nil, length-append}
use Rattle.std.proofs.lemmas.List.{map-append}
use Rattle.airbook_text.specs.Receives.{Received, Seen, AreBehind, AreMade, with_room, risen}

room_both : (room : ℕ) (l : List (ℕ × Received)) (xs ys : List Received)
    → (l ++ with_room room xs) ++ with_room room ys ≡ l ++ with_room room (xs ++ ys)
room_both room l xs ys =
    append_assoc l (with_room room xs) (with_room room ys)
    ∙ ap (λ k. l ++ k) (sym (map-append (λ (r : Received). (room, r)) xs ys))

behind_both : (room : ℕ) (xs ys : List Received) (a b c : Option (List (ℕ × Received))) → AreBehind room xs a b
    → AreBehind room ys b c → AreBehind room (xs ++ ys) a c
behind_both room xs ys None b c first second = tt
behind_both room xs ys (Some l) None c first second = absurd first
behind_both room xs ys (Some l) (Some m) None first second = absurd second
behind_both room xs ys (Some l) (Some m) (Some n) first second =
    second ∙ ap (λ k. k ++ with_room room ys) first ∙ room_both room l xs ys

behind_none : (room : ℕ) (a : Option (List (ℕ × Received))) → AreBehind room [] a a
behind_none room None = tt
behind_none room (Some l) = sym (append-nil l)

risen_both : (count first second : ℕ) → risen (risen count first) second ≡ risen count (first + second)
risen_both count first second = omega arith

risen_none : (count : ℕ) → count ≡ risen count 0
risen_none count = omega arith

-- at first no receive was made
pub made_none : (room : ℕ) (s : Seen) → AreMade room 0 s s []
made_none room s = record { number = refl; counted = risen_none s.receives; told = behind_none room s.received }

-- some receives, and one more
pub made_more : (room turns : ℕ) (a b c : Seen) (received : List Received) (r : Received) → AreMade room turns a b received
    → AreMade room 1 b c (r ∷ []) → AreMade room (turns + 1) a c (received ++ r ∷ [])
made_more room turns a b c received r some one =
    record {
      number = length-append received (r ∷ []) ∙ ap (λ n. n + 1) some.number;
      counted = one.counted ∙ ap (λ n. risen n 1) some.counted ∙ risen_both a.receives turns 1;
      told = behind_both room received (r ∷ []) a.received b.received c.received some.told one.told;
    }
