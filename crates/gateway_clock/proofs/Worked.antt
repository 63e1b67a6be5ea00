-- Worked packets, and what the laws say of them: each tells a fact there, and no premise is one that nothing meets. Then what they
-- say of every clock.
use Rattle.std.proofs.Common.{ℕ, ◌≡◌, ◌+◌, ◌-◌, ◌%◌, ◌-◌, ◌^◌, ◌≤◌, ◌<◌, refl, le_trans, ◌/◌, sym, [], ◌∷◌}
use Rattle.std.specs.Prelude.{Some, Bool, true, false, map}
use Rattle.std.proofs.lemmas.List.Elements.{All-nil, All-cons}
use Rattle.std.proofs.lemmas.Option.{same_Some}
use Rattle.gateway_clock.proofs.Sessions.{IsOld}
use Rattle.gateway_clock.proofs.Ceiling.{IsCome}
use Rattle.gateway_clock.specs.Clock.{Clock, IsClock, Heard, opened, heard, line, ceiling, nearest, now_of, tmst_of}
use Rattle.gateway_clock.specs.Laws.{IsNearest, NearestIsTheOnlyOne, Packet, heard_all, SessionsKeepDifferences}
use Rattle.gateway_clock.specs.Laws.{CeilingRisesWithTime}

-- A new gateway: its clock is shown from 2 s on. The first packet begins a session, the next goes on behind the end of the
-- counter, one is late, and the last comes two hours later, when the counter stands somewhere else.

abbrev first : Packet
first = record { tmst = 4294000000; comes = 1100 }

abbrev second : Packet
second = record { tmst = 32704; comes = 1001200 }

abbrev late : Packet
late = record { tmst = 4294967200; comes = 1400000 }

abbrev restarted : Packet
restarted = record { tmst = 5000; comes = 7201000000 }

abbrev told : Heard → ℕ × Bool
told h = (h.at, h.is_new)

pub placed : map told (heard_all (opened 2000000) (first ∷ second ∷ late ∷ restarted ∷ []))
    ≡ (1100, true) ∷ (1001100, false) ∷ (968300, false) ∷ (7200279900, true) ∷ []
placed = refl

-- a clock that runs 100 ppm fast is at the ceiling; a microsecond more is another session
pub fast_enough : told (heard (heard (opened 2000000) 0 0).clock 1002100000 1000000000) ≡ (1002100000, false)
fast_enough = refl

pub too_fast : told (heard (heard (opened 2000000) 0 0).clock 1002100001 1000000000) ≡ (999900000, true)
too_fast = refl

-- what stands 20 s below the line goes on, and a microsecond less doesn't
pub far_below : told (heard (heard (opened 30000000) 0 0).clock 4276967296 0) ≡ (10000000, false)
far_below = refl

pub too_far_below : told (heard (heard (opened 30000000) 0 0).clock 4276967295 0) ≡ (28000000, true)
too_far_below = refl

-- The law of the nearest moment.

pub has_the_bits : NearestIsTheOnlyOne → IsNearest 3001100 4295968396 1001100
has_the_bits law = (law 3001100 4295968396 1001100).0 refl

pub nowhere_else : NearestIsTheOnlyOne → (w : ℕ) → IsNearest 3001100 4295968396 w → w ≡ 1001100
nowhere_else law w is = same_Some w 1001100 (sym ((law 3001100 4295968396 w).1 is))

pub not_below_0 : NearestIsTheOnlyOne → (w : ℕ) → IsNearest 5 4294967290 w → ⊥
not_below_0 law w is = let e = (law 5 4294967290 w).1 is in absurd (cc)

-- it says so of every line: what is nearest has the bits, and lies on neither side too far; and what does is nearest
pub each_nearest : NearestIsTheOnlyOne → (line bits w : ℕ) → nearest line bits ≡ Some w
    → (w % 2 ^ 32 ≡ bits % 2 ^ 32) × (line ≤ w + 2 ^ 31) × (w < line + 2 ^ 31)
each_nearest law line bits w e = let is = (law line bits w).0 e in (is.same_bits, is.from, is.upto)

pub each_is_nearest : NearestIsTheOnlyOne → (line bits w : ℕ) → w % 2 ^ 32 ≡ bits % 2 ^ 32 → line ≤ w + 2 ^ 31 → w < line + 2 ^ 31
    → nearest line bits ≡ Some w
each_is_nearest law line bits w same from upto = (law line bits w).1 (record { same_bits = same; from = from; upto = upto })

-- The law of sessions: of every clock, what is said of the next packet, and of one behind it.

pub each_next : SessionsKeepDifferences → (c : Clock) (p q : Packet)
    → (heard (heard c p.tmst p.comes).clock q.tmst q.comes).is_new ≡ false
    → ((heard (heard c p.tmst p.comes).clock q.tmst q.comes).at + p.tmst) % 2 ^ 32 ≡ ((heard c p.tmst p.comes).at + q.tmst) % 2 ^ 32
each_next law c p q old = law.differ c p (q ∷ []) (All-cons IsOld _ [] old (All-nil IsOld)) 0 q _ refl refl

pub each_later : SessionsKeepDifferences → (c : Clock) (p r q : Packet)
    → (heard (heard c p.tmst p.comes).clock r.tmst r.comes).is_new ≡ false
    → (heard (heard (heard c p.tmst p.comes).clock r.tmst r.comes).clock q.tmst q.comes).is_new ≡ false
    → ((heard (heard (heard c p.tmst p.comes).clock r.tmst r.comes).clock q.tmst q.comes).at + p.tmst) % 2 ^ 32
    ≡ ((heard c p.tmst p.comes).at + q.tmst) % 2 ^ 32
each_later law c p r q one two =
    let last : Heard = heard (heard (heard c p.tmst p.comes).clock r.tmst r.comes).clock q.tmst q.comes in
    law.differ c p (r ∷ q ∷ [])
    (All-cons IsOld (heard (heard c p.tmst p.comes).clock r.tmst r.comes) (last ∷ []) one (All-cons IsOld last [] two (All-nil IsOld)))
    1 q last refl refl

pub each_start_is_told : SessionsKeepDifferences → (c : Clock) (p : Packet) (d : ℕ)
    → tmst_of (heard c p.tmst p.comes).clock ((heard c p.tmst p.comes).at + d) ≡ Some ((p.tmst + d) % 2 ^ 32)
each_start_is_told law c p d = law.told c p d

-- The law of the ceiling, of every clock: with no packet, and with one.

pub each_placed : CeilingRisesWithTime → (c : Clock) → IsClock c → (p : Packet)
    → (heard c p.tmst p.comes).at ≤ ceiling c (now_of c p.comes)
each_placed law c is p = law.placed c is p

pub each_ceiling_near : CeilingRisesWithTime → (c : Clock) (a : ℕ) → ceiling c a ≤ line c a + 2000000
each_ceiling_near law c a = law.near c a

pub each_line_rises : CeilingRisesWithTime → (c : Clock) (a to : ℕ) → c.since ≤ a → c.from ≤ a → (p : Packet)
    → a ≤ p.comes → p.comes ≤ to → line c a ≤ line (heard c p.tmst p.comes).clock to
each_line_rises law c a to since from p le upto =
    law.rises c a to since from (le_trans le upto) (p ∷ []) (All-cons (IsCome a to) p [] (le, upto) (All-nil (IsCome a to)))

pub each_ceiling_bounded : CeilingRisesWithTime → (c : Clock) (a to : ℕ) → c.since ≤ a → c.from ≤ a → (p : Packet)
    → a ≤ p.comes → p.comes ≤ to
    → ceiling (heard c p.tmst p.comes).clock to ≤ ceiling c a + ((to - a) + (to - a) / 10000) + 1
each_ceiling_bounded law c a to since from p le upto =
    law.bounded c a to since from (le_trans le upto) (p ∷ []) (All-cons (IsCome a to) p [] (le, upto) (All-nil (IsCome a to)))

pub each_ceiling_alone : CeilingRisesWithTime → (c : Clock) (a to : ℕ) → c.since ≤ a → c.from ≤ a → a ≤ to
    → ceiling c to ≤ ceiling c a + ((to - a) + (to - a) / 10000) + 1
each_ceiling_alone law c a to since from le = law.bounded c a to since from le [] (All-nil (IsCome a to))
