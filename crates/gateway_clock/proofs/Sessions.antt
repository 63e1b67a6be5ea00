use Rattle.std.proofs.Common.{arith, ℕ, zero, suc, ◌≡◌, ◌+◌, ◌%◌, ◌^◌, ◌∙◌, refl}
use Rattle.std.specs.Prelude.{Option, Some, None, false, List, [], ◌∷◌, All, slice_get}
use Rattle.std.proofs.lemmas.List.Elements.{All-head, All-tail}
use Rattle.gateway_clock.specs.Clock.{Clock, Heard, heard, heard_at, within, nearest, tmst_of, now_of}
use Rattle.gateway_clock.specs.Laws.{Packet, heard_all}

-- What a placed packet has of its counter.

pub nearest_bits : (line bits w : ℕ) → nearest line bits ≡ Some w → w % 2 ^ 32 ≡ bits % 2 ^ 32
nearest_bits line bits w e = grind arith

-- a moment has the bits of its counter and of what is added in its session
pub bits_at : (c : Clock) (now tmst : ℕ) (w : Option ℕ) → within c now tmst ≡ w
    → (o : ℕ) → (heard_at c now tmst w).clock.offset ≡ Some o → (heard_at c now tmst w).at % 2 ^ 32 ≡ (tmst + o) % 2 ^ 32
bits_at c now tmst None e o eo = grind arith
bits_at c now tmst (Some w) e o eo = grind (arith, nearest_bits)

-- the same of a packet that goes on with the session
pub bits_within : (c : Clock) (now tmst : ℕ) (w : Option ℕ) → within c now tmst ≡ w → (heard_at c now tmst w).is_new ≡ false
    → (o : ℕ) → c.offset ≡ Some o → (heard_at c now tmst w).at % 2 ^ 32 ≡ (tmst + o) % 2 ^ 32
bits_within c now tmst None e old o eo = grind arith
bits_within c now tmst (Some w) e old o eo = grind (arith, nearest_bits)

pub offset_within : (c : Clock) (now tmst : ℕ) (w : Option ℕ) → (heard_at c now tmst w).is_new ≡ false
    → (heard_at c now tmst w).clock.offset ≡ c.offset
offset_within c now tmst None old = grind arith
offset_within c now tmst (Some w) old = grind arith

-- a session stands once a packet was heard
pub has_offset : (c : Clock) (now tmst : ℕ) (w : Option ℕ) → within c now tmst ≡ w
    → (o : ℕ) × ((heard_at c now tmst w).clock.offset ≡ Some o)
has_offset c now tmst None e = (_, refl)
has_offset c now tmst (Some w) e = by c.offset refl
  where
    by : (offset : Option ℕ) → c.offset ≡ offset → (o : ℕ) × ((heard_at c now tmst (Some w)).clock.offset ≡ Some o)
    by (Some o) eo = (o, grind arith)
    by None eo = (0, grind arith)

abbrev pub IsOld : Heard → Type 0
IsOld h = h.is_new ≡ false

-- all packets of a session have the bits of their counters and of what is added
pub all_bits : (c : Clock) (o : ℕ) → c.offset ≡ Some o → (ps : List Packet)
    → All IsOld (heard_all c ps) → (k : ℕ) (q : Packet) (h : Heard)
    → slice_get ps k ≡ Some q → slice_get (heard_all c ps) k ≡ Some h → h.at % 2 ^ 32 ≡ (q.tmst + o) % 2 ^ 32
all_bits c o eo [] old k q h eq eh = grind arith
all_bits c o eo (p ∷ ps) old zero q h eq eh =
    let first : (heard c p.tmst p.comes).at % 2 ^ 32 ≡ (p.tmst + o) % 2 ^ 32
    = bits_within c (now_of c p.comes) p.tmst (within c (now_of c p.comes) p.tmst) refl (All-head IsOld (heard c p.tmst p.comes) (heard_all (heard c p.tmst p.comes).clock ps) old) o eo in
    grind (arith, first)
all_bits c o eo (p ∷ ps) old (suc k) q h eq eh =
    all_bits (heard c p.tmst p.comes).clock o
    (offset_within c (now_of c p.comes) p.tmst (within c (now_of c p.comes) p.tmst) (All-head IsOld _ _ old) ∙ eo) ps
    (All-tail IsOld _ _ old) k q h eq eh

-- the same in the session of a packet before them
pub same_differences : (c : Clock) (p : Packet) (ps : List Packet)
    → All IsOld (heard_all (heard c p.tmst p.comes).clock ps) → (k : ℕ) (q : Packet) (h : Heard)
    → slice_get ps k ≡ Some q → slice_get (heard_all (heard c p.tmst p.comes).clock ps) k ≡ Some h
    → (h.at + p.tmst) % 2 ^ 32 ≡ ((heard c p.tmst p.comes).at + q.tmst) % 2 ^ 32
same_differences c p ps old k q h eq eh = by (has_offset c (now_of c p.comes) p.tmst (within c (now_of c p.comes) p.tmst) refl)
  where
    by : (o : ℕ) × ((heard c p.tmst p.comes).clock.offset ≡ Some o)
        → (h.at + p.tmst) % 2 ^ 32 ≡ ((heard c p.tmst p.comes).at + q.tmst) % 2 ^ 32
    by (o, eo) =
        let first : (heard c p.tmst p.comes).at % 2 ^ 32 ≡ (p.tmst + o) % 2 ^ 32
        = bits_at c (now_of c p.comes) p.tmst (within c (now_of c p.comes) p.tmst) refl o eo in
        let later : h.at % 2 ^ 32 ≡ (q.tmst + o) % 2 ^ 32
        = all_bits (heard c p.tmst p.comes).clock o eo ps old k q h eq eh in
        omega arith

pub told_back : (c : Clock) (p : Packet) (d : ℕ)
    → tmst_of (heard c p.tmst p.comes).clock ((heard c p.tmst p.comes).at + d) ≡ Some ((p.tmst + d) % 2 ^ 32)
told_back c p d = by (has_offset c (now_of c p.comes) p.tmst (within c (now_of c p.comes) p.tmst) refl)
  where
    by : (o : ℕ) × ((heard c p.tmst p.comes).clock.offset ≡ Some o)
        → tmst_of (heard c p.tmst p.comes).clock ((heard c p.tmst p.comes).at + d) ≡ Some ((p.tmst + d) % 2 ^ 32)
    by (o, eo) =
        let first : (heard c p.tmst p.comes).at % 2 ^ 32 ≡ (p.tmst + o) % 2 ^ 32
        = bits_at c (now_of c p.comes) p.tmst (within c (now_of c p.comes) p.tmst) refl o eo in
        grind (arith, first, eo)
