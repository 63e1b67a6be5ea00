-- Session keys by address: one device after another.
use Rattle.std.proofs.Common.{ℕ, ◌≡◌, ◌+◌, ◌<◌, nat_eq, Bool, true, false, List, [], ◌∷◌, ◌++◌, take, length, get_or, find}
use Rattle.std.proofs.Common.{Option, Some, None, Bor, is_some, not, true≢false, refl, sym, ap, ◌∙◌, cond, arith}
use Rattle.std.specs.Option.{option_map, option_or, option_copied}
use Rattle.std.proofs.lemmas.List.{take_more}
use Rattle.std.proofs.lemmas.List.Folds.{find-append}
use Rattle.indexmap.specs.IndexMap.{IndexMap, get, Updates}
use Rattle.lora_frame.specs.declared.parts.Keys.{Keys}
use Rattle.server_desk.specs.declared.setting.DeviceSetting.{DeviceSetting}
use Rattle.server_core.specs.Taking.{keys_of}
use Rattle.run_lines.specs.RunWords.{keys_for}
use Rattle.run_lines.specs.KeyRing.{KeepsKeys}

-- the keys of some devices and of one behind them
behind : (addr : ℕ) (devices : List DeviceSetting) (d : DeviceSetting)
    → keys_for addr (devices ++ d ∷ []) ≡ option_or (keys_for addr devices) (cond (nat_eq d.addr addr) (Some (keys_of d)) None)
behind addr devices d = ap (option_map keys_of) (find-append (λ x. nat_eq x.addr addr) devices (d ∷ []))
    ∙ by (find (λ x. nat_eq x.addr addr) devices) (nat_eq d.addr addr)
  where
    by : (o : Option DeviceSetting) (t : Bool) → option_map keys_of (option_or o (cond t (Some d) None))
        ≡ option_or (option_map keys_of o) (cond t (Some (keys_of d)) None)
    by None true = refl
    by None false = refl
    by (Some x) t = refl

or_none : (o : Option Keys) → o ≡ option_or o None
or_none None = refl
or_none (Some k) = refl

same : (a b : ℕ) → nat_eq a b ≡ true → a ≡ b
same a b e = grind (arith, e)

module _ {S : Type 0} (devices : List DeviceSetting) (i : ℕ) (d : DeviceSetting) (h : i < length devices)
    (m : IndexMap ℕ Keys S) (so_far : KeepsKeys (take i devices) m) where
  abbrev pub here : DeviceSetting
  here = get_or devices i d

  more : (addr : ℕ) → keys_for addr (take (i + 1) devices)
      ≡ option_or (get nat_eq m addr) (cond (nat_eq here.addr addr) (Some (keys_of here)) None)
  more addr = ap (keys_for addr) (take_more devices i d h) ∙ behind addr (take i devices) here
      ∙ ap (λ o. option_or o (cond (nat_eq here.addr addr) (Some (keys_of here)) None)) (sym (so_far addr))

  -- the address of a device that was there before leads where it led
  pub keys_there : (k : Keys) → get nat_eq m here.addr ≡ Some k → KeepsKeys (take (i + 1) devices) m
  keys_there k e addr = by (nat_eq here.addr addr) refl ∙ sym (more addr)
    where
      by : (t : Bool) → nat_eq here.addr addr ≡ t
          → get nat_eq m addr ≡ option_or (get nat_eq m addr) (cond t (Some (keys_of here)) None)
      by true s = let found : get nat_eq m addr ≡ Some k = ap (get nat_eq m) (sym (same here.addr addr s)) ∙ e in
          rw found refl
      by false s = or_none (get nat_eq m addr)

  -- a new address leads to the keys of its device
  pub keys_more : (n : IndexMap ℕ Keys S) → get nat_eq m here.addr ≡ None → Updates nat_eq m n here.addr (Some (keys_of here))
      → KeepsKeys (take (i + 1) devices) n
  keys_more n e u addr = u.0 addr ∙ by (nat_eq here.addr addr) refl ∙ sym (more addr)
    where
      by : (t : Bool) → nat_eq here.addr addr ≡ t → cond t (Some (keys_of here)) (get nat_eq m addr)
          ≡ option_or (get nat_eq m addr) (cond t (Some (keys_of here)) None)
      by true s = let none : get nat_eq m addr ≡ None = ap (get nat_eq m) (sym (same here.addr addr s)) ∙ e in
          rw none refl
      by false s = or_none (get nat_eq m addr)

-- what a look-up by a borrow found
pub none_found : (o : Option (Bor Keys)) (r : Option Keys) (b : Bool) → option_copied o ≡ r → is_some o ≡ not b → b ≡ true
    → r ≡ None
none_found None r b e s t = sym e
none_found (Some x) r b e s t = absurd (true≢false (s ∙ ap not t))

pub some_found : (o : Option (Bor Keys)) (r : Option Keys) (b : Bool) → option_copied o ≡ r → is_some o ≡ not b → b ≡ false
    → (k : Keys) × (r ≡ Some k)
some_found None r b e s t = absurd (true≢false (sym (s ∙ ap not t)))
some_found (Some x) r b e s t = (x.now, sym e)
