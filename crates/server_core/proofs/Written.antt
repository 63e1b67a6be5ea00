-- A device, an answer, a gateway or a gathering is written anew, or an uplink is gathered.
use Rattle.server_core.proofs.Words
use Words.{ap, arith, inl, inr, length-append, subst, sym, ◌∙◌, List, Some, [], false, length, refl, slice_get, slice_set, ℕ}
use Words.{◌++◌, ◌+◌, ◌∷◌, ◌≡◌, ◌≤◌, Gathering, numbered, rewritten, Job, Answer, Open, Waiting, is_not_given, known_of}
use Words.{length-rewritten, numbered-append_cases, numbered_cases, numbered_next, get_set_after, get_set_cases, map_set}
use Words.{same_Some, Device, Gateway, World, SettingLists, Asked, Sent, setting_of, sent_for}
use Rattle.server_core.proofs.Holds.{IsGrown, IsOfDevice, IsAskedAt, IsJobAt, AllBelong, Holds, Grow, IsGivenAt, IsGood}
use Rattle.server_core.proofs.Holds.{Follows-refl, job_on, jobs_on, belong_on, Has-append, Has-rewritten, has_now, Has, IsInOrder}
use Rattle.server_core.proofs.Holds.{IsLater}

module _ {settings : SettingLists} {past : List Gateway} {T : Job → Type 0} {w : World} (h : Holds settings past T w) where
  -- a device, which keeps its setting and its counters that were given

  abbrev pub with_device : ℕ → Device → World
  with_device p e = record w { reg = record (w.reg) { devices = slice_set w.reg.devices p e } }

  pub device_written : (p : ℕ) (d e : Device) → slice_get w.reg.devices p ≡ Some d → e.setting ≡ d.setting → d.down ≤ e.down
      → IsGood settings past T w (with_device p e)
  device_written p d e g s c =
      let later : (q : ℕ) (f : Device) → slice_get w.reg.devices q ≡ Some f → IsLater (slice_set w.reg.devices p e) q f =
      λ q f i. elim (get_set_after w.reg.devices p q e f i) [
        | inl o ↦ let same : f ≡ d = same_Some _ _ (sym i ∙ rw o.0 at g) in rw same
            (record { device = e; there = o.1; addr = ap (λ t. t.addr) s; counter = c })
        | inr o ↦ record { device = f; there = o; addr = refl; counter = omega arith }
      ] in
      assumption (map_set (λ x. x.setting) w.reg.devices p d e g s ∙ h.devices, later)

  -- an answer, which keeps what was booked for it, and of which a ticket was given

  abbrev pub with_answer : ℕ → Answer → World
  with_answer n new = record w { answers = rewritten (λ a. new) n w.answers }

  module _ (n : ℕ) (old new : Answer) (there : numbered n w.answers ≡ Some old) where
    -- what holds of the old answer, and of the new one then, holds still
    has_still : (P : Answer → Type 0) → (P old → P new) → (m : ℕ) → Has P w.answers m → Has P (rewritten (λ a. new) n w.answers) m
    has_still P f m x = Has-rewritten P w.answers (λ a. new) n m (λ y e p. f (subst P (same_Some _ _ (sym e ∙ there)) p)) x

    pub answer_written : ((s : Sent) → sent_for old ≡ Some s → sent_for new ≡ Some s) → is_not_given (known_of new) ≡ false
        → ((k : ℕ) (job : Job) → new ≡ Open k job → IsJobAt settings T w.reg.gathered.list n job)
        → IsGood settings past T w (with_answer n new)
    answer_written s i o =
        let answers = rewritten (λ a. new) n w.answers in
        let l = w.reg.gathered.list in
        let jobs : (m k : ℕ) (job : Job) → numbered m answers ≡ Some (Open k job) → IsJobAt settings T l m job =
        λ m k job e. elim (numbered_cases (λ a. new) n m w.answers (Open k job) e)
        [ inl g ↦ rw (← g.1) (o k job (sym g.3)) | inr g ↦ h.jobs m k job g ] in
        let belong = belong_on settings T T (λ x t. t) l l (λ m x y. y) past w.answers answers
        (λ m x. has_still (λ a. sent_for a ≡ Some x) (s x) m) w.gateways h.belong in
        let given : (m : ℕ) → IsGivenAt w.answers m → IsGivenAt answers m =
        has_still (λ a. is_not_given (known_of a) ≡ false) (λ e. i) in
        assumption (length-rewritten (λ a. new) n w.answers ∙ h.answered, jobs, belong, given, (Follows-refl w).devices)

  -- a gateway, which keeps its setting, and whose members were there or stand for their answers

  abbrev pub with_gateway : ℕ → Gateway → World
  with_gateway i g = record w { gateways = slice_set w.gateways i g }

  module _ (i : ℕ) (old new : Gateway) (there : slice_get w.gateways i ≡ Some old) where
    -- what holds of the new gateway and of all that there were holds of all that there are
    set_all : (P : Gateway → Type 0) → P new → ((j : ℕ) (g : Gateway) → slice_get w.gateways j ≡ Some g → P g) → (j : ℕ)
        (g : Gateway) → slice_get (slice_set w.gateways i new) j ≡ Some g → P g
    set_all P p h j g e = elim (get_set_cases w.gateways i j new g e) [ inl o ↦ subst P (sym o.1) p | inr o ↦ h j g o.1 ]

    pub gateway_written : setting_of new ≡ setting_of old → IsInOrder past new
        → AllBelong settings past T w.reg.gathered.list w.answers new
        → IsGood settings past T w (with_gateway i new)
    gateway_written s o a =
        let in_order = set_all (IsInOrder past) o h.in_order in
        let belong = set_all (AllBelong settings past T w.reg.gathered.list w.answers) a h.belong in
        assumption (map_set setting_of w.gateways i old new there s ∙ h.gateways, in_order, belong, (Follows-refl w).devices)

-- a gathering is written anew, and keeps its bytes and its copies
pub Grow-rewritten : (f : Gathering → Gathering) → ((g : Gathering) → IsGrown g (f g)) → (n : ℕ) (l : List Gathering)
    → Grow l (rewritten f n l)
Grow-rewritten f grown n l m before x = Has-rewritten (IsGrown before) l f n m
    (λ g e k. record { bytes = (grown g).bytes ∙ k.bytes; copies = λ c q. (grown g).copies c (k.copies c q) }) x

module _ {settings : SettingLists} {past : List Gateway} {T : Job → Type 0} {w : World} (h : Holds settings past T w) where
  asked_on : (l : List Gathering) → Grow w.reg.gathered.list l → (n : ℕ) (a : Asked) → numbered n w.reg.asked ≡ Some a
      → IsAskedAt settings l n a.device
  asked_on l grow n a e = let u = h.asked n a e in record { gathering = u.gathering; own = u.own; now = grow n u.gathering u.now }

  abbrev pub with_gathered : List Gathering → World
  with_gathered l = record w { reg = record (w.reg) { gathered = record (w.reg.gathered) { list = l } } }

  pub gathered_grown : (l : List Gathering) → length w.reg.gathered.list ≡ length l → Grow w.reg.gathered.list l
      → IsGood settings past T w (with_gathered l)
  gathered_grown l n grow =
      let was = w.reg.gathered.list in
      let jobs = jobs_on settings T T (λ j t. t) was l grow w.answers h.jobs in
      let belong = belong_on settings T T (λ j t. t) was l grow past w.answers w.answers (λ m s q. q) w.gateways h.belong in
      assumption (h.together ∙ n, h.answered ∙ n, asked_on l grow, jobs, belong, (Follows-refl w).devices)

  -- one more uplink is gathered, and its answer waits
  module _ (g : Gathering) (a : Asked) (own : IsOfDevice settings a.device g) where
    abbrev more : List Gathering
    more = w.reg.gathered.list ++ g ∷ []

    abbrev pub with_uplink : World
    with_uplink =
        record w {
          reg = record (w.reg) { gathered = record (w.reg.gathered) { list = more }; asked = w.reg.asked ++ a ∷ [] };
          answers = w.answers ++ Waiting ∷ [];
        }

    grow : Grow w.reg.gathered.list more
    grow n x k = Has-append (IsGrown x) w.reg.gathered.list (g ∷ []) n k

    pub uplink_gathered : IsGood settings past T w with_uplink
    uplink_gathered =
        let l = w.reg.gathered.list in
        let together : length (w.reg.asked ++ a ∷ []) ≡ length more =
        omega (arith, length-append w.reg.asked (a ∷ []), length-append l (g ∷ []), h.together) in
        let answered : length (w.answers ++ Waiting ∷ []) ≡ length more =
        omega (arith, length-append w.answers (Waiting ∷ []), length-append l (g ∷ []), h.answered) in
        let asked : (n : ℕ) (b : Asked) → numbered n (w.reg.asked ++ a ∷ []) ≡ Some b → IsAskedAt settings more n b.device =
        λ n b e. elim (numbered-append_cases n w.reg.asked a b e) [
          | inl o ↦ asked_on more grow n b o
          | inr o ↦ rw (o.0, o.1, h.together)
              (record { gathering = g; own = own; now = has_now more (length l + 1) g (numbered_next l g) })
        ] in
        let jobs : (n k : ℕ) (job : Job) → numbered n (w.answers ++ Waiting ∷ []) ≡ Some (Open k job)
        → IsJobAt settings T more n job =
        λ n k job e. elim (numbered-append_cases n w.answers Waiting (Open k job) e)
        [ inl o ↦ job_on settings T T (λ j t. t) l more grow n job (h.jobs n k job o) | inr o ↦ absurd (cc (o.1)) ] in
        let belong = belong_on settings T T (λ j t. t) l more grow past w.answers (w.answers ++ Waiting ∷ [])
        (λ n s q. Has-append (λ b. sent_for b ≡ Some s) w.answers (Waiting ∷ []) n q) w.gateways h.belong in
        let given : (n : ℕ) → IsGivenAt w.answers n → IsGivenAt (w.answers ++ Waiting ∷ []) n =
        λ n k. Has-append (λ b. is_not_given (known_of b) ≡ false) w.answers (Waiting ∷ []) n k in
        assumption (together, answered, asked, jobs, belong, given, (Follows-refl w).devices)
