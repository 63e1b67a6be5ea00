-- What a server on one thread keeps at every event.
use Rattle.server_core.proofs.Words
use Words.{arith, inl, inr, subst, sym, Contains-push_cases, Contains, Err, IsTrue, List, Ok, Result, Some, [], false}
use Words.{if◌then◌else◌, refl, true, ℕ, ◌++◌, ◌∷◌, ◌≡◌, Gathering, Gatherings, close_step, is_open_at, numbered, rewritten}
use Words.{hear_answer, with_copy, Joined, Opened, HearFault, HeardCopy, is_given, known_after, Decision, Join, Refuse, copy_of}
use Words.{register_after, numbered-append_cases, numbered_cases, join_decided, open_decided, Register, Known, NotGiven, Heard1}
use Words.{AreHeard, HasHeard, IsIdle, is_among, decide}
use Rattle.uplink_gather.specs.{declared.answers.Heard.Heard, Hearing.opening, Hearing.after_hearing, Hearing.hear_step}
use Rattle.server_desk.specs.Hearing.{Open}
use Rattle.server_desk.specs.Hearing as hearing

-- what holds of all members holds where the list goes on, or one is written anew, if it holds of the new one
module _ {X : Type 0} (P : X → Type 0) (l : List X) (h : (n : ℕ) (x : X) → numbered n l ≡ Some x → P x) where
  pub all_append : (y : X) → P y → (n : ℕ) (x : X) → numbered n (l ++ y ∷ []) ≡ Some x → P x
  all_append y p n x e = elim (numbered-append_cases n l y x e) [ inl o ↦ h n x o | inr o ↦ subst P (sym o.1) p ]

  pub all_rewritten : (f : X → X) (m : ℕ) → ((y : X) → numbered m l ≡ Some y → P (f y)) → (n : ℕ) (x : X)
      → numbered n (rewritten f m l) ≡ Some x → P x
  all_rewritten f m k n x e = elim (numbered_cases f m n l x e) [ inl o ↦ subst P (sym o.3) (k o.0 o.2) | inr o ↦ h n x o ]

-- no ticket is out of an uplink that opens a gathering
pub idle_hear : (d : Decision) (known : List Known) → IsIdle known → IsIdle (known_after d known)
idle_hear (Refuse fault) known i = i
idle_hear (Join n) known i = i
idle_hear (Open o) known i = all_append (λ k. is_given k ≡ false) known i NotGiven refl

-- a gathering is closed
pub heard_closed : (ids : List ℕ) (s : Gatherings) (n : ℕ) → AreHeard ids s.list → AreHeard ids (close_step s n).list
heard_closed ids s n h =
    let f : Gathering → Gathering = λ g. record g { closed = true } in
    elim (is_open_at n s.list) as (λ t. AreHeard ids (if t then record s { list = rewritten f n s.list } else s).list)
    [ true ↦ all_rewritten (HasHeard ids) s.list h f n (h n) | false ↦ h ]

-- a copy that a gateway here heard
module _ (ids : List ℕ) (copy : HeardCopy) (a : IsTrue (is_among ids copy.gateway)) where
  more_heard : (copies : List HeardCopy) → ((c : HeardCopy) → Contains copies c → IsTrue (is_among ids c.gateway))
      → (c : HeardCopy) → Contains (copies ++ copy ∷ []) c → IsTrue (is_among ids c.gateway)
  more_heard copies h c k = elim (Contains-push_cases copies copy c k)
      [ inl e ↦ h c e | inr e ↦ subst (λ (x : HeardCopy). IsTrue (is_among ids x.gateway)) e a ]

  heard_copy : (s : Gatherings) (bytes : List ℕ) (arrived : ℕ) (r : Result Heard HearFault) → AreHeard ids s.list
      → AreHeard ids (after_hearing r s bytes copy arrived).list
  heard_copy s bytes arrived (Err fault) h = h
  heard_copy s bytes arrived (Ok (Opened n)) h = all_append (HasHeard ids) s.list h (opening bytes copy arrived)
      (more_heard [] (λ c e. absurd (omega (arith, e.1))))
  heard_copy s bytes arrived (Ok (Joined n copies)) h = all_rewritten (HasHeard ids) s.list h (with_copy copy) n
      (λ x q. more_heard x.copies (h n x q))

module _ (ids : List ℕ) (reg : Register) (bytes : List ℕ) (heard : Heard1) (arrived : ℕ) where
  heard_here : is_among ids heard.gateway ≡ true → AreHeard ids reg.gathered.list
      → AreHeard ids (hear_step reg.gathered bytes (copy_of heard) arrived).list
  heard_here a h =
      heard_copy ids (copy_of heard) a reg.gathered bytes arrived (hear_answer reg.gathered bytes heard.gateway arrived) h

  heard_by : (d : Decision) → decide ids reg bytes heard arrived ≡ d → AreHeard ids reg.gathered.list
      → AreHeard ids (hearing.after_hearing d reg bytes (copy_of heard) arrived).gathered.list
  heard_by (Refuse fault) e h = h
  heard_by (Join n) e h = heard_here (join_decided ids reg bytes heard arrived n e).here h
  heard_by (Open o) e h = heard_here (open_decided ids reg bytes heard arrived o e).here h

  pub heard_after : AreHeard ids reg.gathered.list → AreHeard ids (register_after ids reg bytes heard arrived).gathered.list
  heard_after h = heard_by (decide ids reg bytes heard arrived) refl h
