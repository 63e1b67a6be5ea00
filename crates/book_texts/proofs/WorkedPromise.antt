-- What the text of a book promises, at worked rules, saved books and lengths: each fact tells what an answer can and can't be
-- there; and what the law on bookings says at each answer.
use Rattle.std.proofs.Common.{ℕ, ◌≡◌, Bool, true, false, List, [], ◌∷◌, ◌++◌, length, codes, Option, Some, None}
use Rattle.std.proofs.Common.{Ok, Err, refl, sym, ap, ◌∙◌, subst, arith}
use Rattle.std.proofs.lemmas.Option.{same_Some}
use Rattle.std.specs.Fmt.{digits}
use Rattle.std.specs.Io.KnownBytes.{Appends, Consumes}
use Rattle.std.specs.Option.{option_map}
use Rattle.std.specs.Prelude.{⊤, get_or, Result, IsOk, ◌<◌, ◌≤◌}
use Rattle.resv_list.specs.Reservations.{begun, net}
use Rattle.gateway_book.specs.Answer.{Rules, refusal_of}
use Rattle.gateway_book.specs.Busiest.{busiest_of}
use Rattle.gateway_book.specs.Kept.{kept}
use Rattle.gateway_book.specs.Loading.{loaded, HasMembers}
use Rattle.gateway_book.specs.Opening.{name_of, open_fault}
use Rattle.gateway_book.specs.Saved.{Saved, end_words, text_in}
use Rattle.gateway_book.specs.Step.{State, terms_at}
use Rattle.gateway_book.specs.declared.ask.Ask.{Ask}
use Rattle.gateway_book.specs.declared.loading.LoadFault.{LoadFault}
use Rattle.gateway_book.specs.declared.loading.LoadFault.TheVariants.{Read as LoadRead, NoMemory as LoadNoMemory}
use Rattle.gateway_book.specs.declared.loading.LoadFault.TheVariants.{Syntax, Version, Unlawful}
use Rattle.gateway_book.proofs.SavedWas.{loaded_was_saved}
use Rattle.text_lines.specs.Line.{text_of}
use Rattle.text_lines.specs.Turns.{has_refusal}
use Rattle.text_lines.specs.Words.{spaced}
use Rattle.text_lines.specs.Writing.{WritesFront}
use Rattle.text_words.specs.Words.{is_refusal}
use Rattle.text_words.specs.declared.fault.TextFault.{TextFault}
use Rattle.text_words.specs.declared.fault.TextFault.TheVariants.{Read, Write, TooMuch, Settings, NoMemory}
use Rattle.book_texts.specs.declared.command.Command.TheVariants.{Book}
use Rattle.book_texts.specs.Answering.{reply_to}
use Rattle.book_texts.specs.Laws.{OkWhereAccepted}
use Rattle.book_texts.specs.Opening.{book_output}
use Rattle.book_texts.specs.Promise.{KeepsLimit, IsSettingOf, IsRulesFault, IsFaultOf, IsLoadingOf, IsOpeningOf, is_unopened}
use Rattle.book_texts.specs.Promise.{load_name, AnswersAll, AnswersFront, AnswersRead, MayOpen}
use Rattle.book_texts.specs.Reply.{reply_line}

-- the fault is one of the arguments or of a saved book, by this name
abbrev IsNamed : List ℕ → TextFault → Type 0
IsNamed text (Settings name) = name.now ≡ text
IsNamed text _ = ⊥

-- if it is one of these, then by this name
abbrev IsNamedIfAny : List ℕ → TextFault → Type 0
IsNamedIfAny text (Settings name) = name.now ≡ text
IsNamedIfAny text _ = ⊤

abbrev rules : ℕ → ℕ → Rules
rules cap gap = record { cap = cap; gap = gap }

-- What a book is opened with.

pub no_cap_is_named : (fault : TextFault) → IsRulesFault (rules 0 100001) fault → IsNamed (codes "BadCap") fault
no_cap_is_named (Settings name) h = sym (same_Some (codes "BadCap") name.now h.1)
no_cap_is_named Read h = h
no_cap_is_named Write h = h
no_cap_is_named TooMuch h = h
no_cap_is_named NoMemory h = h

pub wide_gap_is_named : (fault : TextFault) → IsRulesFault (rules 1 100001) fault → IsNamed (codes "BadGap") fault
wide_gap_is_named (Settings name) h = sym (same_Some (codes "BadGap") name.now h.1)
wide_gap_is_named Read h = h
wide_gap_is_named Write h = h
wide_gap_is_named TooMuch h = h
wide_gap_is_named NoMemory h = h

pub good_rules_have_no_fault : (fault : TextFault) → IsRulesFault (rules 65536 100000) fault → ⊥
good_rules_have_no_fault (Settings name) h = h.0 (omega arith, omega arith, omega arith)
good_rules_have_no_fault Read h = h
good_rules_have_no_fault Write h = h
good_rules_have_no_fault TooMuch h = h
good_rules_have_no_fault NoMemory h = h

pub no_answer_without_a_cap : (refused : Bool) → IsSettingOf (rules 0 0) (Ok refused) → ⊥
no_answer_without_a_cap refused h = omega (arith, h.0)

pub no_answer_beyond_the_greatest_cap : (refused : Bool) → IsSettingOf (rules 65537 0) (Ok refused) → ⊥
no_answer_beyond_the_greatest_cap refused h = omega (arith, h.1)

pub no_answer_beyond_the_greatest_gap : (refused : Bool) → IsSettingOf (rules 1 100001) (Ok refused) → ⊥
no_answer_beyond_the_greatest_gap refused h = omega (arith, h.2)

-- not even that the input is too long is told of rules that no book is opened with
pub nothing_without_a_cap : IsSettingOf (rules 0 0) (Err TooMuch) → ⊥
nothing_without_a_cap h = omega (arith, h.0)

pub bad_cap_is_named : (fault : TextFault) → IsSettingOf (rules 0 0) (Err fault) → IsNamed (codes "BadCap") fault
bad_cap_is_named (Settings name) h = sym (same_Some (codes "BadCap") name.now h.1)
bad_cap_is_named Read h = absurd (omega (arith, h.0))
bad_cap_is_named Write h = absurd (omega (arith, h.0))
bad_cap_is_named TooMuch h = absurd (omega (arith, h.0))
bad_cap_is_named NoMemory h = h

pub an_empty_book_wants_no_memory : (cap gap : ℕ) → IsSettingOf (rules cap gap) (Err NoMemory) → ⊥
an_empty_book_wants_no_memory cap gap h = h

-- A saved book at the front.

pub read_is_told : (fault : TextFault) → IsFaultOf LoadRead fault → fault ≡ Read
read_is_told fault h = h

pub want_of_memory_is_told : (fault : TextFault) → IsFaultOf LoadNoMemory fault → fault ≡ NoMemory
want_of_memory_is_told fault h = h

pub syntax_is_told : (fault : TextFault) → IsFaultOf (Syntax 3) fault → IsNamed (codes "Syntax") fault
syntax_is_told (Settings name) h = sym h
syntax_is_told Read h = h
syntax_is_told Write h = h
syntax_is_told TooMuch h = h
syntax_is_told NoMemory h = h

pub version_is_told : (fault : TextFault) → IsFaultOf Version fault → IsNamed (codes "Version") fault
version_is_told (Settings name) h = sym h
version_is_told Read h = h
version_is_told Write h = h
version_is_told TooMuch h = h
version_is_told NoMemory h = h

pub unlawful_is_told : (fault : TextFault) → IsFaultOf (Unlawful 3) fault → IsNamed (codes "Unlawful") fault
unlawful_is_told (Settings name) h = sym h
unlawful_is_told Read h = h
unlawful_is_told Write h = h
unlawful_is_told TooMuch h = h
unlawful_is_told NoMemory h = h

-- a book of a version that is not read, a line that is none, and a cap of 0
abbrev other_version : List ℕ
other_version = codes "airbook 3\n"

abbrev no_gateway : List ℕ
no_gateway = codes "airbook 2\ntick 5\n"

abbrev no_cap : List ℕ
no_cap = codes "airbook 2\ngateway 1 0 0 0\n"

pub other_version_is_named : (fault : TextFault) → IsLoadingOf (Some other_version) (Err fault)
    → IsNamedIfAny (codes "Version") fault
other_version_is_named (Settings name) h =
    let e : Version ≡ h.0 = cc in sym h.2 ∙ ap load_name (sym e)
other_version_is_named Read h = tt
other_version_is_named Write h = tt
other_version_is_named TooMuch h = tt
other_version_is_named NoMemory h = tt

pub no_gateway_is_named : (fault : TextFault) → IsLoadingOf (Some no_gateway) (Err fault)
    → IsNamedIfAny (codes "Syntax") fault
no_gateway_is_named (Settings name) h =
    let e : Syntax 2 ≡ h.0 = cc in sym h.2 ∙ ap load_name (sym e)
no_gateway_is_named Read h = tt
no_gateway_is_named Write h = tt
no_gateway_is_named TooMuch h = tt
no_gateway_is_named NoMemory h = tt

pub saved_without_a_cap_is_named : (fault : TextFault) → IsLoadingOf (Some no_cap) (Err fault)
    → IsNamedIfAny (codes "Unlawful") fault
saved_without_a_cap_is_named (Settings name) h =
    let e : Unlawful 2 ≡ h.0 = cc in sym h.2 ∙ ap load_name (sym e)
saved_without_a_cap_is_named Read h = tt
saved_without_a_cap_is_named Write h = tt
saved_without_a_cap_is_named TooMuch h = tt
saved_without_a_cap_is_named NoMemory h = tt

pub no_answer_to_another_version : (refused : Bool) → IsLoadingOf (Some other_version) (Ok refused) → ⊥
no_answer_to_another_version refused h = absurd (cc)

pub not_too_much_of_another_version : IsLoadingOf (Some other_version) (Err TooMuch) → ⊥
not_too_much_of_another_version h = absurd (cc)

pub no_failed_write_of_another_version : IsLoadingOf (Some other_version) (Err Write) → ⊥
no_failed_write_of_another_version h = absurd (cc)

-- a book that is read has no fault
abbrev saved_book : List ℕ
saved_book = codes "airbook 2\ngateway 1 4096 5 0\nend 0\n"

pub saved_book_has_no_name : (fault : TextFault) → IsLoadingOf (Some saved_book) (Err fault) → IsNamed [] fault → ⊥
saved_book_has_no_name (Settings name) h n = absurd (cc)
saved_book_has_no_name Read h n = n
saved_book_has_no_name Write h n = n
saved_book_has_no_name TooMuch h n = n
saved_book_has_no_name NoMemory h n = n

-- No memory is wanted where there is no member: not of an empty input, since the last line of a saved book alone is none.

no_front : (front rest : List ℕ) → [] ≡ front ++ rest → front ≡ []
no_front [] rest e = refl
no_front (byte ∷ bytes) rest e = absurd (cc)

begins_otherwise : (version : ℕ) (s : Saved) → spaced (end_words s.list) ++ 10 ∷ [] ≡ text_in version s ++ [] → ⊥
begins_otherwise version s e = let first : 101 ≡ 97 = ap (λ (bytes : List ℕ). get_or bytes 0 0) e in omega (arith, first)

pub memory_is_for_members : IsLoadingOf (Some []) (Err NoMemory) → ⊥
memory_is_for_members h =
    let P : List ℕ → Type 0 = λ front. loaded (front ++ spaced (end_words h.saved.list) ++ 10 ∷ []) ≡ Ok (h.saved, []) in
    let was = loaded_was_saved (spaced (end_words h.saved.list) ++ 10 ∷ []) h.saved [] (subst P (no_front h.front h.rest h.parts) h.reads) in
    begins_otherwise was.1.0 h.saved was.1.2

-- By whether the input is to begin with a saved book.

pub resumed_looks_at_no_rules : IsOpeningOf true (rules 0 0) (Some saved_book) (Ok false)
resumed_looks_at_no_rules = refl

pub resumed_is_loaded : IsOpeningOf true (rules 1 0) (Some other_version) (Ok false) → ⊥
resumed_is_loaded h = absurd (cc)

pub opened_looks_at_the_rules : (left : Option (List ℕ)) → IsOpeningOf false (rules 0 0) left (Ok false) → ⊥
opened_looks_at_the_rules left h = omega (arith, h.0)

-- The greatest length.

pub one_byte_too_long : (bytes : List ℕ) (refused : Bool) → length bytes ≡ 268435457 → KeepsLimit (Some bytes) (Ok refused) → ⊥
one_byte_too_long bytes refused e h = omega (arith, e, h)

pub just_short_enough : (bytes : List ℕ) → length bytes ≡ 268435456 → KeepsLimit (Some bytes) (Err TooMuch) → ⊥
just_short_enough bytes e h = omega (arith, e, h)

-- What is read and written: all bytes and the whole output, a front of it for all bytes, or one for the bytes that were read.

module _ (resume saves : Bool) (rules : Rules) (bytes : List ℕ) (before after : Option (List ℕ)) where
  pub whole_output_is_written : (left : Option (List ℕ)) (refused : Bool)
      → AnswersAll resume saves rules (Some bytes) left before after refused
      → (starved : List ℕ) × Consumes (Some bytes) left bytes
      × Appends before after (text_of (book_output resume saves rules starved bytes))
      × (refused ≡ has_refusal (book_output resume saves rules starved bytes))
  whole_output_is_written left refused h = (h.starved, h.consumed, h.written, h.told)

  pub front_is_written : AnswersFront resume saves rules (Some bytes) before after
      → (starved : List ℕ) × WritesFront before after (text_of (book_output resume saves rules starved bytes))
  front_is_written h = (h.starved, h.written)

  pub front_for_what_was_read_is_written : (left : Option (List ℕ))
      → AnswersRead resume saves rules (Some bytes) left before after
      → (read : List ℕ) × Consumes (Some bytes) left read
      × ((starved : List ℕ) × WritesFront before after (text_of (book_output resume saves rules starved read)))
  front_for_what_was_read_is_written left h = (h.read, h.consumed, (h.answered.starved, h.answered.written))

-- of no bytes a report of an empty book is made
pub empty_input_is_reported : (left : Option (List ℕ)) (after : List ℕ) (refused : Bool)
    → AnswersAll false false (rules 1 0) (Some []) left (Some []) (Some after) refused
    → (after ≡ codes "booked 0\ncancelled 0\nretired 0\nkept 0 0\nfloor 0\n") × (refused ≡ false)
unfolding net kept begun busiest_of digits
empty_input_is_reported left after refused h = (h.written, h.told)

-- of a saved book alone the same book is saved again
pub saved_book_is_saved_again : (left : Option (List ℕ)) (after : List ℕ) (refused : Bool)
    → AnswersAll true true (rules 0 0) (Some saved_book) left (Some []) (Some after) refused
    → (after ≡ saved_book) × (refused ≡ false)
unfolding net kept digits
saved_book_is_saved_again left after refused h = (h.written, h.told)

-- Of all rules, all bytes and all lengths.

abbrev AreGood : Rules → Type 0
AreGood given = (1 ≤ given.cap) × (given.cap ≤ 65536) × (given.gap ≤ 100000)

abbrev HasName : Option (List ℕ) → TextFault → Type 0
HasName o (Settings name) = o ≡ Some name.now
HasName o _ = ⊤

module _ (given : Rules) where
  pub each_that_may_be_opened_is_good : MayOpen given → AreGood given
  each_that_may_be_opened_is_good h = h

  pub each_that_is_good_may_be_opened : AreGood given → MayOpen given
  each_that_is_good_may_be_opened h = h

  pub each_answer_is_of_good_rules : (refused : Bool) → IsSettingOf given (Ok refused) → AreGood given
  each_answer_is_of_good_rules refused h = h

  pub each_other_fault_is_of_good_rules : (IsSettingOf given (Err Read) → AreGood given)
      × (IsSettingOf given (Err Write) → AreGood given) × (IsSettingOf given (Err TooMuch) → AreGood given)
  each_other_fault_is_of_good_rules = ((λ h. h), (λ h. h), (λ h. h))

  pub each_setting_is_named : (fault : TextFault) → IsSettingOf given (Err fault)
      → HasName (option_map name_of (open_fault given)) fault
  each_setting_is_named (Settings name) h = h.1
  each_setting_is_named Read h = tt
  each_setting_is_named Write h = tt
  each_setting_is_named TooMuch h = tt
  each_setting_is_named NoMemory h = tt

  pub each_is_opened_or_resumed : (left : Option (List ℕ)) (result : Result Bool TextFault)
      → (IsOpeningOf true given left result → IsLoadingOf left result)
      × (IsOpeningOf false given left result → IsSettingOf given result)
  each_is_opened_or_resumed left result = ((λ h. h), (λ h. h))

module _ (bytes : List ℕ) where
  pub each_answer_is_of_a_saved_book : (refused : Bool) → IsLoadingOf (Some bytes) (Ok refused) → IsOk (loaded bytes)
  each_answer_is_of_a_saved_book refused h = h

  pub each_other_fault_is_of_a_saved_book : (IsLoadingOf (Some bytes) (Err Write) → IsOk (loaded bytes))
      × (IsLoadingOf (Some bytes) (Err TooMuch) → IsOk (loaded bytes))
  each_other_fault_is_of_a_saved_book = ((λ h. h), (λ h. h))

  pub each_want_of_memory_is_for_members : IsLoadingOf (Some bytes) (Err NoMemory) → HasMembers bytes
  each_want_of_memory_is_for_members h = h

  pub each_answered_is_short_enough : (refused : Bool) → KeepsLimit (Some bytes) (Ok refused) → length bytes ≤ 268435456
  each_answered_is_short_enough refused h = h

  pub each_too_much_is_longer : KeepsLimit (Some bytes) (Err TooMuch) → 268435456 < length bytes
  each_too_much_is_longer h = h

-- where the bytes begin with no saved book, the name is that of the fault
pub each_unloadable_is_named : (bytes : List ℕ) (fault : LoadFault) (told : TextFault) → loaded bytes ≡ Err fault
    → IsLoadingOf (Some bytes) (Err told) → HasName (Some (load_name fault)) told
each_unloadable_is_named bytes fault (Settings name) e h =
    let same : fault ≡ h.0 = cc in ap Some (ap load_name same ∙ h.2)
each_unloadable_is_named bytes fault Read e h = tt
each_unloadable_is_named bytes fault Write e h = tt
each_unloadable_is_named bytes fault TooMuch e h = tt
each_unloadable_is_named bytes fault NoMemory e h = tt

-- at whichever line
pub each_line_at_fault_is_named : (line : ℕ) → (load_name (Syntax line) ≡ codes "Syntax")
    × (load_name (Unlawful line) ≡ codes "Unlawful")
each_line_at_fault_is_named line = (refl, refl)

-- What was never opened has written nothing.

pub want_of_memory_opens_nothing : is_unopened NoMemory ≡ true
want_of_memory_opens_nothing = refl

pub bad_setting_opens_nothing : (text : List ℕ) (fault : TextFault) → IsNamed text fault → is_unopened fault ≡ true
bad_setting_opens_nothing text (Settings name) n = refl
bad_setting_opens_nothing text Read n = absurd n
bad_setting_opens_nothing text Write n = absurd n
bad_setting_opens_nothing text TooMuch n = absurd n
bad_setting_opens_nothing text NoMemory n = absurd n

-- A booking is answered without `no` just where it is accepted and finds memory.

module _ (law : OkWhereAccepted) (rules : Rules) (s : State) (ask : Ask) where
  pub accepted_where_ok : (starved : Bool) → is_refusal (reply_line (reply_to rules starved s (Book ask))) ≡ false
      → refusal_of (terms_at rules s) s.list ask ≡ None
  accepted_where_ok starved ok = ((law rules starved s ask).0 ok).0

  pub memory_where_ok : is_refusal (reply_line (reply_to rules true s (Book ask))) ≡ false → ⊥
  memory_where_ok ok = let e = ((law rules true s ask).0 ok).1 in absurd (cc)

  pub ok_where_it_is_accepted : refusal_of (terms_at rules s) s.list ask ≡ None
      → is_refusal (reply_line (reply_to rules false s (Book ask))) ≡ false
  ok_where_it_is_accepted none = (law rules false s ask).1 (none, refl)
