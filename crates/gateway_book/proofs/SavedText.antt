use Rattle.std.specs.Prelude.{ℕ, ◌≡◌, List, [], ◌∷◌, ◌++◌, map, Option}
use Rattle.std.proofs.Common.{sym, ap, ◌∙◌, append_assoc, subst}
use Rattle.std.proofs.lemmas.List.{map-append}
use Rattle.resv_list.specs.declared.reservation.Reservation.{Reservation}
use Rattle.text_lines.specs.Line.{text_of, text_of-append}
use Rattle.text_lines.specs.Words.{spaced}
use Rattle.text_lines.specs.Writing.{WritesAllBut, WritesFront, WritesAllBut-more, WritesAllBut-trans, WritesFront-after}
use Rattle.text_lines.specs.Writing.{WritesFront-more}
use Rattle.gateway_book.specs.Saved.{Saved, version_words, gateway_words, member_words, members_text, end_words, text_in}
use Rattle.gateway_book.specs.Saved.{saved_of, saved_text}
use Rattle.gateway_book.specs.Book.{Book}

-- A saved text in the parts in which it is written.

-- the lines of the version and of the gateway
abbrev pub opening_text : ℕ → Saved → List ℕ
opening_text version s = spaced (version_words version) ++ (10 ∷ (spaced (gateway_words version s) ++ 10 ∷ []))

-- the line that counts the members
abbrev pub end_text : List Reservation → List ℕ
end_text l = spaced (end_words l) ++ 10 ∷ []

pub text_in-parts : (version : ℕ) (s : Saved) → text_in version s
    ≡ opening_text version s ++ (members_text s.list ++ end_text s.list)
text_in-parts version s =
    let head = spaced (version_words version) in
    let gateway = spaced (gateway_words version s) in
    let members : text_of (map spaced (map member_words s.list ++ end_words s.list ∷ []))
    ≡ members_text s.list ++ end_text s.list =
    ap text_of (map-append spaced (map member_words s.list) (end_words s.list ∷ []))
    ∙ text_of-append (map spaced (map member_words s.list)) (spaced (end_words s.list) ∷ []) in
    rw members
    (sym (append_assoc head (10 ∷ (gateway ++ 10 ∷ [])) (members_text s.list ++ end_text s.list)
    ∙ ap (λ l. head ++ (10 ∷ l)) (append_assoc gateway (10 ∷ []) (members_text s.list ++ end_text s.list))))

-- more was put behind what was pending
pub put_more : (a b c : Option (List ℕ)) (text pending more rest : List ℕ) → WritesAllBut a b text pending
    → WritesAllBut b c (pending ++ more) rest → WritesAllBut a c (text ++ more) rest
put_more a b c text pending more rest part next =
    WritesAllBut-trans a b c (text ++ more) (pending ++ more) rest (WritesAllBut-more a b text pending more part) next

-- of what was put behind it a front was written
pub put_front : (a b c : Option (List ℕ)) (text pending more : List ℕ) → WritesAllBut a b text pending
    → WritesFront b c (pending ++ more) → WritesFront a c (text ++ more)
put_front a b c text pending more part front =
    WritesFront-after a b c (text ++ more) (pending ++ more) (WritesAllBut-more a b text pending more part) front

-- the next member's line was put
member_ahead : (pending : List ℕ) (r : Reservation) (line : List ℕ) (rest ahead : List Reservation)
    → line ≡ spaced (member_words r) ++ 10 ∷ [] → ahead ≡ r ∷ rest
    → pending ++ members_text ahead ≡ (pending ++ line) ++ members_text rest
member_ahead pending r line rest ahead written next =
    ap (λ l. pending ++ members_text l) next
    ∙ ap (λ l. pending ++ l) (sym (append_assoc (spaced (member_words r)) (10 ∷ []) (members_text rest)))
    ∙ ap (λ l. pending ++ (l ++ members_text rest)) (sym written)
    ∙ sym (append_assoc pending line (members_text rest))

pub member_put : (a b c : Option (List ℕ)) (text pending : List ℕ) (ahead : List Reservation) (r : Reservation) (line : List ℕ)
    → line ≡ spaced (member_words r) ++ 10 ∷ [] → (rest : List Reservation) (pending_after : List ℕ) → ahead ≡ r ∷ rest
    → WritesAllBut a b text (pending ++ members_text ahead) → WritesAllBut b c (pending ++ line) pending_after
    → WritesAllBut a c text (pending_after ++ members_text rest)
member_put a b c text pending ahead r line written rest pending_after next part put =
    let P : List ℕ → Type 0 = λ l. WritesAllBut a b text l in
    WritesAllBut-trans a b c text ((pending ++ line) ++ members_text rest) (pending_after ++ members_text rest)
    (subst P (member_ahead pending r line rest ahead written next) part)
    (WritesAllBut-more b c (pending ++ line) pending_after (members_text rest) put)

pub member_front : (a b c : Option (List ℕ)) (text pending : List ℕ) (ahead : List Reservation) (r : Reservation) (line : List ℕ)
    → line ≡ spaced (member_words r) ++ 10 ∷ [] → (rest : List Reservation) → ahead ≡ r ∷ rest
    → WritesAllBut a b text (pending ++ members_text ahead) → WritesFront b c (pending ++ line)
    → WritesFront a c text
member_front a b c text pending ahead r line written rest next part front =
    let P : List ℕ → Type 0 = λ l. WritesAllBut a b text l in
    WritesFront-after a b c text ((pending ++ line) ++ members_text rest)
    (subst P (member_ahead pending r line rest ahead written next) part)
    (WritesFront-more b c (pending ++ line) (members_text rest) front)

-- what was there, and the whole text behind it
pub saved_whole : (old : List ℕ) (b : Book) → old ++ saved_text b
    ≡ ((old ++ opening_text 2 (saved_of b)) ++ members_text b.list) ++ end_text b.list
saved_whole old b =
    let opening = opening_text 2 (saved_of b) in
    ap (λ l. old ++ l) (text_in-parts 2 (saved_of b))
    ∙ sym (append_assoc old opening (members_text b.list ++ end_text b.list))
    ∙ sym (append_assoc (old ++ opening) (members_text b.list) (end_text b.list))

-- the parts of a whole text, and what follows it, line by line
pub regroup : (a b m e r : List ℕ) → ((a ++ (10 ∷ (b ++ 10 ∷ []))) ++ (m ++ e)) ++ r ≡ a ++ (10 ∷ (b ++ (10 ∷ (m ++ (e ++ r)))))
regroup a b m e r = simp append_assoc
