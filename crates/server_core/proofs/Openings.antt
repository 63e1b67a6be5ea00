-- A server that is opened on books.
use Rattle.server_core.proofs.Words
use Words.{Err, IfOk, Ok, Result, ap, sym, ◌∙◌, List, [], ◌∷◌, Option, map, map-map, refl, subst, ℕ, ◌≡◌, All, All-head, All-tail, Book, remembers_own}
use Words.{AreBooksOf, AreBooksFor, IsBookOf, IsOpened, IsWhole, resuming, Seen, Step, desk_of, Gateway, opened_gateway}
use Words.{opening, SettingLists, GatewaySetting, gateway_of, ids_of, Limits}
use Rattle.gateway_book.specs.Book.{state_of}
use Rattle.server_core.proofs.Members.{none_numbered}

-- a book is its own gateway's
own_book : (b : Book) → IsWhole b → IsBookOf b (gateway_of b)
own_book b whole =
    record {
      id = refl;
      rules = refl;
      orderly = record { rested = whole.rested; by_start = whole.by_start; lawful = whole.lawful };
      remembers = remembers_own b (state_of b) refl whole.kept_whole;
    }

own_books : (books : List Book) → All IsWhole books → AreBooksOf books (map gateway_of books)
own_books [] a = tt
own_books (b ∷ bs) a = (own_book b (All-head IsWhole b bs a), own_books bs (All-tail IsWhole b bs a))

-- the books have the ids of the settings
same_ids : (gs : List GatewaySetting) (books : List Book) → AreBooksFor gs books
    → ids_of books ≡ map (λ (g : Gateway). g.id) (map opened_gateway gs)
same_ids [] [] a = refl
same_ids (g ∷ gs) (b ∷ bs) a = cc (a.0.id, same_ids gs bs a.1)
same_ids gs books a = absurd a

gateway_ids : (books : List Book) → ids_of books ≡ map (λ (g : Gateway). g.id) (map gateway_of books)
gateway_ids books = sym (map-map (λ (g : Gateway). g.id) gateway_of books)

pub server_opened : {A : Type 0} (settings : SettingLists) (limits : Limits) (books : List Book) (kept : Option (List Step))
    (s : Seen A) → AreBooksFor settings.gateways books → All IsWhole books
    → s.desk ≡ desk_of (opening settings limits) → s.books ≡ books → s.steps ≡ kept → s.outcomes ≡ []
    → IsOpened (resuming settings limits books) kept s
server_opened settings limits books kept s for whole d b steps told =
    let same = same_ids settings.gateways books for in
    record {
      at = record {
        desk = d ∙ ap (λ (l : List ℕ). record (desk_of (opening settings limits)) { ids = l }) (sym same ∙ gateway_ids books);
        books = rw b (own_books books whole);
      };
      ready = rw (d, b) (record {
        books = same;
        heard = λ n g e c k. absurd (none_numbered n g e);
        idle = λ n k e. absurd (none_numbered n k e);
      });
      steps = steps;
      outcomes = told;
    }

-- where the books are empty

pub books_for : (books : List Book) (gs : List GatewaySetting) → map gateway_of books ≡ map opened_gateway gs
    → AreBooksFor gs books
books_for [] [] e = tt
books_for [] (g ∷ gs) e = absurd (cc (e))
books_for (b ∷ bs) [] e = absurd (cc (e))
books_for (b ∷ bs) (g ∷ gs) e =
    let same : gateway_of b ≡ opened_gateway g = cc (e) in
    (record { id = ap (λ (x : Gateway). x.id) same; rules = ap (λ (x : Gateway). x.rules) same }, books_for bs gs (cc (e)))

pub opened_empty : {A : Type 0} (settings : SettingLists) (limits : Limits) (books : List Book) (kept : Option (List Step))
    (s : Seen A) → map gateway_of books ≡ map opened_gateway settings.gateways
    → IsOpened (resuming settings limits books) kept s → IsOpened (opening settings limits) kept s
opened_empty settings limits books kept s e o =
    subst (λ (gs : List Gateway). IsOpened (record (opening settings limits) { gateways = gs }) kept s) e o

pub if_ok : {X E : Type 0} {P Q : X → Type 0} (r : Result X E) → ((x : X) → P x → Q x) → IfOk r P → IfOk r Q
if_ok (Ok x) f p = f x p
if_ok (Err e) f p = tt
