use Rattle.std.specs.Prelude.{ℕ, List, [], ◌∷◌, codes, decimal}
use Rattle.book_texts.specs.declared.reply.Reply.{Reply}
use Rattle.book_texts.specs.declared.reply.Reply.TheVariants.{Booked, Refused, Cancelled, NotCancelled, Floor, At, NoStart, Bad}
use Rattle.text_words.specs.Words.{spaced, fault_word, refusal_words}

-- The lines that answer.

-- the words of an answer
abbrev pub reply_words : Reply → List (List ℕ)
reply_words (Booked number start end) = codes "ok" ∷ decimal number ∷ decimal start ∷ decimal end ∷ []
reply_words (Refused number refusal) = codes "no" ∷ decimal number ∷ refusal_words refusal
reply_words (Cancelled number airtime) = codes "cancelled" ∷ decimal number ∷ decimal airtime ∷ []
reply_words (NotCancelled number fault) = codes "no" ∷ decimal number ∷ fault_word fault ∷ []
reply_words (Floor floor) = codes "floor" ∷ decimal floor ∷ []
reply_words (At number start) = codes "at" ∷ decimal number ∷ decimal start ∷ []
reply_words (NoStart number) = codes "no" ∷ decimal number ∷ codes "NoStart" ∷ []
reply_words (Bad line) = codes "bad" ∷ decimal line ∷ codes "Syntax" ∷ []

-- its line
abbrev pub reply_line : Reply → List ℕ
reply_line reply = spaced (reply_words reply)
