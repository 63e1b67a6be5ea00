use Rattle.std.specs.Prelude.{◌≡◌, ℕ, false, ◌||◌, List, [], ◌∷◌, ◌++◌, Option, Some, None, codes, decimal, refl}
use Rattle.std.proofs.Common.{ap, ◌∙◌}
use Rattle.std.proofs.lemmas.List.Folds.{list_any-append}
use Rattle.radio_bands.specs.declared.band.Band.{Band}
use Rattle.radio_bands.specs.declared.band.Band.TheVariants.{K, L, M, N, P, Q}
use Rattle.resv_list.specs.declared.reservation.Reservation.{Reservation}
use Rattle.gateway_book.specs.Busiest.{busiest_of}
use Rattle.text_words.specs.Words.{spaced, band_word, is_refusal, has_refusal}

-- The busiest hours in a report: of one book, or of a gateway's, whose id the lines then name.

-- the id, where the lines name it
abbrev pub gateway_words : Option ℕ → List (List ℕ)
gateway_words None = []
gateway_words (Some id) = decimal id ∷ []

-- the busiest hour of a band, where the band has a member
abbrev pub hour_lines : Option ℕ → Band → Option (ℕ × ℕ) → List (List ℕ)
hour_lines gateway band None = []
hour_lines gateway band (Some (from, sum)) =
    spaced (codes "busiest" ∷ gateway_words gateway ++ band_word band ∷ decimal from ∷ decimal sum ∷ []) ∷ []

-- the line of one band, where it has a member
abbrev pub busiest_lines : Option ℕ → List Reservation → Band → List (List ℕ)
busiest_lines gateway l band = hour_lines gateway band (busiest_of l band)

-- the busiest hours of all bands
abbrev pub all_busiest_lines : Option ℕ → List Reservation → List (List ℕ)
all_busiest_lines gateway l =
    busiest_lines gateway l K ++ (busiest_lines gateway l L ++
    (busiest_lines gateway l M ++ (busiest_lines gateway l N ++ (busiest_lines gateway l P ++ busiest_lines gateway l Q))))

hour_refuses_nothing : (gateway : Option ℕ) (band : Band) (o : Option (ℕ × ℕ)) → has_refusal (hour_lines gateway band o) ≡ false
hour_refuses_nothing gateway band None = refl
hour_refuses_nothing None band (Some (from, sum)) = refl
hour_refuses_nothing (Some id) band (Some (from, sum)) = refl

before_others : (gateway : Option ℕ) (l : List Reservation) (band : Band) (more : List (List ℕ)) → has_refusal more ≡ false
    → has_refusal (busiest_lines gateway l band ++ more) ≡ false
before_others gateway l band more h =
    list_any-append is_refusal (busiest_lines gateway l band) more
    ∙ ap (λ t. t || has_refusal more) (hour_refuses_nothing gateway band (busiest_of l band))
    ∙ h

-- none of these lines begins with `no` or `bad`
pub busiest-refuses_nothing : (gateway : Option ℕ) (l : List Reservation) → has_refusal (all_busiest_lines gateway l) ≡ false
busiest-refuses_nothing gateway l =
    before_others gateway l K _ (before_others gateway l L _
    (before_others gateway l M _ (before_others gateway l N _
    (before_others gateway l P _ (hour_refuses_nothing gateway Q (busiest_of l Q))))))
