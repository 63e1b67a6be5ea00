use Rattle.std.proofs.Common.{◌≡◌, ◌*◌, inl, inr, List, map, length, All, Contains, refl, arith, length-append}
use Rattle.std.proofs.lemmas.List.{length-map}
use Rattle.std.proofs.lemmas.List.Elements.{All-append, All-map, All-weaker, All-contains_itself}
use Rattle.uplink_gather.specs.declared.heard.HeardCopy.{HeardCopy}
use Rattle.rx_windows.specs.declared.plan.Plan.{Plan}
use Rattle.rx_windows.specs.declared.candidate.Candidate.{Candidate}
use Rattle.rx_windows.specs.Rank.{ranked}
use Rattle.rx_windows.proofs.RankLaws.{Contains-ranked}
use Rattle.rx_windows.specs.Windows.{rx1_of, rx2_of, candidates_of}
use Rattle.rx_windows.specs.Laws.{IsWindowOf, OnGatewaysThatHeard}

-- What is true of every candidate.

pub length-candidates_of : (copies : List HeardCopy) (plan : Plan) → length (candidates_of copies plan) ≡ 2 * length copies
unfolding candidates_of
length-candidates_of copies plan =
    omega (
      arith,
      length-append (map (rx1_of plan) copies) (map (rx2_of plan) copies),
      length-map copies (rx1_of plan),
      length-map copies (rx2_of plan),
    )

-- what is true of RX1 and RX2 of each copy is true of each candidate
pub All-candidates_of : (P : Candidate → Type 0) (copies : List HeardCopy) (plan : Plan)
    → All (λ copy. P (rx1_of plan copy)) copies → All (λ copy. P (rx2_of plan copy)) copies → All P (candidates_of copies plan)
unfolding candidates_of
All-candidates_of P copies plan p q =
    All-append P (map (rx1_of plan) copies) (map (rx2_of plan) copies) (All-map P (rx1_of plan) copies p)
    (All-map P (rx2_of plan) copies q)

pub on_gateways_that_heard : OnGatewaysThatHeard
on_gateways_that_heard plan copies =
    let member = All-contains_itself copies in
    All-candidates_of
    (IsWindowOf plan copies)
    copies
    plan
    (All-weaker (Contains copies) (λ copy. IsWindowOf plan copies (rx1_of plan copy))
    (λ copy c. record { copy = copy; heard = c; gateway = refl; window = inl refl }) copies member)
    (All-weaker (Contains copies) (λ copy. IsWindowOf plan copies (rx2_of plan copy))
    (λ copy c. record { copy = copy; heard = c; gateway = refl; window = inr refl }) copies member)

-- a candidate of the copies by rank is one of the copies
pub IsWindowOf-ranked : (plan : Plan) (copies : List HeardCopy) (c : Candidate) → IsWindowOf plan (ranked copies) c
    → IsWindowOf plan copies c
IsWindowOf-ranked plan copies c h =
    record { copy = h.copy; heard = Contains-ranked copies h.copy h.heard; gateway = h.gateway; window = h.window }
