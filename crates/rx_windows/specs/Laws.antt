-- What the definitions of ranks and windows mean together.
use Rattle.std.specs.Prelude.{◌≡◌, ◌⊎◌, List, All, AllPairs, Contains, IsPermutation}
use Rattle.uplink_gather.specs.declared.heard.HeardCopy.{HeardCopy}
use Rattle.rx_windows.specs.declared.plan.Plan.{Plan}
use Rattle.rx_windows.specs.declared.candidate.Candidate.{Candidate}
use Rattle.rx_windows.specs.Rank.{IsBefore}
use Rattle.rx_windows.specs.Windows.{rx1_of, rx2_of, candidates_of}

-- a ranking of copies: the same copies, each before all later ones
pub record IsRanking (copies ranks : List HeardCopy) : Type 0 where
  pub permutation : IsPermutation copies ranks
  pub each_before_later : AllPairs IsBefore ranks

-- copies have one ranking
abbrev pub OneRanking : Type 0
OneRanking = (copies a b : List HeardCopy) → IsRanking copies a → IsRanking copies b → a ≡ b

-- a candidate is RX1 or RX2 of one of the copies, on that copy's gateway
pub record IsWindowOf (plan : Plan) (copies : List HeardCopy) (c : Candidate) : Type 0 where
  pub copy : HeardCopy
  pub heard : Contains copies copy
  pub gateway : c.gateway ≡ copy.gateway
  pub window : (c ≡ rx1_of plan copy) ⊎ (c ≡ rx2_of plan copy)

-- each candidate is one
abbrev pub OnGatewaysThatHeard : Type 0
OnGatewaysThatHeard = (plan : Plan) (copies : List HeardCopy) → All (IsWindowOf plan copies) (candidates_of copies plan)
