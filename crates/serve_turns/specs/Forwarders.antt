use Rattle.std.specs.Prelude.{ℕ, zip, List, [], ◌∷◌, Option, Some, None}
use Rattle.std.specs.List.Sorted.{IsPermutation, IsNonDecreasingBy}
use Rattle.forwarder_sessions.specs.declared.session.Forwarder.{Forwarder}
use Rattle.serve_settings.specs.declared.forwarder as settings
use Rattle.server_desk.specs.declared.setting.GatewaySetting.{GatewaySetting}

-- The packet forwarders of a server's gateways.

-- a gateway's, as it is set
abbrev pub forwarder_of : GatewaySetting → settings.Forwarder.Forwarder → Forwarder
forwarder_of g f = record { gateway = g.id; eui = f.eui; from = f.from; lead = f.lead_us; power_dbm = f.power_dbm }

-- one gateway's, if something is set for it
abbrev pub one_of : GatewaySetting → Option settings.Forwarder.Forwarder → List Forwarder
one_of g None = []
one_of g (Some f) = forwarder_of g f ∷ []

-- each gateway's with what is set at the same place
abbrev pub forwarders_of : List GatewaySetting → List settings.Forwarder.Forwarder → List Forwarder
forwarders_of [] set = []
forwarders_of (g ∷ gs) [] = []
forwarders_of (g ∷ gs) (f ∷ fs) = forwarder_of g f ∷ forwarders_of gs fs

-- all of them, by rising gateway
pub record AreByGateway (gateways : List GatewaySetting) (set : List settings.Forwarder.Forwarder) (sorted : List Forwarder) : Type 0 where
  pub all : IsPermutation (forwarders_of gateways set) sorted
  pub rising : IsNonDecreasingBy (λ f. f.gateway) sorted

-- one with a number, if there is one
abbrev pub with_high : Forwarder → Option ℕ → List (Forwarder × ℕ)
with_high f None = []
with_high f (Some high) = (f, high) ∷ []

-- each with the number at its gateway's place, by rising gateway
pub record AreResumed (gateways : List GatewaySetting) (set : List settings.Forwarder.Forwarder) (highs : List ℕ)
    (sorted : List (Forwarder × ℕ)) : Type 0 where
  pub all : IsPermutation (zip (forwarders_of gateways set) highs) sorted
  pub rising : IsNonDecreasingBy (λ f. f.0.gateway) sorted
