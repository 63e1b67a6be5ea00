use Rattle.std.specs.Prelude.{ℕ, ◌≡◌, List, ◌∷◌, ◌++◌, Contains, Some}
use Rattle.gateway_clock.specs.Clock.{line}
use Rattle.server_desk.specs.Register.{Device, device_with}
use Rattle.forwarder_sessions.specs.Sessions.{Known}
use Rattle.serve_journal.specs.declared.entry.Entry.{Entry}
use Rattle.serve_journal.specs.declared.entry.Entry.TheVariants as says
use Rattle.serve_downlinks.specs.Downlinks.{ToSend}
use Rattle.serve_downlinks.specs.Fates.{forwarder_of}
use Rattle.serve_downlinks.specs.Batch.{Knows, floor_of, addr_in, session_at, taken_entries, sent_of, batch_entries}

-- What a batch says of each downlink.

-- the clock stands before the device, and this before what was sent, with nothing between these two but what was taken
pub record AreInOrder (clock device : Entry) (taken : List Entry) (sent : Entry) (entries : List Entry) : Type 0 where
  pub before : List Entry
  pub between : List Entry
  pub behind : List Entry
  pub is : entries ≡ before ++ (clock ∷ (between ++ (device ∷ (taken ++ (sent ∷ behind)))))

-- the law: of each downlink whose gateway, whose device and whose device's session are known, the batch says what was sent, and
-- before that its device with the next downlink counter, and before that what its gateway's clock shows at least
abbrev pub BatchesTellWhatIsSent : Type 0
BatchesTellWhatIsSent =
    (k : Knows) (ds : List ToSend) (d : ToSend) (f : Known) (addr : ℕ) (found : ℕ × Device) (session : List ℕ)
    → Contains ds d → forwarder_of d.candidate.gateway k.forwarders ≡ Some f → addr_in d.frame ≡ Some addr
    → device_with addr k.devices ≡ Some found → session_at addr k.sessions ≡ Some session
    → AreInOrder (says.Clock d.candidate.gateway (line f.clock k.now) (floor_of d.candidate.gateway k.books))
    (says.Device addr session found.1.up found.1.down) (taken_entries addr d.frame) (sent_of d.candidate) (batch_entries k ds)
