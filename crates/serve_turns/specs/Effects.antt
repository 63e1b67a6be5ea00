use Rattle.std.specs.Prelude.{ℕ, ◌≡◌, Bool, ⊤, List, ◌++◌, take, Option, Some, None}
use Rattle.std.specs.Option.{option_map}
use Rattle.forwarder_sessions.specs.declared.session.Endpoint.{Endpoint}
use Rattle.serve_turns.specs.declared.host.Came.{Came}

-- What a server does to the world around it, and what it sees of it, in one order.

-- a datagram: where it comes from, and its bytes
pub record Packet : Type 0 where
  pub source : Endpoint
  pub bytes : List ℕ

pub data Effect : Type 0 where
  -- it received: a datagram came, or none did; it rested, and did not receive; the clock showed a moment, or none
  Receives : Option Packet → Effect
  Rests : Effect
  Shows : Option ℕ → Effect
  -- it was to send an acknowledgement, or an answer
  Acknowledges : Endpoint → List ℕ → Effect
  -- it was to add bytes to the journal's file, to have the disk keep that file, and to put a whole journal in its place; and each
  -- time whether that was done
  Appends : List ℕ → Bool → Effect
  Syncs : Bool → Effect
  Replaces : List ℕ → Bool → Effect
  -- it was to send a PULL_RESP, and whether that went out
  Sends : Endpoint → List ℕ → Bool → Effect
  -- it told lines, or was to tell them and could not tell them whole
  Tells : List ℕ → Effect
  Cuts : List ℕ → Effect

-- the datagram that was put into the front of these bytes
abbrev pub packet_in : List ℕ → Came → Packet
packet_in into came = record { source = came.source; bytes = take came.len into }

abbrev pub given : Option Came → List ℕ → Option Packet
given came into = option_map (packet_in into) came

-- these happened more, where they are told
abbrev pub Adds : Option (List Effect) → Option (List Effect) → List Effect → Type 0
Adds None after more = ⊤
Adds (Some before) None more = ⊥
Adds (Some before) (Some after) more = after ≡ before ++ more

-- a front of these happened more
pub record AddsFront (before after : Option (List Effect)) (whole : List Effect) : Type 0 where
  pub front : List Effect
  pub rest : List Effect
  pub is : whole ≡ front ++ rest
  pub adds : Adds before after front
