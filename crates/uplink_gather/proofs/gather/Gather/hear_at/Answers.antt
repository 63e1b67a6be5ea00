use Rattle.std.proofs.Common.{sym, ap, ◌∙◌, Ok, ℕ, ◌≡◌, List, Option, IsSome, refl, subst}
use Rattle.uplink_gather.specs.declared.answers.Place.TheVariants.{Joins}
use Rattle.uplink_gather.specs.Gatherings.{Gathering, Gatherings, numbered}
use Rattle.uplink_gather.specs.Hearing.{place_of}
use Rattle.uplink_gather.proofs.HearingLaws.{joins_at}
use Rattle.uplink_gather.proofs.gather.Gather.hear_at.Goals as goal

joins_some : (s : Gatherings) (bytes : List ℕ) (gateway arrived n : ℕ) → place_of s bytes gateway arrived ≡ Ok (Joins n)
    → IsSome (numbered n s.list)
joins_some s bytes gateway arrived n e =
    let There : Option Gathering → Type 0 = λ o. IsSome o in subst There (sym (joins_at s bytes gateway arrived n e).there) refl

pub join-requires : goal.join-requires
join-requires g c =
    joins_some c.args.self.now c.args.bytes.now c.args.copy.gateway c.args.arrived c.in-Joins.n (c.requires ∙ ap Ok c.in-Joins.is)
