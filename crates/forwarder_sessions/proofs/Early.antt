-- What is kept of the packet that was heard last.
use Rattle.std.proofs.Common.{◌≡◌, Option, Some, IfSome, subst}
use Rattle.forwarder_sessions.specs.Sessions.{IsEarly}
use Rattle.forwarder_sessions.specs.declared.session.Newest.{Newest}

pub early_of : (o : Option Newest) (n : Newest) → IfSome o IsEarly → o ≡ Some n → IsEarly n
early_of o n held is = subst (λ x. IfSome x IsEarly) is held
