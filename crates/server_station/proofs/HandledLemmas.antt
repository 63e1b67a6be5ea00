-- Lemmas on one uplink's answer.
use Rattle.std.specs.Prelude.{ℕ, ◌≡◌, Bool, true, false, if◌then◌else◌, slice_get, Option, Some, None, Ok, Err}
use Rattle.uplink_gather.specs.Gatherings.{numbered, is_closed_at}
use Rattle.answer_ticket.specs.Job.{Job}
use Rattle.server_desk.specs.declared.faults.TakeFault.{TakeFault}
use Rattle.server_desk.specs.declared.faults.TakeFault.TheVariants.{NotReady, Taken}
use Rattle.server_desk.specs.Answers.{is_not_given}
use Rattle.server_desk.specs.Desk.{DeskView}
use Rattle.server_desk.specs.Register.{Device}
use Rattle.server_desk.specs.Taking.{take_answer, take_known, take_asked, given_or, take_fault}

-- the job that a desk gives a ticket for has the number that was asked for
module _ (d : DeskView) (n : ℕ) (job : Job) where
  by_fault : (a : _) (device : Device) (o : Option TakeFault) → given_or d.reg n a device o ≡ Ok job → job.number ≡ n
  by_fault a device None e = cc (e)
  by_fault a device (Some fault) e = absurd (cc (e))

  by_device : (a : _) (o : Option Device) → take_asked d.reg d.known n a o ≡ Ok job → job.number ≡ n
  by_device a None e = absurd (cc (e))
  by_device a (Some device) e = by_fault a device (take_fault d.reg d.known a device) e

  by_state : (a : _) (t : Bool) → (if t then take_asked d.reg d.known n a (slice_get d.reg.devices a.device) else Err Taken)
      ≡ Ok job
      → job.number ≡ n
  by_state a true e = by_device a (slice_get d.reg.devices a.device) e
  by_state a false e = absurd (cc (e))

  by_known : (o : _) (k : _) → take_known d.reg d.known n o k ≡ Ok job → job.number ≡ n
  by_known (Some a) (Some k) e = by_state a (is_not_given k) e
  by_known (Some a) None e = absurd (cc (e))
  by_known None (Some k) e = absurd (cc (e))
  by_known None None e = absurd (cc (e))

  by_closed : (t : Bool) → (if t then take_known d.reg d.known n (numbered n d.reg.asked) (numbered n d.known) else Err NotReady)
      ≡ Ok job → job.number ≡ n
  by_closed true e = by_known (numbered n d.reg.asked) (numbered n d.known) e
  by_closed false e = absurd (cc (e))

  pub own_number : take_answer d.reg d.known n ≡ Ok job → job.number ≡ n
  unfolding take_answer
  own_number e = by_closed (is_closed_at n d.reg.gathered.list) e
