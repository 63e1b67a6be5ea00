use Rattle.gateway_clock.proofs.Ceiling.{placed_below, near_line, lines_rise, ceilings_bounded}
use Rattle.gateway_clock.proofs.laws.law_ceiling_rises_with_time.Goals as goal

pub returns : goal.returns
returns c = record { placed = placed_below; near = near_line; rises = lines_rise; bounded = ceilings_bounded }
