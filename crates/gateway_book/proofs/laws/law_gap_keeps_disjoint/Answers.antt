use Rattle.gateway_book.proofs.ApartLaws.{gap_keeps_disjoint}
use Rattle.gateway_book.proofs.laws.law_gap_keeps_disjoint.Goals as goal

pub returns : goal.returns
returns c = gap_keeps_disjoint
