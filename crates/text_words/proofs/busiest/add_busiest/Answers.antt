use Rattle.std.proofs.Common.{sym}
use Rattle.radio_bands.specs.declared.band.Band.TheVariants.{K, L, M, N, P, Q}
use Rattle.text_words.specs.Busiest.{busiest_lines}
use Rattle.text_words.proofs.Hours.{text_of-six}
use Rattle.text_words.proofs.busiest.add_busiest.Goals as goal

pub returns : goal.returns
returns g c =
    let gateway = c.args.gateway in
    let l = c.args.book.now.list in
    rw (
      c.add_hour-6.ensures.text,
      c.add_hour-5.ensures.text,
      c.add_hour-4.ensures.text,
      c.add_hour-3.ensures.text,
      c.add_hour-2.ensures.text,
      c.add_hour.ensures.text,
    )
    (sym (text_of-six _ (busiest_lines gateway l K) (busiest_lines gateway l L) (busiest_lines gateway l M)
    (busiest_lines gateway l N) (busiest_lines gateway l P) (busiest_lines gateway l Q)))
