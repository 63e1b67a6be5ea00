use Rattle.std.proofs.Common.{rules}
use Rattle.std.proofs.lemmas.List.Sorted.{answers_always}
use Rattle.rx_windows.specs.Rank.{ranked}
use Rattle.rx_windows.proofs.RankLemmas.{one_ranking, ranked-ranking, HaveDistinctGateways-permutation}
use Rattle.rx_windows.proofs.KeyLemmas.{key_of, pairs_from_sorted}
use Rattle.rx_windows.proofs.ranking.rank.Goals as goal

pub returns-clause-each_before_later : goal.returns-clause-each_before_later
returns-clause-each_before_later c =
    let sort = c.sort_unstable_by_key in
    pairs_from_sorted
    sort.new.self
    (sort.ensures.sorted key_of (answers_always _ _ _ (λ f a r g h. search rules)))
    (HaveDistinctGateways-permutation c.args.copies.now sort.new.self sort.ensures.permutation c.requires)

pub returns-clause-value : goal.returns-clause-value
returns-clause-value c =
    one_ranking
    c.args.copies.now
    c.sort_unstable_by_key.new.self
    (ranked c.args.copies.now)
    (record { permutation = c.sort_unstable_by_key.ensures.permutation; each_before_later = returns-clause-each_before_later c })
    (ranked-ranking c.args.copies.now c.requires)
