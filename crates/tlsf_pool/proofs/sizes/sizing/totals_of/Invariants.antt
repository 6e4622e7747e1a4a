use Rattle.tlsf_pool.proofs.Common.{◌≡◌, ◌+◌, ◌*◌, ◌≤◌, ◌^◌, drop, count_in, table_words}
use Rattle.tlsf_pool.proofs.lemmas.sizes.Sizes.{kind_limit}
use Rattle.tlsf_pool.proofs.sizes.sizing.totals_of.Given as goal

abbrev pub invariant-loop-kind : goal.invariant-loop-kind
invariant-loop-kind g l = record {
  count : l.count + count_in (drop l.kind-index l.kinds) ≡ count_in l.kinds;
  words : l.words + table_words (drop l.kind-index l.kinds) ≡ table_words l.kinds;
  small_count : l.count ≤ l.kind-index * 2 ^ 32;
  small_words : l.words ≤ l.kind-index * kind_limit g.row.SLI;
}
