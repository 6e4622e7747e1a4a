use Rattle.tlsf_pool.proofs.Common.{◌≡◌, drop, fold, max, map, words_with, resized_words, used}
use Rattle.tlsf_pool.proofs.sizes.sizing.kinds_words.Given as goal

abbrev pub invariant-loop-kind : goal.invariant-loop-kind
invariant-loop-kind g l = fold max l.words (map (words_with g.row.SLI l.kinds) (used (drop l.kind-index l.kinds))) ≡ resized_words g.row.SLI l.kinds
