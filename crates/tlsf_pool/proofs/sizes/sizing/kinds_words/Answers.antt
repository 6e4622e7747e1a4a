use Rattle.tlsf_pool.proofs.Common.{arith, rules, fold, map, max, sym, ◌∙◌, at_drop_all, used, words_with, Kind}
use Rattle.tlsf_pool.proofs.lemmas.sizes.Sizes.{class_at, few_kinds, kinds_of_fours, kinds_of_more}
use Rattle.tlsf_pool.proofs.sizes.sizing.kinds_words.Goals as goal

abbrev none : Kind
none = record { most = 0; len = 0 }

pub overflow_mul-words : goal.overflow_mul-words
overflow_mul-words g c = omega (arith, c.totals_of-totals.ensures.small_count, (few_kinds g.row.SLI c.requires.level).1)

pub returns-then-are_fours : goal.returns-then-are_fours
returns-then-are_fours g c =
    let words = kinds_of_fours g.row.SLI c.args.kinds.now (sym c.are_fours.ensures ∙ c.if-are_fours.true) in
    search rules

pub returns : goal.returns
returns g c =
    let end = at_drop_all (λ ks. fold max c.loop-kind.words (map (words_with g.row.SLI c.args.kinds.now) (used ks))) c.args.kinds.now c.loop-kind.kind-index (omega (arith, c.loop-kind-test.false)) in
    omega (arith, kinds_of_more g.row.SLI c.args.kinds.now (sym c.are_fours.ensures ∙ c.if-are_fours.false), c.loop-kind.invariant, end)

pub words_beside-requires : goal.words_beside-requires
words_beside-requires g c = record {
  level = c.requires.level;
  class = class_at g.row.SLI c.args.kinds.now c.loop-kind.kind-index none c.requires.classes c.loop-kind-test.true;
  small_count = c.totals_of-totals.ensures.small_count;
  small_words = c.totals_of-totals.ensures.small_words;
}
