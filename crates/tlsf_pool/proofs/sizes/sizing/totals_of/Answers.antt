use Rattle.tlsf_pool.proofs.Common.{◌≡◌, ℕ, ◌+◌, ◌*◌, ◌≤◌, ◌<◌, ◌^◌, arith, get_or, ap, ap₂, ◌∙◌, at_drop_more, want, count_in, table_words, Kind}
use Rattle.tlsf_pool.proofs.lemmas.sizes.Sizes.{kind_limit, class_at, kind_small, few_kinds, more_words, words_small}
use Rattle.tlsf_pool.proofs.sizes.sizing.totals_of.Given.{Over}
use Rattle.tlsf_pool.proofs.sizes.sizing.totals_of.Goals as goal

abbrev none : Kind
none = record { most = 0; len = 0 }

abbrev kind_in : (g : Over) (c : goal.After-from g) → Kind
kind_in g c = get_or c.args.kinds.now c.loop-kind.kind-index none

-- the words of the kind
product : (g : Over) (c : goal.After-from g) → c.from-most.result * c.from.result ≡ (kind_in g c).most * (want (kind_in g c).len + 3)
product g c = ap₂ (λ (a b : ℕ). a * b) c.from-most.ensures (c.from.ensures ∙ ap (λ (n : ℕ). n + 3) c.want.ensures)

small : (g : Over) (c : goal.After-from g) → c.from-most.result * c.from.result ≤ kind_limit g.row.SLI
small g c =
    let class = class_at g.row.SLI c.args.kinds.now c.loop-kind.kind-index none c.requires.classes c.loop-kind-test.true in
    let few : (kind_in g c).most < 2 ^ 32 = omega (arith, c.from-most.ensures) in
    at (product g c) (kind_small g.row.SLI (kind_in g c).most (want (kind_in g c).len) few class)
  where
    at : {a b m : ℕ} → a ≡ b → b ≤ m → a ≤ m
    at e h = omega (arith, e, h)

pub loop-kind-preserved : goal.loop-kind-preserved
loop-kind-preserved g c =
    let count = at_drop_more count_in c.args.kinds.now c.loop-kind.kind-index none c.loop-kind-test.true in
    let words = at_drop_more table_words c.args.kinds.now c.loop-kind.kind-index none c.loop-kind-test.true in
    record {
      count = omega (arith, count, c.from-most.ensures, c.loop-kind.invariant.count);
      words = omega (arith, words, product g c, c.loop-kind.invariant.words);
      small_count = omega (arith, c.loop-kind.invariant.small_count);
      small_words = more_words g.row.SLI c.loop-kind.words (c.from-most.result * c.from.result) c.loop-kind.kind-index c.loop-kind.invariant.small_words (small g c);
    }

pub overflow_add-count : goal.overflow_add-count
overflow_add-count g c = omega (arith, c.loop-kind.invariant.small_count, c.requires.few, (few_kinds g.row.SLI c.requires.level).1)

pub overflow_add-words : goal.overflow_add-words
overflow_add-words g c =
    let sum = more_words g.row.SLI c.loop-kind.words (c.from-most.result * c.from.result) c.loop-kind.kind-index c.loop-kind.invariant.small_words (small g c) in
    omega (arith, words_small g.row.SLI c.requires.level (c.loop-kind.words + c.from-most.result * c.from.result) (c.loop-kind.kind-index + 1) sum (omega (arith, c.requires.few)))

pub returns-clause-small_words : goal.returns-clause-small_words
returns-clause-small_words g c = words_small g.row.SLI c.requires.level c.loop-kind.words c.loop-kind.kind-index c.loop-kind.invariant.small_words (omega (arith, c.requires.few))
