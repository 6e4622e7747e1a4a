use Rattle.tlsf_pool.proofs.Common.{◌≡◌, ◌≤◌, arith, rules, ◌∙◌, most_words, want, mixed_words}
use Rattle.tlsf_class.proofs.TwoLevels.{most_words_any}
use Rattle.tlsf_pool.proofs.lemmas.laws.PlannedCalls.{one_kind}
use Rattle.tlsf_pool.proofs.lemmas.sizes.Sizes.{few_kinds, some_words}
use Rattle.tlsf_pool.proofs.sizes.region.mixed_region.Goals as goal

pub kinds_words-words-requires : goal.kinds_words-words-requires
kinds_words-words-requires g c = record {
  level = c.requires;
  classes = (omega (arith, c.if-len-most_bytes.false, c.most_bytes.ensures, some_words g.row.SLI c.requires), tt);
  few = (few_kinds g.row.SLI c.requires).0;
}

pub overflow_cast-result : goal.overflow_cast-result
overflow_cast-result g c = omega (arith, c.if-words-from.false, c.from.ensures, c.most_words.ensures, most_words_any g.row.SLI)

pub returns : goal.returns
returns g c =
    let class : want c.args.len ≤ most_words g.row.SLI = omega (arith, c.if-len-most_bytes.false, c.most_bytes.ensures, some_words g.row.SLI c.requires) in
    let words : c.kinds_words-words.result ≡ mixed_words g.row.SLI c.args.most c.args.len = c.kinds_words-words.ensures ∙ one_kind g.row.SLI (record { most = c.args.most; len = c.args.len }) in
    let few : mixed_words g.row.SLI c.args.most c.args.len ≤ most_words g.row.SLI = omega (arith, words, c.if-words-from.false, c.from.ensures, c.most_words.ensures) in
    search rules
