use Rattle.tlsf_pool.proofs.Common.{◌≡◌, ◌∙◌, arith, le-leb, leb-true, mixed_words}
use Rattle.tlsf_pool.proofs.lemmas.laws.PlannedCalls.{one_kind}
use Rattle.tlsf_pool.proofs.lemmas.sizes.Sizes.{few_kinds}
use Rattle.tlsf_pool.proofs.sizes.greatest.fits.Goals as goal

pub kinds_words-requires : goal.kinds_words-requires
kinds_words-requires g c = record { level = c.requires.level; classes = (c.requires.class, tt); few = (few_kinds g.row.SLI c.requires.level).0 }

pub returns : goal.returns
returns g c =
    let words : c.kinds_words.result ≡ mixed_words g.row.SLI c.args.most c.args.len = c.kinds_words.ensures ∙ one_kind g.row.SLI (record { most = c.args.most; len = c.args.len }) in
    ((λ t. omega (arith, leb-true _ _ t, words, c.from.ensures, c.most_words.ensures)), (λ h. le-leb _ _ (omega (arith, h, words, c.from.ensures, c.most_words.ensures))))
