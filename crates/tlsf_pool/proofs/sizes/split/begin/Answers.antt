use Rattle.tlsf_pool.proofs.Common.{◌≢◌, [], ◌∷◌, ◌∙◌, length, set, None, Some, refl, arith, get_or-set_other, get_or-set_same, length-set, Split}
use Rattle.tlsf_pool.proofs.lemmas.sizes.Cuts.{row_begun}
use Rattle.tlsf_pool.proofs.sizes.split.begin.Goals as goal

pub returns : goal.returns
returns g c =
    let none : Split = record { heaps = 0; lens = 0 ∷ 0 ∷ 0 ∷ 0 ∷ 0 ∷ 0 ∷ 0 ∷ 0 ∷ []; words = 0 } in
    let row = c.loop-at.row in
    let last = length c.args.kinds.now in
    row_begun g.row.SLI c.args.kinds.now (set row last (Some none)) none refl refl refl (length-set row last (Some none) ∙ c.loop-at.invariant.long)
    (λ k below. let ne : k ≢ last = omega arith in get_or-set_other row last k (Some none) None ne ∙ c.loop-at.invariant.none k (omega (arith, below, c.loop-at-test.false)))
    (get_or-set_same row last (Some none) None (omega (arith, c.loop-at.invariant.long)))
