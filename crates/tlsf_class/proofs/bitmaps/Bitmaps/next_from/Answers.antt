use Rattle.tlsf_class.proofs.Common.{◌≡◌, ◌+◌, ◌-◌, sym, ap, refl, ◌∙◌, arith, bit_at, get_or}
use Rattle.tlsf_class.proofs.BitmapWords.{further, next-same_level, next-later_level, next-none, marked_in-members}
use Rattle.tlsf_class.proofs.bitmaps.Bitmaps.next_from.Goals as goal

pub below_plus-requires : goal.below_plus-requires
below_plus-requires g c =
    let e = c.first_level_below-first_level.ensures in
    let found = c.in-Some.ensures.some in
    let used = c.self.invariant.in_use c.first_level_below-first_level.result (c.second_level_below.result + c.in-Some.n) (ap (λ w. bit_at w (c.second_level_below.result + c.in-Some.n)) (sym c.second_word-word.ensures.value) ∙ found.set) in (
      omega arith,
      (
        omega (arith, found.least),
        omega (arith, used.2, further g.row.SLI c.self.invariant.level (c.args.class - 1) c.first_level_below-first_level.result c.second_level_below.result c.in-Some.n e.value c.second_level_below.ensures.value),
      ),
    )

pub returns-in-Some-clause-least : goal.returns-in-Some-clause-least
returns-in-Some-clause-least g c =
    let e = c.first_level_below-first_level.ensures in
    let below : c.args.class - 1 + 1 ≡ c.args.class = omega (arith, e.in_use.least) in
    rw (c.below_plus.ensures, ← c.self.view_is, marked_in-members g.row.SLI c.self.invariant.level _ _ c.self.invariant)
    (sym (rw below at (next-same_level g.row.SLI c.self.invariant.level _ _ (c.args.class - 1) c.first_level_below-first_level.result c.second_level_below.result c.in-Some.n c.self.invariant
    e.value c.second_level_below.ensures.value (rw c.second_word-word.ensures.value at c.in-Some.ensures.some))))

pub returns-in_err-first_level-clause-least : goal.returns-in_err-first_level-clause-least
returns-in_err-first_level-clause-least g c =
    let e = c.first_level_below-first_level.ensures in
    let below : c.args.class - 1 + 1 ≡ c.args.class = omega (arith, e.in_use.least) in
    let word = sym c.second_word-word.ensures.value in
    let first_word : c.self.inside.levels.first ≡ c.first_word-first_word.result = sym (c.first_word-first_word.ensures.value ∙ rw c.second_word-word.ensures.reads refl) in
    rw (c.from_residual.ensures, ← c.self.view_is, marked_in-members g.row.SLI c.self.invariant.level _ _ c.self.invariant)
    (sym (rw below at (next-none g.row.SLI c.self.invariant.level _ _ (c.args.class - 1) c.first_level_below-first_level.result c.second_level_below.result c.self.invariant e.value c.second_level_below.ensures.value
    (λ k above. ap (λ w. bit_at w k) word ∙ c.in_default.ensures.none k above)
    (λ k above. ap (λ w. bit_at w k) first_word ∙ c.in_err-first_level.ensures.none k above))))

pub returns-clause-least : goal.returns-clause-least
returns-clause-least g c =
    let e = c.first_level_below-first_level.ensures in
    let below : c.args.class - 1 + 1 ≡ c.args.class = omega (arith, e.in_use.least) in
    let word = sym c.second_word-word.ensures.value in
    let first_word : c.first_word-first_word.result ≡ c.self.inside.levels.first = c.first_word-first_word.ensures.value ∙ rw c.second_word-word.ensures.reads refl in
    let later : c.second_word-word-2.result ≡ get_or c.self.inside.levels.second c.in_ok-first_level.first_level 0 =
    c.second_word-word-2.ensures.value ∙ rw (c.first_word-first_word.ensures.reads, c.second_word-word.ensures.reads) refl
    in
    rw (c.at.ensures, ← c.self.view_is, marked_in-members g.row.SLI c.self.invariant.level _ _ c.self.invariant)
    (sym (rw below at (next-later_level g.row.SLI c.self.invariant.level _ _ (c.args.class - 1) c.first_level_below-first_level.result c.second_level_below.result c.in_ok-first_level.first_level c.lowest_bit.result c.self.invariant
    e.value c.second_level_below.ensures.value
    (λ k above. ap (λ w. bit_at w k) word ∙ c.in_default.ensures.none k above)
    (rw first_word at c.in_ok-first_level.ensures.some) (rw later at c.lowest_bit.ensures.lowest))))
