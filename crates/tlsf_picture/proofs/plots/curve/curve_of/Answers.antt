use Rattle.tlsf_picture.proofs.Common.{◌≡◌, ℕ, take, ap, sym, ◌∙◌, arith, take_min, map-range_with_len_more, bucket, worst_of}
use Rattle.tlsf_picture.proofs.plots.curve.curve_of.Goals as goal

pub loop-number-preserved : goal.loop-number-preserved
loop-number-preserved c =
    let number = c.loop-number.number in
    let stride = c.args.stride in
    let points = c.args.points.now in
    let rest = c.split_at.result.1.now in
    let part_is : c.split_at-in-loop-number.result.0.now ≡ bucket stride points number =
    c.split_at-in-loop-number.ensures.front ∙ (ap (λ (n : ℕ). take n rest) c.min.ensures ∙ (take_min stride rest ∙ ap (take stride) c.split_at.ensures.back)) in
    let one = λ (k : ℕ). worst_of c.args.words (bucket stride points k) in
    c.in_ok-push.ensures.items
    ∙ rw (c.loop-number.invariant, c.worst_of.ensures, part_is) (sym (map-range_with_len_more one 0 number number (omega arith)))
