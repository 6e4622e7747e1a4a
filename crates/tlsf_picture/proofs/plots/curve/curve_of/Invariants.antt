use Rattle.tlsf_picture.proofs.Common.{◌≡◌, map, range_with_len, bucket, worst_of}
use Rattle.tlsf_picture.proofs.plots.curve.curve_of.Given as goal

-- those below this number are drawn
abbrev pub invariant-loop-number : goal.invariant-loop-number
invariant-loop-number l = l.curve.items ≡ map (λ number. worst_of l.words (bucket l.stride l.points number)) (range_with_len 0 l.number)
