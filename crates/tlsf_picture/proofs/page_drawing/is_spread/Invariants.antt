use Rattle.tlsf_picture.proofs.Common.{◌≡◌, is_among}
use Rattle.tlsf_picture.proofs.page_drawing.is_spread.Given as goal

-- whether it is the line of one so far
abbrev pub invariant-loop-number : goal.invariant-loop-number
invariant-loop-number l = l.is_one ≡ is_among l.lines l.line l.number
