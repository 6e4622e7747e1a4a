use Rattle.tlsf_diagnosis.proofs.Common.{◌≡◌, drop, pieces_of}
use Rattle.tlsf_diagnosis.proofs.field_spots.piece_at.Given as goal

-- the pieces that are left
abbrev pub invariant-loop-i : goal.invariant-loop-i
invariant-loop-i l = drop l._i (pieces_of l.text) ≡ pieces_of l.rest
