use Rattle.tlsf_diagnosis.proofs.Common.{◌∙◌, rules, arith, pieces_of}
use Rattle.tlsf_diagnosis.proofs.PieceSteps.{next_left, past}
use Rattle.tlsf_diagnosis.proofs.field_spots.piece_at.Goals as goal

pub returns-then-is_empty : goal.returns-then-is_empty
returns-then-is_empty c = past (pieces_of c.args.text.now) c.loop-i._i _ c.loop-i.rest.now c.loop-i.invariant (search rules) (omega arith)

pub loop-i-preserved : goal.loop-i-preserved
loop-i-preserved c = next_left (pieces_of c.args.text.now) c.loop-i._i _ _ (c.loop-i.invariant ∙ c.cut_piece.ensures.pieces)
