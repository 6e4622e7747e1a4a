use Rattle.tlsf_lines.proofs.PiecesJoin.{are_pieces}
use Rattle.tlsf_lines.proofs.laws.pieces_join.Goals as goal

pub returns : goal.returns
returns c = are_pieces
