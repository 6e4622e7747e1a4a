use Rattle.tlsf_arena.proofs.SameBlock.{same_block}
use Rattle.tlsf_arena.proofs.arena.Arena.release.Goals as goal

pub returns-in-Err-clause-back : goal.returns-in-Err-clause-back
returns-in-Err-clause-back g c = same_block g.row.UNIT c.in-Err.piece c.in-Err.right c.args.block _ _ c.in-Err.ensures.back.0 c.in-Err.ensures.back.1
