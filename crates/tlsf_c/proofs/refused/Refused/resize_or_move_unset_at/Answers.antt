use Rattle.tlsf_c.proofs.Counted.{moved}
use Rattle.tlsf_c.proofs.refused.Refused.resize_or_move_unset_at.Goals as goal

pub returns-clause-counts : goal.returns-clause-counts
returns-clause-counts g c =
    let e = c.resize_or_move_unset_at-answer.ensures in moved c.args.heap.now c.resize_or_move_unset_at-answer.new.self _ _ c.args.at _ _ c.note.ensures e.frame.peak e.frame.keeps.reached e.frame.err
