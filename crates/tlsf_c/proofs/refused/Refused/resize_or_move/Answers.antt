use Rattle.tlsf_c.proofs.Counted.{moved}
use Rattle.tlsf_c.proofs.refused.Refused.resize_or_move.Goals as goal

pub returns-clause-counts : goal.returns-clause-counts
returns-clause-counts g c =
    let e = c.resize_or_move-answer.ensures in moved c.args.heap.now c.resize_or_move-answer.new.self _ _ c.args.name.at _ _ c.note.ensures e.frame.peak e.frame.keeps.reached e.frame.err
