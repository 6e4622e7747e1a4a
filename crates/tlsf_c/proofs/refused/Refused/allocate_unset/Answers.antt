use Rattle.tlsf_c.proofs.Counted.{requested}
use Rattle.tlsf_c.proofs.refused.Refused.allocate_unset.Goals as goal

pub returns-clause-counts : goal.returns-clause-counts
returns-clause-counts g c =
    let e = c.allocate_unset-answer.ensures in requested c.args.heap.now c.allocate_unset-answer.new.self _ _ _ _ c.note.ensures e.frame.peak e.frame.err
