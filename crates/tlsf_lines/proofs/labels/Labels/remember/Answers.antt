use Rattle.tlsf_lines.proofs.labels.Labels.remember.Goals as goal

pub returns-in_ok-make-in-Allocate-clause-recalls : goal.returns-in_ok-make-in-Allocate-clause-recalls
returns-in_ok-make-in-Allocate-clause-recalls c =
    λ workers before known count. rw c.in-Allocate.is (c.in_ok-make-in-Allocate.ensures.recalls workers c.in-Allocate.len before known count)
