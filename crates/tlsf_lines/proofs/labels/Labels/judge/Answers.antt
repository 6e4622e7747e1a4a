use Rattle.tlsf_lines.proofs.labels.Labels.judge.Goals as goal

pub returns-in-Release-clause-made : goal.returns-in-Release-clause-made
returns-in-Release-clause-made c = λ workers before recalls. rw c.in-Release.is (c.judge_use.ensures.made workers before recalls)

pub returns-in-Write-clause-made : goal.returns-in-Write-clause-made
returns-in-Write-clause-made c = λ workers before recalls. rw c.in-Write.is (c.judge_use-in-Write.ensures.made workers before recalls)

pub returns-in-Read-clause-made : goal.returns-in-Read-clause-made
returns-in-Read-clause-made c = λ workers before recalls. rw c.in-Read.is (c.judge_use-in-Read.ensures.made workers before recalls)

pub returns-in-Resize-clause-made : goal.returns-in-Resize-clause-made
returns-in-Resize-clause-made c = λ workers before recalls. rw c.in-Resize.is (c.judge_use-in-Resize.ensures.made workers before recalls)
