use Rattle.std.proofs.Common.{sym, ◌∙◌}
use Rattle.tlsf_picture.proofs.Standings.{same_heap, worse_heap}
use Rattle.tlsf_picture.proofs.plots.worst.worse_named.Goals as goal

pub returns-then-is_worse : goal.returns-then-is_worse
returns-then-is_worse c = λ trace heap has named. worse_heap trace heap c.args.worst c.args.next has named (sym c.is_worse.ensures ∙ c.if-is_worse.true)

pub returns-else-is_worse : goal.returns-else-is_worse
returns-else-is_worse c = λ trace heap has named. same_heap trace heap c.args.worst c.args.next has named (sym c.is_worse.ensures ∙ c.if-is_worse.false)
