use Rattle.std.proofs.Common.{ℕ, List, length, ap, ◌∙◌, arith}
use Rattle.tlsf_lines.proofs.ScriptSteps.{ends_count}
use Rattle.tlsf_picture.proofs.drawing.line_in.Goals as goal

pub returns-in-None : goal.returns-in-None
returns-in-None c = λ trace is.
    let many = ap (λ (l : List ℕ). length l) is.ends ∙ ends_count trace.header.workers 0 trace.lines in
    rw c.in-None.is (omega (arith, many, c.len.ensures))
