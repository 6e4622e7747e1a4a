use Rattle.std.proofs.Common.{ℕ, List, length, ap, ◌∙◌, arith}
use Rattle.std.proofs.lemmas.Result.{err_from_is_err_and}
use Rattle.tlsf_lines.proofs.ScriptSteps.{ends_count}
use Rattle.tlsf_lines.proofs.TextFault.{text_fault}
use Rattle.tlsf_lines.proofs.texts.script_in.Goals as goal

pub returns-in_err-parse-clause-err : goal.returns-in_err-parse-clause-err
returns-in_err-parse-clause-err c =
    let p = err_from_is_err_and c.from_residual.result c.from_residual.ensures.1 in
    rw (p.1, p.2) (text_fault _ c.args.text.now c.in_err-parse.ensures.err)

pub returns-clause-lines : goal.returns-clause-lines
returns-clause-lines c =
    let spelled = c.in_ok-parse.ensures.ok in
    let trace = spelled.0 in
    let many = ap (λ (l : List ℕ). length l) spelled.2.ends ∙ ends_count trace.header.workers 0 trace.lines in
    omega (arith, many, spelled.1.count, c.requires.lines)
