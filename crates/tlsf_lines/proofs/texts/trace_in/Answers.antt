use Rattle.std.proofs.lemmas.Result.{err_from_is_err_and}
use Rattle.tlsf_lines.proofs.TextFault.{text_fault}
use Rattle.tlsf_lines.proofs.texts.trace_in.Goals as goal

pub returns-in_err-parse-clause-err : goal.returns-in_err-parse-clause-err
returns-in_err-parse-clause-err c =
    let p = err_from_is_err_and c.from_residual.result c.from_residual.ensures.1 in
    rw (p.1, p.2) (text_fault _ c.args.text.now c.in_err-parse.ensures.err)
