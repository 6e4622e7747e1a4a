use Rattle.tlsf_command.proofs.Common.{◌≤◌, arith, subst, sym, IsGreatest, IsReached}
use Rattle.tlsf_command.proofs.Greatest.{longest_is}
use Rattle.tlsf_command.proofs.size_line.bytes_for.Goals as goal

pub returns : goal.returns
returns g c =
    let some : 1 ≤ c.args.most = omega (arith, c.if-most-eq0.false) in
    subst (IsGreatest (λ len. IsReached g.row.SLI c.args.most len)) (sym c.unwrap_or.ensures)
    (longest_is g.row.SLI c.requires c.args.most c.longest_request.result some c.longest_request.ensures.reached c.longest_request.ensures.greatest c.longest_request.ensures.none)
