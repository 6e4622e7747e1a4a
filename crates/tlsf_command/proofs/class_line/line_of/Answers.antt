use Rattle.tlsf_command.proofs.Common.{◌∙◌, contents_after_writes}
use Rattle.tlsf_command.proofs.ClassLines.{pieces_join}
use Rattle.tlsf_command.proofs.class_line.line_of.Goals as goal

pub returns : goal.returns
returns g c =
    let written = contents_after_writes _ (λ line. line.bytes) (λ old bytes new took. took) _ _ _ c.in_ok-writeln.ensures.writes in
    let whole = rw (c.new-line.ensures, c.low.ensures, c.low-2.ensures, c.number.ensures.value, c.number-2.ensures.value) at written in
    whole ∙ pieces_join g.row.SLI c.args.words _ _ c.class_of-class.ensures c.search_of-search.ensures
