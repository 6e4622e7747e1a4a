use Rattle.tlsf_command.proofs.Common.{contents_after_writes}
use Rattle.tlsf_command.proofs.split_lines.falling_line_of.Goals as goal

pub returns : goal.returns
returns c =
    let written = contents_after_writes _ (λ line. line.bytes) (λ old bytes new took. took) _ _ _ c.in_ok-writeln.ensures.writes in
    rw (c.new-line.ensures, c.new-own.ensures.count, c.new-own.ensures.name, c.new-longer.ensures.count, c.new-longer.ensures.name) at written
