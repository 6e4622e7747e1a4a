use Rattle.tlsf_command.proofs.Common.{contents_after_writes}
use Rattle.tlsf_command.proofs.unreached_table.table_line_of.Goals as goal

pub returns : goal.returns
returns c =
    let written = contents_after_writes _ (λ line. line.bytes) (λ old bytes new took. took) _ _ _ c.in_ok-writeln.ensures.writes in
    rw (c.new-line.ensures, c.new-front.ensures.count, c.new-front.ensures.name, c.new-most.ensures.count, c.new-most.ensures.name, c.new-len.ensures.count, c.new-len.ensures.name) at written
