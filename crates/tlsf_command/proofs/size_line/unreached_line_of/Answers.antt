use Rattle.tlsf_command.proofs.Common.{contents_after_writes}
use Rattle.tlsf_command.proofs.size_line.unreached_line_of.Goals as goal

pub returns : goal.returns
returns c =
    let written = contents_after_writes _ (λ line. line.bytes) (λ old bytes new took. took) _ _ _ c.in_ok-writeln.ensures.writes in
    rw (c.new-line.ensures, c.new-blocks_reached.ensures.count, c.new-blocks_reached.ensures.name, c.new-len.ensures.count, c.new-len.ensures.name, c.new-most.ensures.count, c.new-most.ensures.name, c.new-bytes_reached.ensures.count, c.new-bytes_reached.ensures.name) at written
