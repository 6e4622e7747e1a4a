use Rattle.tlsf_command.proofs.Common.{contents_after_writes}
use Rattle.tlsf_command.proofs.unreached_table.unpaired_line_of.Goals as goal

pub returns : goal.returns
returns c =
    let written = contents_after_writes _ (λ line. line.bytes) (λ old bytes new took. took) _ _ _ c.in_ok-writeln.ensures.writes in
    rw (c.new-line.ensures, c.new-blocks_given.ensures.count, c.new-blocks_given.ensures.name, c.new-bytes_given.ensures.count, c.new-bytes_given.ensures.name) at written
