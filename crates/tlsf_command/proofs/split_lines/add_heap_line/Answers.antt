use Rattle.tlsf_command.proofs.Common.{arith, contents_after_writes}
use Rattle.tlsf_command.proofs.SizeTables.{some_byte}
use Rattle.tlsf_command.proofs.SplitParts.{few_bytes}
use Rattle.tlsf_command.proofs.split_lines.add_heap_line.Goals as goal

pub asked_bytes-requires : goal.asked_bytes-requires
asked_bytes-requires g c = omega (arith, few_bytes g.row.SLI c.requires.level c.args.part.now c.requires.servable c.requires.is)

pub new-sized-requires-clause-some : goal.new-sized-requires-clause-some
new-sized-requires-clause-some g c = omega (arith, c.asked_bytes.ensures, some_byte g.row.SLI c.args.part.now c.requires.is.0 c.requires.servable)

pub new-sized-requires-clause-few : goal.new-sized-requires-clause-few
new-sized-requires-clause-few g c = omega (arith, c.asked_bytes.ensures, few_bytes g.row.SLI c.requires.level c.args.part.now c.requires.servable c.requires.is)

pub returns : goal.returns
returns g c =
    let written = contents_after_writes _ (λ line. line.bytes) (λ old bytes new took. took) _ _ _ c.in_ok-writeln.ensures.writes in
    rw (c.new-longest.ensures.count, c.new-longest.ensures.name, c.longest_of.ensures, c.new-sized.ensures.ratio, c.new-sized.ensures.words, c.asked_bytes.ensures, c.fixed_kinds_words.ensures) at written
