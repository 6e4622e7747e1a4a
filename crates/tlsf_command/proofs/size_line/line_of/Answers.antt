use Rattle.tlsf_command.proofs.Common.{arith, contents_after_writes}
use Rattle.tlsf_class.proofs.TwoLevels.{most_words_any}
use Rattle.tlsf_command.proofs.SizeTables.{few_bytes, some_byte}
use Rattle.tlsf_command.proofs.size_line.line_of.Goals as goal

pub asked_bytes-requires : goal.asked_bytes-requires
asked_bytes-requires g c = omega (arith, few_bytes g.row.SLI c.args.kinds.now c.requires.reached)

pub new-sized-requires-clause-some : goal.new-sized-requires-clause-some
new-sized-requires-clause-some g c = omega (arith, c.asked_bytes.ensures, some_byte g.row.SLI c.args.kinds.now c.requires.some c.requires.reached.0)

pub new-sized-requires-clause-few : goal.new-sized-requires-clause-few
new-sized-requires-clause-few g c = omega (arith, c.asked_bytes.ensures, few_bytes g.row.SLI c.args.kinds.now c.requires.reached)

pub new-sized-requires-clause-most : goal.new-sized-requires-clause-most
new-sized-requires-clause-most g c = omega (arith, c.requires.law, c.requires.reached.1, most_words_any g.row.SLI)

pub returns : goal.returns
returns g c =
    let written = contents_after_writes _ (λ line. line.bytes) (λ old bytes new took. took) _ _ _ c.in_ok-writeln.ensures.writes in
    rw (c.new-line.ensures, c.new-sized.ensures.ratio, c.new-sized.ensures.words, c.asked_bytes.ensures, c.requires.law) at written
