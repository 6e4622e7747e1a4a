use Rattle.tlsf_command.proofs.Common.{arith, sym, contents_after_writes}
use Rattle.tlsf_command.proofs.SizeTables.{some_byte}
use Rattle.tlsf_command.proofs.SplitParts.{split_bytes, split_count, split_words}
use Rattle.tlsf_command.proofs.split_lines.lines_of.Goals as goal

pub overflow_cast-split : goal.overflow_cast-split
overflow_cast-split g c = omega (arith, split_words g.row.SLI c.args.kinds.now c.args.split.now c.requires.has.cheapest)

pub asked_bytes-requires : goal.asked_bytes-requires
asked_bytes-requires g c = split_bytes g.row.SLI c.requires.has.level c.args.kinds.now c.args.split.now c.requires.has.cheapest

pub new-sized-requires-clause-some : goal.new-sized-requires-clause-some
new-sized-requires-clause-some g c = omega (arith, c.asked_bytes.ensures, some_byte g.row.SLI c.args.kinds.now c.requires.some c.requires.has.cheapest.servable)

pub new-sized-requires-clause-few : goal.new-sized-requires-clause-few
new-sized-requires-clause-few g c = omega (arith, c.asked_bytes.ensures, split_bytes g.row.SLI c.requires.has.level c.args.kinds.now c.args.split.now c.requires.has.cheapest)

pub new-sized-requires-clause-most : goal.new-sized-requires-clause-most
new-sized-requires-clause-most g c = omega (arith, split_words g.row.SLI c.args.kinds.now c.args.split.now c.requires.has.cheapest)

pub returns : goal.returns
returns g c =
    let written = contents_after_writes _ (λ line. line.bytes) (λ old bytes new took. took) _ _ _ c.in_ok-writeln.ensures.writes in
    let told = rw (c.in_ok-add_heap_lines.ensures, c.new-lines.ensures, c.new-sized.ensures.ratio, c.new-sized.ensures.words, c.asked_bytes.ensures) at written in
    rw (split_count c.args.split.now c.args.kinds.now, sym c.requires.has.cheapest.least.words) told
