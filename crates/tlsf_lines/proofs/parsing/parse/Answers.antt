use Rattle.std.proofs.Common.{◌∙◌, refl, arith}
use Rattle.tlsf_lines.proofs.parsing.parse.Goals as goal

pub returns-clause-ok : goal.returns-clause-ok
returns-clause-ok g c =
    let header = c.in_ok-header.header in
    let heads = c.in_ok-header.ensures.ok in
    let has = c.in_ok-add_lines.ensures.ok in (
      record { header = header; lines = has.lines },
      record {
        spelled = heads.trace ∙ rw has.spelled refl;
        range = heads.range;
        count = omega (arith, has.count, heads.count);
      },
      c.in_ok-end.ensures header has.before has.lines has.held,
    )
