use Rattle.std.proofs.Common.{sym, ◌∙◌, arith}
use Rattle.tlsf_class.proofs.TwoLevels.{bounds_of, first_0, first_above, second_below}
use Rattle.tlsf_class.proofs.Lows.{low-most}
use Rattle.tlsf_class.proofs.ClassByBits.{low-small, low-shifts}
use Rattle.tlsf_class.proofs.class.low.Goals as goal

pub overflow_add-result-else-first_level-eq0 : goal.overflow_add-result-else-first_level-eq0
overflow_add-result-else-first_level-eq0 g c =
    let level = c.first_level-first_level.ensures.in_use.level in
    let above = first_above g.row.SLI level c.args.class (omega arith) in
    rw (c.first_level-first_level.ensures.value, c.second_level-else-first_level-eq0.ensures.value, low-shifts g.row.SLI level c.args.class above c.first_level-first_level.ensures.in_use.most)
    (omega (arith, low-most g.row.SLI level c.args.class c.first_level-first_level.ensures.in_use.most, (bounds_of g.row.SLI level).words))

pub returns-then-first_level-eq0 : goal.returns-then-first_level-eq0
returns-then-first_level-eq0 g c =
    let level = c.first_level-first_level.ensures.in_use.level in
    let second_level = first_0 g.row.SLI c.args.class (omega arith) in
    let below = second_below g.row.SLI level c.args.class in
    c.second_level.ensures.value ∙ second_level ∙ sym (low-small g.row.SLI level c.args.class (omega arith))

pub returns-else-first_level-eq0 : goal.returns-else-first_level-eq0
returns-else-first_level-eq0 g c =
    let level = c.first_level-first_level.ensures.in_use.level in
    rw (c.first_level-first_level.ensures.value, c.second_level-else-first_level-eq0.ensures.value)
    (low-shifts g.row.SLI level c.args.class (first_above g.row.SLI level c.args.class (omega arith)) c.first_level-first_level.ensures.in_use.most)
