use Rattle.std.proofs.Common.{sym, ◌∙◌, arith, refl}
use Rattle.tlsf_class.proofs.TwoLevels.{most_words_any}
use Rattle.tlsf_heap.proofs.lemmas.blocks.Neighbours.{tag_at, end_is, live_next, next_is, none_behind, place_behind, short_end, ends_within}
use Rattle.tlsf_words.proofs.Touching.{no_groups, more_groups}
use Rattle.tlsf_heap.proofs.fitting.next_tag.Goals as goal

pub returns-then-is_last-clause-tag : goal.returns-then-is_last-clause-tag
returns-then-is_last-clause-tag g c i stands =
    let is = tag_at g.row.SLI c.args.own c.requires.region.sized c.requires.own stands in
    live_next (none_behind c.requires.region.whole stands (end_is c.requires.region.whole stands is (sym c.is_last.ensures ∙ c.if-is_last.true))) c.new.ensures.free

pub overflow_add-at : goal.overflow_add-at
overflow_add-at g c =
    let own = c.requires.own in
    omega (arith, c.size.ensures.value, own.2.size, ends_within c.requires.region.whole own.1, c.requires.region.whole, c.requires.region.small, most_words_any g.row.SLI)

pub tag-requires : goal.tag-requires
tag-requires g c =
    let own = c.requires.own in
    (omega arith, rw (c.size.ensures.value, own.2.size) (place_behind c.requires.region.whole own.1 (short_end c.requires.region.whole own.1 own.2 (sym c.is_last.ensures ∙ c.if-is_last.false))))

pub returns-clause-tag : goal.returns-clause-tag
returns-clause-tag g c i stands =
    let is = tag_at g.row.SLI c.args.own c.requires.region.sized c.requires.own stands in
    next_is c.requires.region.whole g.row.SLI c.requires.region.sized stands (short_end c.requires.region.whole stands is (sym c.is_last.ensures ∙ c.if-is_last.false))
    ((rw (c.size.ensures.value, is.size) at c.tag.ensures.value))

pub returns-then-is_last-clause-groups : goal.returns-then-is_last-clause-groups
returns-then-is_last-clause-groups g c = more_groups (omega arith) (no_groups {old = c.args.region.now.touched} refl)
