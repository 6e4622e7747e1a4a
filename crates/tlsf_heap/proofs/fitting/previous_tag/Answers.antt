use Rattle.std.proofs.Common.{arith, refl}
use Rattle.tlsf_class.proofs.TwoLevels.{words_any}
use Rattle.tlsf_heap.proofs.lemmas.blocks.Neighbours.{tag_at, live_previous, none_before, some_before, place_before, previous_is}
use Rattle.tlsf_words.proofs.Touching.{no_groups, more_groups}
use Rattle.tlsf_heap.proofs.fitting.previous_tag.Goals as goal

pub returns-then-at-eq0-clause-tag : goal.returns-then-at-eq0-clause-tag
returns-then-at-eq0-clause-tag g c i stands = live_previous (none_before c.requires.region.whole stands c.if-at-eq0.true) c.new.ensures.free

pub tag-requires : goal.tag-requires
tag-requires g c =
    let own = c.requires.own in
    let some = some_before c.requires.region.whole (words_any g.row.SLI _ c.requires.region.small) own.1 c.if-at-eq0.false in
    (omega arith, rw (c.back.ensures, own.2.back) (place_before c.requires.region.whole own.1 some))

pub returns-clause-tag : goal.returns-clause-tag
returns-clause-tag g c i stands =
    let is = tag_at g.row.SLI c.args.own c.requires.region.sized c.requires.own stands in
    let some = some_before c.requires.region.whole (words_any g.row.SLI _ c.requires.region.small) stands c.if-at-eq0.false in
    previous_is c.requires.region.whole g.row.SLI c.requires.region.sized stands some (rw (c.back.ensures, is.back) at c.tag.ensures.value)

pub returns-then-at-eq0-clause-groups : goal.returns-then-at-eq0-clause-groups
returns-then-at-eq0-clause-groups g c = more_groups (omega arith) (no_groups {old = c.args.region.now.touched} refl)
