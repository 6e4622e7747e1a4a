use Rattle.std.proofs.Common.{sym, ◌∙◌, arith}
use Rattle.tlsf_heap.proofs.lemmas.blocks.ByPlace.{placed_found, placed_none, content-free, content-live}
use Rattle.tlsf_heap.proofs.region.Region.block_at.Goals as goal

pub returns-then-not-begins-clause-answer : goal.returns-then-not-begins-clause-answer
returns-then-not-begins-clause-answer g c = sym (placed_none (c.begins.ensures.no c.if-not-begins.true))

pub returns-then-is_free-clause-answer : goal.returns-then-is_free-clause-answer
returns-then-is_free-clause-answer g c =
    let place = c.begins.ensures.yes c.if-not-begins.false in
    let i = place.0 in
    let tag = (rw c.begins.ensures.reads.blocks at c.tag-tag.ensures.value) i place.1 in
    let mark = (rw (c.tag-tag.ensures.reads.blocks ∙ c.begins.ensures.reads.blocks) at c.mark-mark.ensures.value) i place.1 in
    rw (c.size-size.ensures.value, tag.size, mark, sym (content-free _ (sym tag.free ∙ sym c.is_free.ensures ∙ c.if-is_free.true))) (sym (placed_found c.begins.ensures.rooms place.1))

pub returns-then-is_free-clause-outside : goal.returns-then-is_free-clause-outside
returns-then-is_free-clause-outside g c past = absurd (let inside = c.begins.ensures.inside c.if-not-begins.false in omega (arith, inside, past))

pub returns-else-is_free-clause-answer : goal.returns-else-is_free-clause-answer
returns-else-is_free-clause-answer g c =
    let place = c.begins.ensures.yes c.if-not-begins.false in
    let i = place.0 in
    let tag = (rw c.begins.ensures.reads.blocks at c.tag-tag.ensures.value) i place.1 in
    let mark = (rw (c.tag-tag.ensures.reads.blocks ∙ c.begins.ensures.reads.blocks) at c.mark-mark.ensures.value) i place.1 in
    let held = (rw (c.mark-mark.ensures.reads.blocks ∙ c.tag-tag.ensures.reads.blocks ∙ c.begins.ensures.reads.blocks) at c.length.ensures.value) i place.1 in
    rw (c.size-size.ensures.value, tag.size, mark, held, sym (content-live _ (sym tag.free ∙ sym c.is_free.ensures ∙ c.if-is_free.false))) (sym (placed_found c.begins.ensures.rooms place.1))

pub returns-else-is_free-clause-outside : goal.returns-else-is_free-clause-outside
returns-else-is_free-clause-outside g c past = absurd (let inside = c.begins.ensures.inside c.if-not-begins.false in omega (arith, inside, past))

pub returns-then-is_free-clause-unread : goal.returns-then-is_free-clause-unread
returns-then-is_free-clause-unread g c none = absurd (none (c.begins.ensures.yes c.if-not-begins.false))

pub returns-else-is_free-clause-unread : goal.returns-else-is_free-clause-unread
returns-else-is_free-clause-unread g c none = absurd (none (c.begins.ensures.yes c.if-not-begins.false))
