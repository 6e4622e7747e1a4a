use Rattle.tlsf_heap.proofs.Common.{sym, ◌∙◌}
use Rattle.tlsf_heap.proofs.lemmas.blocks.Neighbours.{live_next}
use Rattle.tlsf_heap.proofs.refitting.look_behind.Goals as goal

pub returns-then-is_free-clause-tag : goal.returns-then-is_free-clause-tag
returns-then-is_free-clause-tag g c i stands =
    let next = c.next_tag-next.ensures.tag i stands in
    record { next = next; size = next.size (sym c.is_free.ensures ∙ c.if-is_free.true) }

pub returns-else-is_free-clause-tag : goal.returns-else-is_free-clause-tag
returns-else-is_free-clause-tag g c i stands =
    let none = (c.next_tag-next.ensures.tag i stands).live (sym c.is_free.ensures ∙ c.if-is_free.false) in
    record { next = live_next none c.new.ensures.free; size = c.new.ensures.size ∙ sym none }
