use Rattle.tlsf_heap.proofs.Common.{sym, ◌∙◌, arith, ℕ, List, subst, InGroups}
use Rattle.tlsf_heap.proofs.lemmas.calls.ByPlace.{serial_free, serial_nowhere}
use Rattle.tlsf_heap.proofs.region.Region.live_at.Goals as goal

pub returns-then-not-begins-clause-answer : goal.returns-then-not-begins-clause-answer
returns-then-not-begins-clause-answer g c = serial_nowhere (c.begins.ensures.no c.if-not-begins.true)

-- ---- a block begins there

pub returns-then-is_free-clause-answer : goal.returns-then-is_free-clause-answer
returns-then-is_free-clause-answer g c =
    let place = c.begins.ensures.yes c.if-not-begins.false in
    let tag = (rw (c.begins.ensures.reads.blocks, c.begins.ensures.reads.words) at c.tag-tag.ensures.value) place.0 place.1 in
    serial_free c.begins.ensures.rooms place.1 (sym tag.free ∙ sym c.is_free.ensures ∙ c.if-is_free.true)

pub returns-clause-answer : goal.returns-clause-answer
returns-clause-answer g c =
    let place = c.begins.ensures.yes c.if-not-begins.false in
    let tag = (rw (c.begins.ensures.reads.blocks, c.begins.ensures.reads.words) at c.tag-tag.ensures.value) place.0 place.1 in
    (place.0, record { stands = place.1; live = sym tag.free ∙ sym c.is_free.ensures ∙ c.if-is_free.false }, tag)

pub returns-then-is_free-clause-nowhere : goal.returns-then-is_free-clause-nowhere
returns-then-is_free-clause-nowhere g c none = absurd (none (c.begins.ensures.yes c.if-not-begins.false))

pub returns-clause-nowhere : goal.returns-clause-nowhere
returns-clause-nowhere g c none = absurd (none (c.begins.ensures.yes c.if-not-begins.false))

pub returns-then-is_free-clause-outside : goal.returns-then-is_free-clause-outside
returns-then-is_free-clause-outside g c past = absurd (let inside = c.begins.ensures.inside c.if-not-begins.false in omega (arith, inside, past))

pub returns-clause-outside : goal.returns-clause-outside
returns-clause-outside g c past = absurd (let inside = c.begins.ensures.inside c.if-not-begins.false in omega (arith, inside, past))

-- ---- groups of eight words

pub returns-then-is_free-clause-groups : goal.returns-then-is_free-clause-groups
returns-then-is_free-clause-groups g c = subst (λ (l : List ℕ). InGroups 1 l c.tag-tag.new.self.touched) c.begins.ensures.untouched c.tag-tag.ensures.groups

pub returns-clause-groups : goal.returns-clause-groups
returns-clause-groups g c = subst (λ (l : List ℕ). InGroups 1 l c.tag-tag.new.self.touched) c.begins.ensures.untouched c.tag-tag.ensures.groups

pub returns-then-is_free-clause-unread : goal.returns-then-is_free-clause-unread
returns-then-is_free-clause-unread g c none = absurd (none (c.begins.ensures.yes c.if-not-begins.false))

pub returns-clause-unread : goal.returns-clause-unread
returns-clause-unread g c none = absurd (none (c.begins.ensures.yes c.if-not-begins.false))
