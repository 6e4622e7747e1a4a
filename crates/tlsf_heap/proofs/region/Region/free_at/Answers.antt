use Rattle.tlsf_heap.proofs.Common.{ℕ, List, sym, ◌∙◌, subst, arith, false≢true, InGroups}
use Rattle.tlsf_words.proofs.Touching.{no_groups, more_groups}
use Rattle.tlsf_heap.proofs.region.Region.free_at.Goals as goal

pub returns-then-not-begins-clause-answer : goal.returns-then-not-begins-clause-answer
returns-then-not-begins-clause-answer g c f = c.begins.ensures.no c.if-not-begins.true (f.0, f.1.stands)

-- ---- a block begins there

pub returns-then-not-is_free-clause-answer : goal.returns-then-not-is_free-clause-answer
returns-then-not-is_free-clause-answer g c f =
    let tag = (rw (c.begins.ensures.reads.blocks, c.begins.ensures.reads.words) at c.tag-tag.ensures.value) f.0 f.1.stands in
    false≢true (sym c.if-not-is_free.true ∙ c.is_free.ensures ∙ tag.free ∙ f.1.free)

pub returns-clause-answer : goal.returns-clause-answer
returns-clause-answer g c =
    let place = c.begins.ensures.yes c.if-not-begins.false in
    let tag = (rw (c.begins.ensures.reads.blocks, c.begins.ensures.reads.words) at c.tag-tag.ensures.value) place.0 place.1 in
    (place.0, record { stands = place.1; free = sym tag.free ∙ sym c.is_free.ensures ∙ c.if-not-is_free.false }, tag)

pub returns-then-not-is_free-clause-nowhere : goal.returns-then-not-is_free-clause-nowhere
returns-then-not-is_free-clause-nowhere g c none = absurd (none (c.begins.ensures.yes c.if-not-begins.false))

pub returns-clause-nowhere : goal.returns-clause-nowhere
returns-clause-nowhere g c none = absurd (none (c.begins.ensures.yes c.if-not-begins.false))

pub returns-then-not-is_free-clause-outside : goal.returns-then-not-is_free-clause-outside
returns-then-not-is_free-clause-outside g c past = absurd (let inside = c.begins.ensures.inside c.if-not-begins.false in omega (arith, inside, past))

pub returns-clause-outside : goal.returns-clause-outside
returns-clause-outside g c past = absurd (let inside = c.begins.ensures.inside c.if-not-begins.false in omega (arith, inside, past))

-- ---- groups of eight words

pub returns-then-not-begins-clause-groups : goal.returns-then-not-begins-clause-groups
returns-then-not-begins-clause-groups g c = more_groups (omega arith) (no_groups c.begins.ensures.untouched)

pub returns-then-not-is_free-clause-groups : goal.returns-then-not-is_free-clause-groups
returns-then-not-is_free-clause-groups g c = subst (λ (l : List ℕ). InGroups 1 l c.tag-tag.new.self.touched) c.begins.ensures.untouched c.tag-tag.ensures.groups

pub returns-clause-groups : goal.returns-clause-groups
returns-clause-groups g c = subst (λ (l : List ℕ). InGroups 1 l c.tag-tag.new.self.touched) c.begins.ensures.untouched c.tag-tag.ensures.groups

pub returns-then-not-is_free-clause-unread : goal.returns-then-not-is_free-clause-unread
returns-then-not-is_free-clause-unread g c none = absurd (none (c.begins.ensures.yes c.if-not-begins.false))

pub returns-clause-unread : goal.returns-clause-unread
returns-clause-unread g c none = absurd (none (c.begins.ensures.yes c.if-not-begins.false))
