use Rattle.tlsf_heap.proofs.Common.{ℕ, sym, ap, ◌∙◌, eq-eqb, List, subst, arith, ◌==◌, RegionState, times, InGroups}
use Rattle.tlsf_heap.proofs.lemmas.words.Says.{none_named, named_here, has_serial-live}
use Rattle.tlsf_words.proofs.Touching.{more_groups, groups_then}
use Rattle.tlsf_heap.proofs.region.Region.find_live.Goals as goal
use Rattle.tlsf_heap.proofs.region.Region.find_live.Goals.{then-is_free-via-then-is_free, then-is_free-via-else-is_free+then-mark-serial}

pub returns-then-not-begins-clause-answer : goal.returns-then-not-begins-clause-answer
returns-then-not-begins-clause-answer g c = none_named c.args.at c.args.serial (λ i stands. absurd (c.begins.ensures.no c.if-not-begins.true (i, stands)))

-- ---- a block begins there

pub returns-clause-answer : goal.returns-clause-answer
returns-clause-answer g c =
    let place = c.begins.ensures.yes c.if-not-begins.false in
    let tag = (rw (c.begins.ensures.reads.blocks, c.begins.ensures.reads.words) at c.tag-tag.ensures.value) place.0 place.1 in
    let mark = (rw (c.tag-tag.ensures.reads.blocks ∙ c.begins.ensures.reads.blocks) at c.mark.ensures.value) place.0 place.1 in
    let serial = has_serial-live _ c.args.serial (sym tag.free ∙ sym c.is_free.ensures ∙ c.if-is_free.false) ∙ ap (λ (n : ℕ). n == c.args.serial) (sym mark) ∙ eq-eqb c.mark.result c.args.serial c.if-mark-serial.false in
    ((place.0, named_here c.begins.ensures.rooms c.args.serial place.1 serial), tag)

pub returns-clause-nowhere : goal.returns-clause-nowhere
returns-clause-nowhere g c inside none = absurd (none (c.begins.ensures.yes c.if-not-begins.false))

-- ---- the tag and the serial

pub returns-then-is_free-clause-only : goal.returns-then-is_free-clause-only
returns-then-is_free-clause-only g c k tag serial =
    let tagged = c.tag-tag.ensures.only k tag serial ∙ ap (λ (l : List ℕ). times l k) c.begins.ensures.untouched in
    elim c.then-is_free.branch [
      | then-is_free-via-then-is_free w ↦ ap (λ (r : RegionState). times r.touched k) w.self-is ∙ tagged
      | then-is_free-via-else-is_free+then-mark-serial w ↦ ap (λ (r : RegionState). times r.touched k) w.self-is ∙ w.mark.ensures.only k tag serial ∙ tagged
    ]

pub returns-clause-only : goal.returns-clause-only
returns-clause-only g c k tag serial = c.mark.ensures.only k tag serial ∙ c.tag-tag.ensures.only k tag serial ∙ ap (λ (l : List ℕ). times l k) c.begins.ensures.untouched

-- ---- groups of eight words

pub returns-then-is_free-clause-groups : goal.returns-then-is_free-clause-groups
returns-then-is_free-clause-groups g c =
    let tagged = subst (λ (l : List ℕ). InGroups 1 l c.tag-tag.new.self.touched) c.begins.ensures.untouched c.tag-tag.ensures.groups in
    elim c.then-is_free.branch [
      | then-is_free-via-then-is_free w ↦ subst (λ (r : RegionState). InGroups 2 c.args.self.now.touched r.touched) (sym w.self-is) (more_groups (omega arith) tagged)
      | then-is_free-via-else-is_free+then-mark-serial w ↦ subst (λ (r : RegionState). InGroups 2 c.args.self.now.touched r.touched) (sym w.self-is) (groups_then tagged w.mark.ensures.groups)
    ]

pub returns-clause-groups : goal.returns-clause-groups
returns-clause-groups g c =
    let tagged = subst (λ (l : List ℕ). InGroups 1 l c.tag-tag.new.self.touched) c.begins.ensures.untouched c.tag-tag.ensures.groups in
    groups_then tagged c.mark.ensures.groups
