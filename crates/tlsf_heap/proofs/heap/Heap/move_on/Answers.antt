use Rattle.tlsf_heap.proofs.Common.{◌+◌, arith, sym, ◌∙◌, subst, false≢true, HeapState, IsOthersWord, GiveFrom, Fit}
use Rattle.tlsf_heap.proofs.lemmas.calls.AllocateAligned.{room_has, has_within, shrink_done, from_done_there, moved_left}
use Rattle.tlsf_heap.proofs.lemmas.words.Footprint.{any_word}
use Rattle.tlsf_heap.proofs.lemmas.calls.Leaves.{word_step}
use Rattle.tlsf_words.proofs.Touching.{more_groups, groups_then}
use Rattle.tlsf_heap.proofs.heap.Heap.move_on.Given.{Over}
use Rattle.tlsf_heap.proofs.heap.Heap.move_on.Goals as goal

-- ---- no call is refused

stays : (g : Over) (c : goal.After-from_residual g) → ⊥
stays g c =
    let has = room_has c.args.self.now.heap c.args.name (c.args.gap + c.args.words) c.requires.live (omega (arith, c.requires.least)) c.requires.room in
    shrink_done c.args.self.now.heap c.args.name c.args.gap c.args.words c.resize_live.ensures.frame.keeps.was_lawful has c.requires.least c.requires.left c.in_err-resize_live.field-0.0 c.args.words (omega arith) c.in_err-resize_live.ensures.resizes.answer_is

pub returns-in_err-resize_live-clause-answer : goal.returns-in_err-resize_live-clause-answer
returns-in_err-resize_live-clause-answer g c = absurd (stays g c)

pub returns-in_err-resize_live-clause-ok : goal.returns-in_err-resize_live-clause-ok
returns-in_err-resize_live-clause-ok g c = absurd (stays g c)

cut : (g : Over) (c : goal.After-from_residual-in_err-resize_live-2 g) → ⊥
cut g c =
    let has = room_has c.args.self.now.heap c.args.name (c.args.gap + c.args.words) c.requires.live (omega (arith, c.requires.least)) c.requires.room in
    shrink_done c.args.self.now.heap c.args.name c.args.gap c.args.words c.resize_live-2.ensures.frame.keeps.was_lawful has c.requires.least c.requires.left c.in_err-resize_live-2.field-0.0 c.args.gap (omega arith) c.in_err-resize_live-2.ensures.resizes.answer_is

pub returns-in_err-resize_live-2-clause-answer : goal.returns-in_err-resize_live-2-clause-answer
returns-in_err-resize_live-2-clause-answer g c = absurd (cut g c)

pub returns-in_err-resize_live-2-clause-heap : goal.returns-in_err-resize_live-2-clause-heap
returns-in_err-resize_live-2-clause-heap g c = absurd (cut g c)

pub returns-in_err-resize_live-2-clause-ok : goal.returns-in_err-resize_live-2-clause-ok
returns-in_err-resize_live-2-clause-ok g c = absurd (cut g c)

pub overflow_add-name : goal.overflow_add-name
overflow_add-name g c =
    let has = room_has c.args.self.now.heap c.args.name (c.args.gap + c.args.words) c.requires.live (omega (arith, c.requires.least)) c.requires.room in
    omega (arith, has_within c.args.self.now.heap c.args.name (c.args.gap + c.args.words) c.resize_live-2.ensures.frame.keeps.was_lawful has, c.requires.small)

given : (g : Over) (c : goal.After-from_residual-in_err-moved g) → ⊥
given g c =
    let has = room_has c.args.self.now.heap c.args.name (c.args.gap + c.args.words) c.requires.live (omega (arith, c.requires.least)) c.requires.room in
    let there = from_done_there c.args.self.now.heap c.args.name c.args.gap c.args.words c.resize_live-2.ensures.frame.keeps.was_lawful has c.requires.least c.requires.left c.resize_live-2.new.self.heap c.resize_live-2.ensures.resizes.heap in
    false≢true (c.in_err-moved.ensures.cases.ok.1 there)

pub returns-in_err-moved-clause-heap : goal.returns-in_err-moved-clause-heap
returns-in_err-moved-clause-heap g c = absurd (given g c)

pub returns-in_err-moved-clause-ok : goal.returns-in_err-moved-clause-ok
returns-in_err-moved-clause-ok g c = absurd (given g c)

pub release_live-requires : goal.release_live-requires
release_live-requires g c =
    let has = room_has c.args.self.now.heap c.args.name (c.args.gap + c.args.words) c.requires.live (omega (arith, c.requires.least)) c.requires.room in
    let same = c.resize_live-2.ensures.resizes.heap in
    let left = moved_left c.args.self.now.heap c.args.name c.args.gap c.args.words c.resize_live-2.ensures.frame.keeps.was_lawful has c.requires.least c.requires.left
    c.words_from.new.self.heap c.in_ok-moved.moved (rw same at c.words_from.ensures.heap) (rw same at c.in_ok-moved.ensures.answer) in
    (omega arith, (left.0, left.1))

-- ---- the payloads of other blocks

pub returns-in_err-moved-clause-leaves : goal.returns-in_err-moved-clause-leaves
returns-in_err-moved-clause-leaves g c k o =
    let h = c.args.self.now.heap in
    let name = c.args.name in
    let cut = c.resize_live-2.ensures in
    let small = c.resize_live-2.new.self.heap in
    let left = subst (λ (s : HeapState). IsOthersWord s.blocks name.at k) (sym cut.resizes.heap) (word_step h name.at k o 0 (Fit name c.args.gap 0) o.4) in
    c.words_from.ensures.leaves k (any_word small.blocks name.at k left) ∙ cut.resizes.leaves k o

pub returns-clause-leaves : goal.returns-clause-leaves
returns-clause-leaves g c k o =
    let h = c.args.self.now.heap in
    let name = c.args.name in
    let cut = c.resize_live-2.ensures in
    let small = c.resize_live-2.new.self.heap in
    let left = subst (λ (s : HeapState). IsOthersWord s.blocks name.at k) (sym cut.resizes.heap) (word_step h name.at k o 0 (Fit name c.args.gap 0) o.4) in
    let given = subst (λ (s : HeapState). IsOthersWord s.blocks name.at k) (sym c.words_from.ensures.heap) (word_step small name.at k left 0 (GiveFrom (name.at + c.args.gap) c.args.words) tt) in
    c.release_live.ensures.releases.leaves k given ∙ c.words_from.ensures.leaves k (any_word small.blocks name.at k left) ∙ cut.resizes.leaves k o

-- ---- groups of eight words

pub returns-in_err-resize_live-clause-groups : goal.returns-in_err-resize_live-clause-groups
returns-in_err-resize_live-clause-groups g c = absurd (stays g c)

pub returns-then-gap-eq0-clause-groups : goal.returns-then-gap-eq0-clause-groups
returns-then-gap-eq0-clause-groups g c = more_groups (omega arith) c.resize_live.ensures.frame.groups

pub returns-in_err-resize_live-2-clause-groups : goal.returns-in_err-resize_live-2-clause-groups
returns-in_err-resize_live-2-clause-groups g c = absurd (cut g c)

pub returns-in_err-moved-clause-groups : goal.returns-in_err-moved-clause-groups
returns-in_err-moved-clause-groups g c = absurd (given g c)

pub returns-clause-groups : goal.returns-clause-groups
returns-clause-groups g c = more_groups (omega arith) (groups_then (groups_then c.resize_live-2.ensures.frame.groups c.words_from.ensures.frame.groups) c.release_live.ensures.frame.groups)
