use Rattle.tlsf_class.proofs.TwoLevels.{most_words_any}
use Rattle.tlsf_picture.proofs.Common.{◌≡◌, ◌+◌, ◌∷◌, ◌++◌, [], None, sym, ap, ◌∙◌, subst, arith, heap_of, HeapState, known_in, labelled}
use Rattle.tlsf_heap.specs.Lawful.{IsLawful}
use Rattle.tlsf_heap.specs.Placed.{placed_at}
use Rattle.tlsf_map.specs.declared.mapped_heap.LabelledBlock.{LabelledBlock}
use Rattle.tlsf_picture.proofs.Walking.{HasWalked, goes_on, walk_ends}
use Rattle.tlsf_picture.proofs.mapping.blocks_of.Goals as goal

pub overflow_add-at : goal.overflow_add-at
overflow_add-at g c =
    let goes = goes_on (labelled (known_in c.args.labels.now)) (heap_of c.args.worker.now) _ c.loop-block.at c.loop-block.blocks.items c.in-Some.block c.loop-block.invariant.left.heap c.in-Some.ensures.was_lawful
    c.in-Some.ensures.looks.answer_is c.loop-block.invariant.walked
    in
    let words = ap (λ (x : HeapState). x.words) c.loop-block.invariant.left.heap in
    omega (arith, goes.inside, words, c.in-Some.ensures.most, most_words_any g.row.SLI)

pub loop-block-smaller : goal.loop-block-smaller
loop-block-smaller g c =
    let goes = goes_on (labelled (known_in c.args.labels.now)) (heap_of c.args.worker.now) _ c.loop-block.at c.loop-block.blocks.items c.in-Some.block c.loop-block.invariant.left.heap c.in-Some.ensures.was_lawful
    c.in-Some.ensures.looks.answer_is c.loop-block.invariant.walked
    in
    omega (arith, goes.inside, goes.long)

pub loop-block-preserved : goal.loop-block-preserved
loop-block-preserved g c =
    let same = c.loop-block.invariant.left.heap in
    let label = labelled (known_in c.args.labels.now) in
    let goes = goes_on label (heap_of c.args.worker.now) _ c.loop-block.at c.loop-block.blocks.items c.in-Some.block c.loop-block.invariant.left.heap c.in-Some.ensures.was_lawful
    c.in-Some.ensures.looks.answer_is c.loop-block.invariant.walked
    in
    let items : c.push.new.self.items ≡ c.loop-block.blocks.items ++ label c.in-Some.block ∷ [] =
    c.in_ok-push.ensures.items ∙ ap (λ (b : LabelledBlock). c.loop-block.blocks.items ++ b ∷ []) c.labelled.ensures in
    record {
      left = record { heap = c.in-Some.ensures.looks.heap ∙ same; same = (c.in-Some.ensures.rest.same.0 ∙ c.loop-block.invariant.left.same.0, c.in-Some.ensures.rest.same.1 ∙ c.loop-block.invariant.left.same.1) };
      walked = subst (HasWalked label (heap_of c.args.worker.now).blocks (c.loop-block.at + c.in-Some.block.size)) (sym items) goes.walked;
    }

pub returns-clause-blocks : goal.returns-clause-blocks
returns-clause-blocks g c =
    let h = heap_of c.args.worker.now in
    let same = c.loop-block.invariant.left.heap in
    let lawful : IsLawful h = subst IsLawful same c.block_at.ensures.was_lawful in
    let none : placed_at h.blocks c.loop-block.at ≡ None = ap (λ (x : HeapState). placed_at x.blocks c.loop-block.at) (sym same) ∙ (sym c.block_at.ensures.looks.answer_is ∙ c.in_default.is) in
    walk_ends (labelled (known_in c.args.labels.now)) h c.loop-block.at c.loop-block.blocks.items lawful c.loop-block.invariant.walked none
