use Rattle.std.proofs.Common.{rules, ap, ◌∙◌}
use Rattle.tlsf_heap.specs.Blocks.{HeapState}
use Rattle.tlsf_heap.specs.Calls.{released}
use Rattle.tlsf_offsets.specs.Offsets.{Offsets, IsOffsets}
use Rattle.tlsf_offsets.proofs.Spans.{gone, kept_released, stays, words_released}
use Rattle.tlsf_offsets.proofs.offset_arena.OffsetArena.release.Goals as goal

pub returns-clause-others : goal.returns-clause-others
returns-clause-others g c =
    kept_released c.args.self.now _ (ap (λ (o : Offsets). o.unit) c.self.view_is) c.args.name (c.release.ensures.releases.heap ∙ ap (λ (o : Offsets). (released o.heap c.args.name).heap) c.self.view_is)

pub returns-clause-gone : goal.returns-clause-gone
returns-clause-gone g c =
    let is : IsOffsets g.row.SLI c.args.self.now = search rules in
    gone c.args.self.now _ c.args.name c.release.result is.lawful (c.release.ensures.releases.answer_is ∙ ap (λ (o : Offsets). (released o.heap c.args.name).answer) c.self.view_is)
    (c.release.ensures.releases.heap ∙ ap (λ (o : Offsets). (released o.heap c.args.name).heap) c.self.view_is)

pub returns-clause-goes_on : goal.returns-clause-goes_on
returns-clause-goes_on g c =
    let is : IsOffsets g.row.SLI c.args.self.now = search rules in
    record {
      unit = ap (λ (o : Offsets). o.unit) c.self.view_is;
      stays = c.release.ensures.frame.keeps.stays ∙ ap (λ (o : Offsets). o.extents) c.self.view_is;
      was_lawful = is;
      lawful = stays g.row.SLI c.args.self.now _ is (ap (λ (o : Offsets). o.unit) c.self.view_is) (ap (λ (h : HeapState). h.words) c.release.ensures.releases.heap ∙ words_released c.self.inside.heap.heap c.args.name ∙ ap (λ (o : Offsets). o.heap.words) c.self.view_is) c.release.ensures.frame.keeps.lawful;
    }
