use Rattle.tlsf_arena.proofs.Common.{◌+◌, ◌*◌, sym, ap, subst, ◌∙◌, rules, HeapState, without, IsBook}
use Rattle.tlsf_arena.proofs.Books.{after_release}
use Rattle.tlsf_arena.proofs.Effects.{releases_done}
use Rattle.tlsf_heap.specs.Steps.{Take}
use Rattle.tlsf_heap.proofs.lemmas.calls.Outcomes.{ids_step}
use Rattle.tlsf_arena.proofs.Mapped.{frees}
use Rattle.tlsf_arena.proofs.arena.Arena.give.Goals as goal

pub replace_with-requires : goal.replace_with-requires
replace_with-requires g c =
    let piece = c.args.piece in
    let region = c.requires.lent.region ∙ sym (ap (λ s. s.region) c.self.view_is) in
    let got = frees c.self.inside.book.out c.args.right.loan (ap (λ s. s.heap) c.deref_mut.ensures.value) c.self.invariant.0 c.self.invariant.3 c.replace_with-right.ensures.2 c.requires.lent.loan.0 c.release.ensures.frame.keeps.was_lawful
    (sym c.in-Ok.is ∙ c.release.ensures.releases.answer_is) c.release.ensures.releases.heap c.self.inside.space.region.start piece.at piece.size (c.requires.lent.place ∙ ap (λ r. r.start + g.row.UNIT * c.args.name.at) region) c.requires.lent.loan.1 in
    (region, got.0)

pub invariant_of-self : goal.invariant_of-self
invariant_of-self g c =
    let a = c.self.inside in
    let piece = c.args.piece in
    let known = c.replace_with-right.ensures in
    let value = ap (λ s. s.heap) c.deref_mut.ensures.value in
    let heap = c.release.ensures.releases.heap in
    let region = c.requires.lent.region ∙ sym (ap (λ s. s.region) c.self.view_is) in
    let got = frees c.self.inside.book.out c.args.right.loan value c.self.invariant.0 c.self.invariant.3 known.2 c.requires.lent.loan.0 c.release.ensures.frame.keeps.was_lawful
    (sym c.in-Ok.is ∙ c.release.ensures.releases.answer_is) heap a.space.region.start piece.at piece.size (c.requires.lent.place ∙ ap (λ r. r.start + g.row.UNIT * c.args.name.at) region) c.requires.lent.loan.1 in
    let back = c.replace_with.ensures in
    let left = c.replace_with-in-Ok.ensures.1 ∙ (λ i. without (known.1 i).loan (known.0 i).out) in
    let book = subst (IsBook a.book.out) (sym value) c.self.invariant.3 in (
      got.1 c.replace_with.new.dest.free back.2,
      (back.0 ∙ c.self.invariant.1.0, c.self.invariant.1.1),
      c.self.invariant.2 ∙ ap (λ (h : HeapState). h.id) (sym value) ∙ sym (ap (λ (h : HeapState). h.id) heap ∙ ids_step 0 c.deref_mut.result.now.heap (Take c.args.name)),
      after_release c.deref_mut.result.now.heap c.release.new.self.heap c.args.name c.args.right.loan a.book.out c.replace_with-in-Ok.new.dest.out book known.2 c.requires.lent.loan.0 heap c.release.ensures.frame.keeps.lawful left,
    )

pub returns-in-Ok-clause-releases : goal.returns-in-Ok-clause-releases
returns-in-Ok-clause-releases g c =
    releases_done c.args.self.now _ c.self.inside.book.out c.args.right.loan (ap (λ s. s.heap) c.deref_mut.ensures.value) (ap (λ s. s.heap) c.self.view_is) c.self.invariant.3 c.replace_with-right.ensures.2 c.requires.lent.loan.0 (search rules) c.release.ensures.frame.keeps.lawful
    (sym c.in-Ok.is ∙ c.release.ensures.releases.answer_is) c.release.ensures.releases.heap
