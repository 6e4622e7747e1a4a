use Rattle.tlsf_arena.proofs.Common.{◌+◌, ◌*◌, ◌/◌, refl, sym, ap, ◌∙◌, arith, rules}
use Rattle.tlsf_arena.proofs.Books.{book_resized, id_resized, may_refit}
use Rattle.tlsf_arena.proofs.Effects.{resizes_done}
use Rattle.tlsf_arena.proofs.Mapped.{refits}
use Rattle.tlsf_arena.proofs.arena.Arena.refit.Goals as goal

pub replace_with-requires : goal.replace_with-requires
replace_with-requires g c =
    let u = g.row.UNIT in
    let piece = c.args.piece in
    let region = c.requires.lent.region ∙ sym (ap (λ s. s.region) c.self.view_is) in
    let got = refits c.self.inside.book.out c.args.right.loan (ap (λ s. s.heap) c.deref_mut.ensures.value) c.self.invariant.0 c.self.invariant.3 c.replace_with-right.ensures.2 c.requires.lent.loan.0 c.resize_words.ensures.frame.keeps.was_lawful c.units_of-units.result c.lacking.ensures
    (sym c.in-Ok.is ∙ c.resize_words.ensures.resizes.answer_is) c.resize_words.ensures.resizes.heap c.self.inside.space.region.start piece.at piece.size (u / 16 * c.args.name.at) (16 * (u / 16 * c.units_of-units.result))
    (c.requires.lent.place ∙ ap (λ r. r.start + u * c.args.name.at) region) c.requires.lent.loan.1 refl (omega arith) in
    (region, got.0)

pub replace_with-piece-requires : goal.replace_with-piece-requires
replace_with-piece-requires g c =
    let u = g.row.UNIT in
    let piece = c.args.piece in
    let region = c.requires.lent.region ∙ sym (ap (λ s. s.region) c.self.view_is) in
    let got = refits c.self.inside.book.out c.args.right.loan (ap (λ s. s.heap) c.deref_mut.ensures.value) c.self.invariant.0 c.self.invariant.3 c.replace_with-right.ensures.2 c.requires.lent.loan.0 c.resize_words.ensures.frame.keeps.was_lawful c.units_of-units.result c.lacking.ensures
    (sym c.in-Ok.is ∙ c.resize_words.ensures.resizes.answer_is) c.resize_words.ensures.resizes.heap c.self.inside.space.region.start piece.at piece.size c.grains_before-at.result c.bytes_of-size.result
    (c.requires.lent.place ∙ ap (λ r. r.start + u * c.args.name.at) region) c.requires.lent.loan.1 c.grains_before-at.ensures.grains c.bytes_of-size.ensures.grains in
    let opened = got.1 c.replace_with.new.dest.free c.replace_with.ensures.2 in
    (opened.0, omega (arith, c.units_of-units.ensures.least, c.bytes_of-size.ensures.least), c.bytes_of-size.ensures.whole)

pub replace_with-right-requires-in-Ok : goal.replace_with-right-requires-in-Ok
replace_with-right-requires-in-Ok g c =
    may_refit c.units_of-units.result (ap (λ s. s.heap) c.deref_mut.ensures.value) c.self.invariant.3 c.replace_with-right.ensures c.requires.lent.loan.0 (c.requires.lent.book ∙ sym (ap (λ s. s.book) c.self.view_is))

pub invariant_of-self : goal.invariant_of-self
invariant_of-self g c =
    let u = g.row.UNIT in
    let piece = c.args.piece in
    let value = ap (λ s. s.heap) c.deref_mut.ensures.value in
    let answer = sym c.in-Ok.is ∙ c.resize_words.ensures.resizes.answer_is in
    let heap = c.resize_words.ensures.resizes.heap in
    let region = c.requires.lent.region ∙ sym (ap (λ s. s.region) c.self.view_is) in
    let got = refits c.self.inside.book.out c.args.right.loan value c.self.invariant.0 c.self.invariant.3 c.replace_with-right.ensures.2 c.requires.lent.loan.0 c.resize_words.ensures.frame.keeps.was_lawful c.units_of-units.result c.lacking.ensures
    answer heap c.self.inside.space.region.start piece.at piece.size c.grains_before-at.result c.bytes_of-size.result
    (c.requires.lent.place ∙ ap (λ r. r.start + u * c.args.name.at) region) c.requires.lent.loan.1 c.grains_before-at.ensures.grains c.bytes_of-size.ensures.grains in
    let opened = got.1 c.replace_with.new.dest.free c.replace_with.ensures.2 in
    let lent = c.replace_with-piece.ensures in (
      opened.1 c.replace_with-piece.new.dest.free lent.2,
      (lent.0 ∙ c.replace_with.ensures.0 ∙ c.self.invariant.1.0, c.self.invariant.1.1),
      id_resized c.args.name c.units_of-units.result c.lacking.result c.self.inside.id value heap c.self.invariant.2,
      book_resized c.units_of-units.result value c.self.invariant.3 c.replace_with-right.ensures c.requires.lent.loan.0 c.lacking.result c.replace_with-right-in-Ok.new.dest.out c.lacking.ensures answer heap c.resize_words.ensures.frame.keeps.lawful c.replace_with-right-in-Ok.ensures.0.1,
    )

pub returns-in-Ok-clause-resizes : goal.returns-in-Ok-clause-resizes
returns-in-Ok-clause-resizes g c =
    resizes_done c.args.self.now _ c.self.inside.book.out c.args.right.loan (ap (λ s. s.heap) c.deref_mut.ensures.value) (ap (λ s. s.heap) c.self.view_is) c.self.invariant.3 c.replace_with-right.ensures.2 c.requires.lent.loan.0 (search rules) c.resize_words.ensures.frame.keeps.lawful
    g.row.UNIT c.args.len c.units_of-units.result c.lacking.result c.units_of-units.ensures.units c.lacking.ensures (sym c.in-Ok.is ∙ c.resize_words.ensures.resizes.answer_is) c.resize_words.ensures.resizes.heap
