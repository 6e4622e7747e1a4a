use Rattle.tlsf_arena.proofs.Common.{◌≡◌, ℕ, ◌+◌, ◌*◌, sym, ap, ◌∙◌, rules, piece_size}
use Rattle.tlsf_arena.proofs.Books.{book_resized, id_resized, may_refit}
use Rattle.tlsf_arena.proofs.Effects.{resizes_done}
use Rattle.tlsf_arena.proofs.Mapped.{shortens}
use Rattle.tlsf_arena.proofs.arena.Arena.trim.Goals as goal

pub replace_with-requires : goal.replace_with-requires
replace_with-requires g c =
    let u = g.row.UNIT in
    let tail = c.args.tail in
    let start = c.self.inside.space.region.start in
    let region = c.requires.region ∙ sym (ap (λ s. s.region) c.self.view_is) in
    let wanted : piece_size u c.args.len ≡ u * c.units_of-units.result = ap (λ (j : ℕ). u * j) (sym c.units_of-units.ensures.units) in
    let got = shortens c.self.inside.book.out c.args.right.loan (ap (λ s. s.heap) c.deref_mut.ensures.value) c.self.invariant.0 c.self.invariant.3 c.replace_with-right.ensures.2 c.requires.right.loan.0 c.resize_words.ensures.frame.keeps.was_lawful c.units_of-units.result c.lacking.ensures
    (sym c.in_default.is ∙ c.resize_words.ensures.resizes.answer_is) c.resize_words.ensures.resizes.heap start tail.at tail.size
    (c.requires.place ∙ (λ i. (region i).start + u * c.args.name.at + wanted i)) (sym c.requires.right.loan.1 ∙ ap (λ (j : ℕ). j + tail.size) wanted) in
    (region, got.0)

pub replace_with-requires-2 : goal.replace_with-requires-2
replace_with-requires-2 g c =
    may_refit c.units_of-units.result (ap (λ s. s.heap) c.deref_mut.ensures.value) c.self.invariant.3 c.replace_with-right.ensures c.requires.right.loan.0 (c.requires.right.book ∙ sym (ap (λ s. s.book) c.self.view_is))

pub invariant_of-self-2 : goal.invariant_of-self-2
invariant_of-self-2 g c =
    let u = g.row.UNIT in
    let tail = c.args.tail in
    let start = c.self.inside.space.region.start in
    let value = ap (λ s. s.heap) c.deref_mut.ensures.value in
    let answer = sym c.in_default.is ∙ c.resize_words.ensures.resizes.answer_is in
    let heap = c.resize_words.ensures.resizes.heap in
    let region = c.requires.region ∙ sym (ap (λ s. s.region) c.self.view_is) in
    let wanted : piece_size u c.args.len ≡ u * c.units_of-units.result = ap (λ (j : ℕ). u * j) (sym c.units_of-units.ensures.units) in
    let got = shortens c.self.inside.book.out c.args.right.loan value c.self.invariant.0 c.self.invariant.3 c.replace_with-right.ensures.2 c.requires.right.loan.0 c.resize_words.ensures.frame.keeps.was_lawful c.units_of-units.result c.lacking.ensures answer heap start tail.at tail.size
    (c.requires.place ∙ (λ i. (region i).start + u * c.args.name.at + wanted i)) (sym c.requires.right.loan.1 ∙ ap (λ (j : ℕ). j + tail.size) wanted) in
    let back = c.replace_with.ensures in (
      got.1 c.replace_with.new.dest.free back.2,
      (back.0 ∙ c.self.invariant.1.0, c.self.invariant.1.1),
      id_resized c.args.name c.units_of-units.result c.lacking.result c.self.inside.id value heap c.self.invariant.2,
      book_resized c.units_of-units.result value c.self.invariant.3 c.replace_with-right.ensures c.requires.right.loan.0 c.lacking.result c.replace_with-2.new.dest.out c.lacking.ensures answer heap c.resize_words.ensures.frame.keeps.lawful c.replace_with-2.ensures.0.1,
    )

pub returns-clause-resizes : goal.returns-clause-resizes
returns-clause-resizes g c =
    resizes_done c.args.self.now _ c.self.inside.book.out c.args.right.loan (ap (λ s. s.heap) c.deref_mut.ensures.value) (ap (λ s. s.heap) c.self.view_is) c.self.invariant.3 c.replace_with-right.ensures.2 c.requires.right.loan.0 (search rules) c.resize_words.ensures.frame.keeps.lawful
    g.row.UNIT c.args.len c.units_of-units.result c.lacking.result c.units_of-units.ensures.units c.lacking.ensures (sym c.in_default.is ∙ c.resize_words.ensures.resizes.answer_is) c.resize_words.ensures.resizes.heap
