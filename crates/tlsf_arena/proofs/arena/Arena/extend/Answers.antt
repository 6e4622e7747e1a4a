use Rattle.tlsf_arena.proofs.Common.{ℕ, ◌*◌, ◌<◌, sym, ap, subst, ◌∙◌, rules}
use Rattle.tlsf_arena.proofs.Books.{book_resized, id_resized, may_refit}
use Rattle.tlsf_arena.proofs.Effects.{resizes_done}
use Rattle.tlsf_arena.proofs.Mapped.{extends}
use Rattle.tlsf_arena.proofs.arena.Arena.extend.Goals as goal

pub replace_with-rest-requires : goal.replace_with-rest-requires
replace_with-rest-requires g c =
    let longer = subst (λ (j : ℕ). c.args.size < j) (ap (λ (j : ℕ). g.row.UNIT * j) (sym c.units_of-units.ensures.units) ∙ sym c.bytes_of.ensures.bytes) c.requires.longer in
    (extends c.self.inside.book.out c.args.right.loan (ap (λ s. s.heap) c.deref_mut.ensures.value) c.self.invariant.0 c.self.invariant.3 c.replace_with-right.ensures.2 c.requires.right.loan.0 c.resize_words.ensures.frame.keeps.was_lawful
    c.units_of-units.result c.lacking.ensures (sym c.in_default.is ∙ c.resize_words.ensures.resizes.answer_is) c.resize_words.ensures.resizes.heap c.grains_before.result c.bytes_of.result c.args.size c.grains_before.ensures.grains c.bytes_of.ensures.bytes c.requires.right.loan.1 longer).0

pub replace_with-right-requires-2 : goal.replace_with-right-requires-2
replace_with-right-requires-2 g c =
    may_refit c.units_of-units.result (ap (λ s. s.heap) c.deref_mut.ensures.value) c.self.invariant.3 c.replace_with-right.ensures c.requires.right.loan.0 (c.requires.right.book ∙ sym (ap (λ s. s.book) c.self.view_is))

pub invariant_of-self-2 : goal.invariant_of-self-2
invariant_of-self-2 g c =
    let value = ap (λ s. s.heap) c.deref_mut.ensures.value in
    let answer = sym c.in_default.is ∙ c.resize_words.ensures.resizes.answer_is in
    let heap = c.resize_words.ensures.resizes.heap in
    let longer = subst (λ (j : ℕ). c.args.size < j) (ap (λ (j : ℕ). g.row.UNIT * j) (sym c.units_of-units.ensures.units) ∙ sym c.bytes_of.ensures.bytes) c.requires.longer in
    let got = extends c.self.inside.book.out c.args.right.loan value c.self.invariant.0 c.self.invariant.3 c.replace_with-right.ensures.2 c.requires.right.loan.0 c.resize_words.ensures.frame.keeps.was_lawful
    c.units_of-units.result c.lacking.ensures answer heap c.grains_before.result c.bytes_of.result c.args.size c.grains_before.ensures.grains c.bytes_of.ensures.bytes c.requires.right.loan.1 longer in
    let lent = c.replace_with-rest.ensures in (
      got.1 c.replace_with-rest.new.dest.free lent.2,
      (lent.0 ∙ c.self.invariant.1.0, c.self.invariant.1.1),
      id_resized c.args.name c.units_of-units.result c.lacking.result c.self.inside.id value heap c.self.invariant.2,
      book_resized c.units_of-units.result value c.self.invariant.3 c.replace_with-right.ensures c.requires.right.loan.0 c.lacking.result c.replace_with-right-2.new.dest.out c.lacking.ensures answer heap c.resize_words.ensures.frame.keeps.lawful c.replace_with-right-2.ensures.0.1,
    )

pub returns-clause-resizes : goal.returns-clause-resizes
returns-clause-resizes g c =
    resizes_done c.args.self.now _ c.self.inside.book.out c.args.right.loan (ap (λ s. s.heap) c.deref_mut.ensures.value) (ap (λ s. s.heap) c.self.view_is) c.self.invariant.3 c.replace_with-right.ensures.2 c.requires.right.loan.0 (search rules) c.resize_words.ensures.frame.keeps.lawful
    g.row.UNIT c.args.len c.units_of-units.result c.lacking.result c.units_of-units.ensures.units c.lacking.ensures (sym c.in_default.is ∙ c.resize_words.ensures.resizes.answer_is) c.resize_words.ensures.resizes.heap
