use Rattle.tlsf_arena.proofs.Common.{◌≡◌, ℕ, sym, ap, subst, ◌∙◌, arith, allocated_words, HeapState, IsLawful, Holds, IsBook, lacking}
use Rattle.tlsf_arena.proofs.Books.{after_allocate, fresh_loan}
use Rattle.tlsf_arena.proofs.Holding.{kept}
use Rattle.tlsf_heap.specs.Steps.{Give}
use Rattle.tlsf_heap.proofs.lemmas.calls.Outcomes.{ids_step}
use Rattle.tlsf_arena.proofs.Mapped.{carves, lacks}
use Rattle.tlsf_arena.proofs.Maps.{holds_given}
use Rattle.tlsf_arena.proofs.arena.Arena.allocate.Goals as goal

pub replace_with-piece-requires : goal.replace_with-piece-requires
replace_with-piece-requires g c =
    let got = carves c.units_of-units.result (ap (λ s. s.heap) c.deref_mut.ensures.value) c.self.invariant.0 c.allocate_words.ensures.frame.keeps.was_lawful c.lacking.ensures (sym c.in_ok-name.was ∙ c.allocate_words.ensures.allocates.answer_is) c.allocate_words.ensures.allocates.heap
    c.grains_before.result c.bytes_of.result c.grains_before.ensures.grains c.bytes_of.ensures.grains in
    (got.0, omega (arith, c.units_of-units.ensures.least, c.bytes_of.ensures.least), c.bytes_of.ensures.whole)

pub invariant_of-self-2 : goal.invariant_of-self-2
invariant_of-self-2 g c =
    let a = c.self.inside in
    let k = c.units_of-units.result in
    let value = ap (λ s. s.heap) c.deref_mut.ensures.value in
    let got = carves k value c.self.invariant.0 c.allocate_words.ensures.frame.keeps.was_lawful c.lacking.ensures (sym c.in_ok-name.was ∙ c.allocate_words.ensures.allocates.answer_is) c.allocate_words.ensures.allocates.heap
    c.grains_before.result c.bytes_of.result c.grains_before.ensures.grains c.bytes_of.ensures.grains in
    let lent = c.replace_with-piece.ensures in
    let book = subst (IsBook a.book.out) (sym value) c.self.invariant.3 in (
      got.1 c.replace_with-piece.new.dest.free lent.2,
      (lent.0 ∙ c.self.invariant.1.0, c.self.invariant.1.1),
      c.self.invariant.2 ∙ ap (λ (h : HeapState). h.id) (sym value) ∙ sym (ap (λ (h : HeapState). h.id) c.allocate_words.ensures.allocates.heap ∙ ids_step g.row.SLI c.deref_mut.result.now.heap (Give k c.lacking.result)),
      after_allocate g.row.SLI c.self.invariant.0.level c.deref_mut.result.now.heap c.allocate_words.new.self.heap k c.lacking.result c.in_ok-name.name a.book.out c.replace_with-right.new.dest.out book c.lacking.ensures
          (sym c.allocate_words.ensures.allocates.answer_is ∙ c.in_ok-name.was) c.allocate_words.ensures.allocates.heap c.allocate_words.ensures.frame.keeps.lawful c.replace_with-right.ensures.1,
    )

pub replace_with-right-requires : goal.replace_with-right-requires
replace_with-right-requires g c =
    let a = c.self.inside in
    let book = subst (λ s. IsBook a.book.out s.heap) (sym c.deref_mut.ensures.value) c.self.invariant.3 in
    fresh_loan g.row.SLI c.deref_mut.result.now.heap c.units_of-units.result c.lacking.result c.in_ok-name.name a.book.out c.units_of-units.result c.allocate_words.ensures.frame.keeps.was_lawful book (sym c.allocate_words.ensures.allocates.answer_is ∙ c.in_ok-name.was)

pub returns-clause-holds : goal.returns-clause-holds
returns-clause-holds g c =
    let sli = g.row.SLI in
    let k = c.units_of-units.result in
    let name = c.in_ok-name.name in
    let heap = c.deref_mut.result.now.heap in
    let gives = sym (ap (λ (j : ℕ). (allocated_words sli heap k j).answer) c.lacking.ensures) ∙ sym c.allocate_words.ensures.allocates.answer_is ∙ c.in_ok-name.was in
    let left = c.allocate_words.ensures.allocates.heap ∙ ap (λ (j : ℕ). (allocated_words sli heap k j).heap) c.lacking.ensures in
    let holds = holds_given sli c.self.invariant.0.level heap k (lacking k) name (lacks k) gives (subst IsLawful left c.allocate_words.ensures.frame.keeps.lawful) in
    subst (λ (p : HeapState × ℕ). Holds p.0 name p.1) (λ i. (sym left i, c.units_of-units.ensures.units i)) holds

pub returns-clause-others : goal.returns-clause-others
returns-clause-others g c = λ other units holds.
    let heap = c.deref_mut.result.now.heap in
    let same : heap ≡ c.args.self.now.heap = ap (λ s. s.heap) c.deref_mut.ensures.value ∙ ap (λ s. s.heap) c.self.view_is in
    kept g.row.SLI heap c.allocate_words.new.self.heap other units (Give c.units_of-units.result c.lacking.result) tt c.allocate_words.ensures.allocates.heap c.allocate_words.ensures.frame.keeps.lawful
    (subst (λ (h : HeapState). Holds h other units) (sym same) holds)
