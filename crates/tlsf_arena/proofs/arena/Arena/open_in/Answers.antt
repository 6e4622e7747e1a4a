use Rattle.tlsf_arena.proofs.Common.{◌≡◌, List, ◌*◌, ◌/◌, sym, ap, subst, ◌∙◌, arith, AllByRecursion, HeapState, HasRoom, Loan, IsBook}
use Rattle.tlsf_arena.proofs.Books.{no_loans}
use Rattle.tlsf_arena.proofs.Mapped.{few_units, opens}
use Rattle.tlsf_arena.proofs.UnitCases.{grains_of}
use Rattle.tlsf_arena.proofs.arena.Arena.open_in.Goals as goal

pub invariant_of-result : goal.invariant_of-result
invariant_of-result g c =
    let u = g.row.UNIT in
    let opened = c.in-Ok.ensures in
    let is : c.in-Ok-new.heap.value.heap ≡ c.in-Ok.heap.heap = ap (λ s. s.heap) c.in-Ok-new.ensures.ok in
    let rooms = subst (λ (h : HeapState). AllByRecursion HasRoom h.blocks) opened.heap opened.lawful.rooms in
    let most = few_units g.row.SLI c.args.units (λ no. let e = opened.bad_size.1 no in cc) in
    let space = c.new-base.ensures in
    let long : c.args.memory.size / 16 ≡ u / 16 * c.args.units = omega (arith, c.requires.size, grains_of u c.args.units c.requires.kind.1) in (
      opens g.row.SLI u c.args.units c.args.id c.args.memory.size c.in-Ok-new.heap.value.heap c.new-base.result.1.free c.requires.kind.0 c.requires.kind.1 rooms.0 most (is ∙ opened.heap) long space.3,
      (space.2 ∙ sym space.0, tt),
      sym (ap (λ (h : HeapState). h.id) (is ∙ opened.heap)),
      subst (λ (l : List Loan). IsBook l c.in-Ok-new.heap.value.heap) (sym c.new-2.ensures) (no_loans c.in-Ok-new.heap.value.heap),
    )
