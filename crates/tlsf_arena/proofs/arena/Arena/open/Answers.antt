use Rattle.tlsf_arena.proofs.Common.{◌≡◌, ℕ, List, ◌/◌, true, replicate, sym, ap, subst, ◌∙◌, AllByRecursion, HeapState, HasRoom, Loan, IsBook}
use Rattle.tlsf_arena.proofs.Books.{no_loans}
use Rattle.tlsf_arena.proofs.Mapped.{few_units, opens}
use Rattle.tlsf_arena.proofs.arena.Arena.open.Goals as goal

pub invariant_of-result : goal.invariant_of-result
invariant_of-result g c =
    let u = g.row.UNIT in
    let opened = c.in_ok-heap.ensures in
    let is : c.in-Ok.heap.value.heap ≡ c.in_ok-heap.heap.heap = ap (λ s. s.heap) c.in-Ok.ensures.ok in
    let rooms = subst (λ (h : HeapState). AllByRecursion HasRoom h.blocks) opened.heap opened.lawful.rooms in
    let most = few_units g.row.SLI c.args.units (λ no. let e = opened.bad_size.1 no in cc) in
    let memory = c.in-Some.ensures in
    let space = c.new-base.ensures in
    let lease = c.located-lease.ensures.0 in (
      opens g.row.SLI u c.args.units c.args.id c.bytes_of.result c.in-Ok.heap.value.heap c.new-base.result.1.free c.requires.kind.0 c.requires.kind.1 rooms.0 most (is ∙ opened.heap) c.bytes_of.ensures.grains
          (space.3 ∙ ap (λ (m : ℕ). replicate (m / 16) true) memory.0),
      (space.2 ∙ sym space.0, (ap (λ l. l.alloc) lease ∙ memory.1, (ap (λ l. l.ptr) lease ∙ memory.2 ∙ sym space.0, ap (λ l. l.size) lease ∙ memory.3 ∙ c.bytes_of.ensures.bytes))),
      sym (ap (λ (h : HeapState). h.id) (is ∙ opened.heap)),
      subst (λ (l : List Loan). IsBook l c.in-Ok.heap.value.heap) (sym c.new-3.ensures) (no_loans c.in-Ok.heap.value.heap),
    )
