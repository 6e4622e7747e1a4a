use Rattle.tlsf_arena.proofs.Common.{◌≡◌, sym, ap, ◌∙◌, arith, placed_at, free_units_in}
use Rattle.tlsf_arena.proofs.Mapped.{whole_arena}
use Rattle.tlsf_arena.proofs.arena.Arena.into_memory.Goals as goal

pub into_memory-requires : goal.into_memory-requires
into_memory-requires g c =
    let a = c.self.inside in
    let mapped = c.self.invariant.0 in
    let first : free_units_in (placed_at a.heap.value.heap.blocks 0) ≡ a.units =
    ap (λ s. free_units_in (placed_at s.heap.blocks 0)) (sym c.deref_mut.ensures.value) ∙ sym c.free_at_start-free.ensures.size ∙ c.if-free-units.true in
    let b = c.bytes_of.ensures in
    ((omega (arith, mapped.least, b.least), b.whole, omega (arith, mapped.most, b.most)), whole_arena g.row.SLI g.row.UNIT a.units c.bytes_of.result a.heap.value.heap a.space.free mapped first b.grains)
