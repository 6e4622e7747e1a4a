-- Calls of a worker one after another make no more touches than all of them may, and take no memory.
use Rattle.tlsf_crew.proofs.Common.{◌≡◌, ◌∙◌, ℕ, ◌+◌, ◌≤◌, List, refl, ap, arith, Worker, WorksWithin, shown_of, Extent}

pub works_none : {sli : ℕ} {P : Type 0} (extents : P → List Extent) (n : ℕ) (a : Worker sli P) → WorksWithin extents n a a
works_none extents n a = record { touches = omega arith; touches_rise = omega arith; stays = (refl, refl) }

-- other ports with the same memory
pub works_ports : {sli : ℕ} {P : Type 0} (extents : P → List Extent) (n : ℕ) (a : Worker sli P) (ports : P) → extents ports ≡ extents a.ports → WorksWithin extents n a (record { heap = a.heap; id = a.id; ports = ports })
works_ports extents n a ports same = record { touches = omega arith; touches_rise = omega arith; stays = (refl, same) }

-- the same heap, and ports with the same memory
pub works_kept : {sli : ℕ} {P : Type 0} (extents : P → List Extent) (n : ℕ) (a v : Worker sli P) → shown_of v ≡ shown_of a → extents v.ports ≡ extents a.ports → WorksWithin extents n a v
works_kept extents n a v heap ports =
    let t = ap (λ h. h.touches) heap in
    record { touches = omega (arith, t); touches_rise = omega (arith, t); stays = (ap (λ h. h.extents) heap, ports) }

pub works_then : {sli : ℕ} {P : Type 0} (extents : P → List Extent) (m n k : ℕ) (a b v : Worker sli P) → WorksWithin extents m a b → WorksWithin extents n b v → m + n ≤ k → WorksWithin extents k a v
works_then extents m n k a b v first next few = record {
  touches = omega (arith, first.touches, next.touches, few);
  touches_rise = omega (arith, first.touches_rise, next.touches_rise);
  stays = (next.stays.0 ∙ first.stays.0, next.stays.1 ∙ first.stays.1);
}
