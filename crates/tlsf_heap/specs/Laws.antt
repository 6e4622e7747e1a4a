-- Where the blocks of a heap lie, and how long a name is live.
use Rattle.std.specs.Prelude.{◌≡◌, ◌≢◌, ℕ, ◌+◌, ◌<◌, ◌≤◌, Ok, IsSome}
use Rattle.std.specs.List.{AllByRecursion}
use Rattle.tlsf_heap.specs.Blocks.{HeapState, size_of, serials}
use Rattle.tlsf_heap.specs.GoodFit.{place_of, site_at}
use Rattle.tlsf_heap.specs.Calls.{allocated, named, released}
use Rattle.tlsf_heap.specs.declared.name.Name.{Name}

-- the place behind the last word of block i
abbrev pub end_of : HeapState → ℕ → ℕ
end_of h i = place_of (site_at h.blocks i) + size_of (site_at h.blocks i).block

-- block i ends before block j begins
abbrev pub LieApart : HeapState → ℕ → ℕ → Type 0
LieApart h i j = end_of h i ≤ place_of (site_at h.blocks j)

-- block i ends in the region
abbrev pub LieInRegion : HeapState → ℕ → Type 0
LieInRegion h i = end_of h i ≤ h.words

-- the name is of this heap, and a live block of it has that place and serial
abbrev pub IsLive : HeapState → Name → Type 0
IsLive h name = (name.heap ≡ h.id) × IsSome (named name h.blocks)

-- a request of `len` bytes gets this name
abbrev pub IsGiven : ℕ → HeapState → ℕ → Name → Type 0
IsGiven sli h len name = (allocated sli h len).answer ≡ Ok name

-- the release of this name is accepted
abbrev pub IsTaken : HeapState → Name → Type 0
IsTaken h name = (released h name).answer ≡ Ok tt

-- a serial is of a past tick, and no live block has it
pub record IsGone (h : HeapState) (serial : ℕ) : Type 0 where
  pub past : serial < h.tick
  pub absent : AllByRecursion (λ y. y ≢ serial) (serials h.blocks)
