use Rattle.tlsf_pool.proofs.Common.{◌≡◌, ◌-◌, length, parts_of}
use Rattle.tlsf_pool.proofs.lemmas.pools.Opened.{OpenedSoFar}
use Rattle.tlsf_pool.proofs.pools.opening.open_parts.Given as goal

-- a heap is open for each part so far
abbrev pub invariant-loop-at : goal.invariant-loop-at
invariant-loop-at g l = record {
  so_far : OpenedSoFar g.row.SLI l.id l.first (parts_of l.split l.fn.kinds) (l.split.heaps - l.at) l.split.lens l.rest l.parts.items;
  as_many : length l.parts.items ≡ l.at;
}
