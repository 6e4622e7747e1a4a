use Rattle.tlsf_crew.proofs.Common.{◌≡◌, ◌≤◌, ℕ, map, slice_get, EachLastDrained, KeepRooms}
use Rattle.tlsf_crew.proofs.races.race.drain_all.Given as goal

abbrev pub invariant-loop-j : goal.invariant-loop-j
invariant-loop-j g l = record {
  last : EachLastDrained l.fn.workers (map (λ r. r.items) l.fn.records) (map (λ r. r.items) l.records) l.workers l.j;
  rooms : KeepRooms l.fn.records l.records;
  later : (k : ℕ) → l.j ≤ k → slice_get l.records k ≡ slice_get l.fn.records k;
}
