use Rattle.tlsf_crew.proofs.Common.{◌≡◌, ◌<◌, ◌≤◌, ℕ, length, map, slice_index, script_of, releases_of}
use Rattle.tlsf_crew.proofs.jobs.preparation.count_all.Given as goal

abbrev pub invariant-loop-i : goal.invariant-loop-i
invariant-loop-i l = record {
  len : length l.counts ≡ 8;
  counted : (k : ℕ) → k < l.i → slice_index l.counts k ≡ releases_of (script_of (map (λ s. s.items) l.scripts) k);
  rest : (k : ℕ) → l.i ≤ k → slice_index l.counts k ≡ 0;
}
