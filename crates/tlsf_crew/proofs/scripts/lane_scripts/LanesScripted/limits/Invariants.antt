use Rattle.tlsf_crew.proofs.Common.{◌≡◌, ◌+◌, ◌<◌, ◌≤◌, ℕ, length, slice_index, count_of, lane_from}
use Rattle.tlsf_crew.proofs.scripts.lane_scripts.LanesScripted.limits.Given as goal

abbrev pub invariant-loop-i : goal.invariant-loop-i
invariant-loop-i g l = record {
  len : length l.limits ≡ 8;
  counted : (k : ℕ) → k < l.i → slice_index l.limits k ≡ count_of (lane_from l.self k) + slice_index l.releases k;
  few : (k : ℕ) → k < l.i → slice_index l.limits k ≤ 8589934590;
}
