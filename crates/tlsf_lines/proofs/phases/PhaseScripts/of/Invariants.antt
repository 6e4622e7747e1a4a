use Rattle.tlsf_lines.proofs.Common.{◌≡◌, ◌<◌, ◌^◌, All, map, vec_len, range_with_len, known_in, own_lines, scripts_in}
use Rattle.tlsf_lines.proofs.phases.PhaseScripts.of.Given as goal

-- what the workers so far do
abbrev pub invariant-loop-worker : goal.invariant-loop-worker
invariant-loop-worker l = record {
  names : l.names.names ≡ l.fn.names.names;
  lines : map (λ l. l.items) l.scripts.lines.items ≡ map (λ w. own_lines w l.phase) (range_with_len 0 l.worker);
  calls : map (λ c. c.items) l.scripts.calls.items ≡ scripts_in l.worker (known_in l.fn.names) l.phase;
  counts : (vec_len l.scripts.lines ≡ l.worker) × (vec_len l.scripts.calls ≡ l.worker);
  short : All (λ c. vec_len c < 2 ^ 32) l.scripts.calls.items;
}
