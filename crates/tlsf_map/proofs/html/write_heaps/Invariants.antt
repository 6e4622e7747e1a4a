use Rattle.tlsf_map.proofs.Common.{take, string_bytes, Adds, all_told, heap_told}
use Rattle.tlsf_map.proofs.html.write_heaps.Given as goal

-- the heaps so far are told
abbrev pub invariant-loop-number : goal.invariant-loop-number
invariant-loop-number l = Adds (all_told (heap_told l.words) (take l.number l.heaps)) (string_bytes l.fn.text) (string_bytes l.text)
