use Rattle.tlsf_map.proofs.Common.{take, string_bytes, Adds, all_told, title_of}
use Rattle.tlsf_map.proofs.text_page.write_heaps.Given as goal

-- the heaps so far have their titles
abbrev pub invariant-loop-number : goal.invariant-loop-number
invariant-loop-number l = Adds (all_told (title_of l.words) (take l.number l.heaps)) (string_bytes l.fn.text) (string_bytes l.text)
