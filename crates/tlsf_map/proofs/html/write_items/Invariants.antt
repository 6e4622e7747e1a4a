use Rattle.tlsf_map.proofs.Common.{◌≡◌, ◌++◌, drop, string_bytes, items_of}
use Rattle.tlsf_map.proofs.html.write_items.Given as goal

-- what is written and the blocks that are left are all
abbrev pub invariant-loop-number : goal.invariant-loop-number
invariant-loop-number l = string_bytes l.text ++ items_of (drop l.number l.blocks) ≡ string_bytes l.fn.text ++ items_of l.blocks
