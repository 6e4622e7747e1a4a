use Rattle.tlsf_map.proofs.Common.{◌≡◌, ◌++◌, drop, string_bytes, named_items}
use Rattle.tlsf_map.proofs.html.write_named_items.Given as goal

-- what is written and the lines that are left are all
abbrev pub invariant-loop-number : goal.invariant-loop-number
invariant-loop-number l = string_bytes l.text ++ named_items (drop l.number l.named) ≡ string_bytes l.fn.text ++ named_items l.named
