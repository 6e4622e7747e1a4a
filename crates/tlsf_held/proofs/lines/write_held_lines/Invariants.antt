use Rattle.tlsf_held.proofs.Common.{◌≡◌, ◌++◌, string_bytes, held_text, account_of, tally_of}
use Rattle.tlsf_held.proofs.lines.write_held_lines.Given as goal

abbrev pub invariant-loop-worker : goal.invariant-loop-worker
invariant-loop-worker g l = string_bytes l.text
    ≡ string_bytes l.fn.text ++ held_text g.row.SLI l.words (λ j. (tally_of j l.entries).most) (λ j. (tally_of j l.entries).longest) (λ j. (account_of j l.made l.entries).most) l.worker
