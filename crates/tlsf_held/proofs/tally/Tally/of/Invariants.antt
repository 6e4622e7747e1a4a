use Rattle.tlsf_held.proofs.Common.{◌≡◌, ◌≤◌, drop, fold, entries_of, noted, tally_of}
use Rattle.tlsf_held.proofs.tally.Tally.of.Given as goal

-- with what is left, the tally so far is that of all; and no more blocks are held than entries were noted
abbrev pub invariant-loop-entry : goal.invariant-loop-entry
invariant-loop-entry l = record {
  so_far : fold (λ tally e. noted tally e.call e.reply) l.tally (entries_of l.worker (drop l.entry-index l.entries)) ≡ tally_of l.worker l.entries;
  few : l.tally.held ≤ l.entry-index;
}
