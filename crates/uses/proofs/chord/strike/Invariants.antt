-- Each note so far has a pipe, the pool's bounds are as they were, and each note took at most 43 touches.
use Rattle.std.proofs.Common.{◌≡◌, ◌+◌, ◌*◌, ◌≤◌}
use Rattle.uses.proofs.chord.strike.Given as goal

abbrev pub invariant-loop-note : goal.invariant-loop-note
invariant-loop-note l =
    (l.organ.ledger.held ≡ l.initial.organ.ledger.held + l.note-index) × (l.organ.ledger.most ≡ l.initial.organ.ledger.most)
    × (l.organ.ledger.longest ≡ l.initial.organ.ledger.longest)
    × (l.organ.touches ≤ l.initial.organ.touches + 43 * l.note-index)
