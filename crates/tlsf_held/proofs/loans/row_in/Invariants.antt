use Rattle.tlsf_held.proofs.Common.{◌≡◌, ◌≤◌, take, lengths, inventory_of, row_in, row_of}
use Rattle.tlsf_held.proofs.loans.row_in.Given as goal

-- what the loans so far come to
abbrev pub invariant-loop-loan : goal.invariant-loop-loan
invariant-loop-loan g l = record { is : l.row ≡ row_in (row_of g.row.SLI l.grain) l.at (lengths (inventory_of (take l.loan-index l.loans))); few : l.row.most ≤ l.loan-index }
