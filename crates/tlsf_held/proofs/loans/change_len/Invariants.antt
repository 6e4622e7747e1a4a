use Rattle.tlsf_held.proofs.Common.{◌≡◌, ◌++◌, drop, map, take, with_len}
use Rattle.tlsf_held.proofs.loans.change_len.Given as goal

-- the loans so far have the length, and the others are as before
abbrev pub invariant-loop-loan : goal.invariant-loop-loan
invariant-loop-loan l = l.loans ≡ map (with_len l.name l.len) (take l.loan-index l.initial.loans) ++ drop l.loan-index l.initial.loans
