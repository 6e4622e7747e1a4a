use Rattle.tlsf_held.proofs.Common.{◌≡◌, ◌≤◌, ◌*◌, ◌^◌, take, inventory_of, wanted_in}
use Rattle.tlsf_held.proofs.loans.words_of.Given as goal

-- the words of the loans so far, and a bound of them
abbrev pub invariant-loop-loan : goal.invariant-loop-loan
invariant-loop-loan l = record { is : l.words ≡ wanted_in (inventory_of (take l.loan-index l.loans)); few : l.words ≤ 2 ^ 32 * l.loan-index }
