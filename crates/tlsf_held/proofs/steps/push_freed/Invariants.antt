use Rattle.tlsf_held.proofs.Common.{◌≡◌, ◌++◌, take, inventory_of, freed_steps}
use Rattle.tlsf_held.proofs.steps.push_freed.Given as goal

-- the steps of the loans so far
abbrev pub invariant-loop-loan : goal.invariant-loop-loan
invariant-loop-loan l = l.steps.items ≡ l.fn.steps.items ++ freed_steps l.name (inventory_of (take l.loan-index l.loans))
