use Rattle.tlsf_held.proofs.Common.{◌≡◌, ◌++◌, take, inventory_of, moved_steps}
use Rattle.tlsf_held.proofs.steps.push_moved.Given as goal

-- the steps of the loans so far
abbrev pub invariant-loop-loan : goal.invariant-loop-loan
invariant-loop-loan l = l.steps.items ≡ l.fn.steps.items ++ moved_steps l.name l.len (inventory_of (take l.loan-index l.loans))
