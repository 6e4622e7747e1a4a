use Rattle.tlsf_held.proofs.Common.{◌≡◌, drop, entries_of, steps_told, stepped_all, StepAccount}
use Rattle.tlsf_held.proofs.steps.steps_of.Given as goal

-- with what is left, the steps so far are those of all
abbrev pub invariant-loop-entry : goal.invariant-loop-entry
invariant-loop-entry l =
    let now : StepAccount = record { account = l.loans; steps = l.steps.items } in
    (stepped_all l.made now (entries_of l.worker (drop l.entry-index l.entries))).steps ≡ steps_told l.worker l.made l.entries
