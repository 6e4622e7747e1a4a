use Rattle.tlsf_held.proofs.Common.{◌≡◌, drop, fold, entries_of, accounted, account_of}
use Rattle.tlsf_held.proofs.loans.Loans.of.Given as goal

-- with what is left, the account so far is that of all
abbrev pub invariant-loop-entry : goal.invariant-loop-entry
invariant-loop-entry l = fold (λ account e. accounted l.made account e.call e.reply) l.loans (entries_of l.worker (drop l.entry-index l.entries)) ≡ account_of l.worker l.made l.entries
