use Rattle.tlsf_crew.proofs.Common.{◌<◌, ◌≤◌, ℕ, zero, suc, slice_index, arith, Journal, IsAdmitted, EntersTake, MayTake}
use Rattle.tlsf_crew.proofs.scripts.journal.JournalNotes.admits.Goals as goal

-- as many as the limit says
within_limit : (x : Journal) (source n : ℕ) → source < 8 → n ≤ slice_index x.limits source → MayTake IsAdmitted EntersTake x source n
within_limit x source zero near few = tt
within_limit x source (suc n) near few = ((near, omega (arith, few)), λ at sender took z note. within_limit z source n near (omega (arith, few, note.fewer.0)))

pub returns-clause-yes : goal.returns-clause-yes
returns-clause-yes c = within_limit c.args.self.now c.args.source _ c.if-source-ge8.false (omega (arith, c.min.ensures))
